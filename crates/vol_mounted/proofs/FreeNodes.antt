-- Calls that make no node leave free i-numbers free; CREATE and MKDIR make one node.
use Rattle.std.proofs.Common.{◌≡◌, ◌≢◌, ◌∙◌, sym, ap, refl, ℕ, ◌+◌, arith, Bool, true, false, List, [], ◌∷◌, ◌++◌, length, length-append, Option, None, Some, Result, Ok, Err, inl, inr}
use Rattle.std.specs.Prelude.{nat_le, if◌then◌else◌}
use Rattle.std.specs.List.{list_any}
use Rattle.std.specs.Option.{option_map}
use Rattle.std.proofs.lemmas.Bool.{cases_eq, or_parts, true≢false}
use Rattle.vol_dir.specs.Tree.{Node, State}
use Rattle.vol_dir.specs.Walk.{walk, walk_parent}
use Rattle.vol_dir.specs.declared.cred.Cred.{Cred}
use Rattle.vol_dir.specs.declared.refusal.Refusal.{Refusal}
use Rattle.vol_change.specs.Edits.{set_at, change_node, put_node, put_shape, remove_node, new_node, new_directory, add_entry, add_link, drop_link, remove_entry, release, after_write, after_truncate}
use Rattle.vol_change.specs.Effects.{after_create, after_mkdir, after_link, after_unlink, after_rmdir, after_chmod, after_chown, after_utime}
use Rattle.vol_change.specs.Nodes.{node_at, number_of_name}
use Rattle.vol_change.specs.declared.new_nodes.NewFile.{NewFile}
use Rattle.vol_change.specs.declared.new_nodes.NewFile.TheVariants.{Regular, Special}
use Rattle.vol_change.specs.Shapes.{new_directory_shape}
use Rattle.vol_change.proofs.NodeEdits.{set_here}
use Rattle.vol_change.proofs.SideStates.{set_beside}
use Rattle.vol_volume.specs.Step.{step, changed_by, on_node, on_parent, made_number}
use Rattle.vol_volume.specs.Volume.{Mounted, Accepts, reads_as}
use Rattle.vol_volume.specs.declared.calls.Call.{Call}
use Rattle.vol_volume.specs.declared.calls.Call.TheVariants.{Create, Mkdir, Mknod, Link, Unlink, Rmdir, Write, Truncate, Chmod, Chown, Times}
use Rattle.vol_volume.specs.declared.calls.Done.{Done}
use Rattle.vol_volume.proofs.Journals.{reads_made}
use Rattle.vol_batch.specs.Batch.{AreMade, AreStopped}

-- node x stays free
abbrev pub StaysFree : ℕ → State → State → Type 0
StaysFree x old new = old.tree.nodes x ≡ None → new.tree.nodes x ≡ None

-- changing a node, or removing it
changed_free : (state : State) (i : ℕ) (change : Node → Node) (x : ℕ) → StaysFree x state (change_node i change state)
changed_free state i change x free = elim (cases_eq x i) [
  | inl here ↦
      ap (set_at state.tree.nodes i (option_map change (state.tree.nodes i))) here
      ∙ (set_here state.tree.nodes i (option_map change (state.tree.nodes i)) ∙ ap (option_map change) (ap state.tree.nodes (sym here) ∙ free))
  | inr other ↦ set_beside state.tree.nodes i (option_map change (state.tree.nodes i)) x other ∙ free
]

removed_free : (state : State) (i x : ℕ) → StaysFree x state (remove_node i state)
removed_free state i x free = elim (cases_eq x i) [
  | inl here ↦ ap (set_at state.tree.nodes i None) here ∙ set_here state.tree.nodes i None
  | inr other ↦ set_beside state.tree.nodes i None x other ∙ free
]

put_free : (state : State) (i : ℕ) (node : Option Node) (x : ℕ) → x ≢ i → StaysFree x state (put_node i node state)
put_free state i node x other free = set_beside state.tree.nodes i node x other ∙ free

released_free : (state : State) (now i x : ℕ) → StaysFree x state (release now i state)
released_free state now i x free = by (nat_le (node_at state.tree i).links 1)
  where
    by : (b : Bool) → (if b then remove_node i state else drop_link now i state).tree.nodes x ≡ None
    by true = removed_free state i x free
    by false = changed_free state i _ x free

written_free : (state : State) (now offset i : ℕ) (bytes : List ℕ) (x : ℕ) → StaysFree x state (after_write state now offset bytes i)
written_free state now offset i [] x free = free
written_free state now offset i (byte ∷ bytes) x free = changed_free state i _ x free

-- a change at the end of a walk
node_free : (state : State) (walked : Result ℕ Refusal) (change : ℕ → State) (x : ℕ) → ((i : ℕ) → StaysFree x state (change i))
    → StaysFree x state (on_node state walked change)
node_free state (Err refusal) change x each free = free
node_free state (Ok i) change x each free = each i free

parent_free : (state : State) (walked : Option (Result (ℕ × List ℕ) Refusal)) (change : ℕ → List ℕ → State) (x : ℕ)
    → ((d : ℕ) (name : List ℕ) → StaysFree x state (change d name)) → StaysFree x state (on_parent state walked change)
parent_free state None change x each free = free
parent_free state (Some (Err refusal)) change x each free = free
parent_free state (Some (Ok found)) change x each free = each found.0 found.1 free

-- the creation of a file
file_free : (file : NewFile) (state : State) (cred : Cred) (now perm made : ℕ) (path : List ℕ) (x : ℕ) → x ≢ made
    → StaysFree x state (on_parent state (walk_parent state.tree cred path) (after_create state cred now perm file made))
file_free file state cred now perm made path x other =
    parent_free state (walk_parent state.tree cred path) (after_create state cred now perm file made) x
    (λ d name free. changed_free (put_node made _ state) d _ x (put_free state made _ x other free))

-- true for the calls that make a node
abbrev pub makes : Call → Bool
makes (Create cred now path perm) = true
makes (Mkdir cred now path perm) = true
makes (Mknod cred now path perm device) = true
makes call = false

-- a call leaves each free i-number free but the one of the node that it makes
pub step_free : (state : State) (call : Call) (done : Done) (x : ℕ) → (makes call ≡ true → x ≢ made_number done) → StaysFree x state (step state call done)
unfolding changed_by
step_free state (Create cred now path perm) done x other = file_free Regular state cred now perm (made_number done) path x (other refl)
step_free state (Mknod cred now path perm device) done x other =
    file_free (Special device) state cred now perm (made_number done) path x (other refl)
step_free state (Mkdir cred now path perm) done x other =
    parent_free state (walk_parent state.tree cred path) (after_mkdir state cred now perm (made_number done)) x
    (λ d name free.
    let made = made_number done in
    let node = new_node state.tree.geometry.edition cred now perm (new_directory made d) 2 32 in
    let put = put_shape made (new_directory_shape state.tree.geometry.edition) (put_node made (Some node) state) in
    changed_free (add_entry now d name made put) d _ x (changed_free put d _ x (put_free state made (Some node) x (other refl) free)))
step_free state (Link cred now source target) done x other =
    node_free state (walk state.tree cred source) (λ i. on_parent state (walk_parent state.tree cred target) (after_link state now i)) x
    (λ i. parent_free state (walk_parent state.tree cred target) (after_link state now i) x
    (λ d name free. changed_free (add_link now i state) d _ x (changed_free state i _ x free)))
step_free state (Unlink cred now path) done x other =
    parent_free state (walk_parent state.tree cred path) (after_unlink state now) x
    (λ d name free. released_free (remove_entry now d name state) now (number_of_name state.tree d name) x (changed_free state d _ x free))
step_free state (Rmdir cred now path) done x other =
    parent_free state (walk_parent state.tree cred path) (after_rmdir state now) x
    (λ d name free. removed_free (drop_link now d (remove_entry now d name state)) (number_of_name state.tree d name) x
    (changed_free (remove_entry now d name state) d _ x (changed_free state d _ x free)))
step_free state (Write cred now path offset bytes) done x other =
    node_free state (walk state.tree cred path) (after_write state now offset bytes) x (λ i. written_free state now offset i bytes x)
step_free state (Truncate cred now path size) done x other =
    node_free state (walk state.tree cred path) (after_truncate state now size) x (λ i. changed_free state i _ x)
step_free state (Chmod cred now path perm) done x other =
    node_free state (walk state.tree cred path) (after_chmod state now perm) x (λ i. changed_free state i _ x)
step_free state (Chown cred now path uid gid) done x other =
    node_free state (walk state.tree cred path) (after_chown state now uid gid) x (λ i. changed_free state i _ x)
step_free state (Times cred now path atime mtime) done x other =
    node_free state (walk state.tree cred path) (after_utime state now atime mtime) x (λ i. changed_free state i _ x)

-- the state of a volume
abbrev pub state_of : Mounted → State
state_of volume = reads_as volume.edition volume.image

-- after an accepted call, a volume reads as the state after the step
pub reads_next : (old new : Mounted) (call : Call) (done : Done) → Accepts old new call done → state_of new ≡ step (state_of old) call done
reads_next old new call done accepts =
    ap (λ edition. reads_as edition new.image) accepts.edition ∙ reads_made old.edition old.image new.image call done accepts.performed

-- calls that make no node
pub made_free : (old new : Mounted) (calls : List Call) (x : ℕ) → AreMade old calls new → list_any makes calls ≡ false → StaysFree x (state_of old) (state_of new)
unfolding AreMade
made_free old new [] x same none free = ap (λ (volume : Mounted). (state_of volume).tree.nodes x) same ∙ free
made_free old new (call ∷ calls) x (between, done, accepts, made) none free =
    let parts = or_parts (makes call) (list_any makes calls) none in
    made_free between new calls x made parts.1
    (ap (λ (state : State). state.tree.nodes x) (reads_next old between call done accepts)
    ∙ step_free (state_of old) call done x (λ is. absurd (true≢false (sym is ∙ parts.0))) free)

-- calls keep the edition
pub made_edition : (old new : Mounted) (calls : List Call) → AreMade old calls new → new.edition ≡ old.edition
unfolding AreMade
made_edition old new [] same = ap (λ (volume : Mounted). volume.edition) same
made_edition old new (call ∷ calls) (between, done, accepts, made) = made_edition between new calls made ∙ accepts.edition

-- each call that is made is in the journal
pub made_count : (old new : Mounted) (calls : List Call) → AreMade old calls new → length new.journal ≡ length old.journal + length calls
unfolding AreMade
made_count old new [] same =
    let is = ap (λ (volume : Mounted). length volume.journal) same in omega (arith, is)
made_count old new (call ∷ calls) (between, done, accepts, made) =
    let rest = made_count between new calls made in
    let first = ap length accepts.journal ∙ length-append old.journal (record { call = call; done = done } ∷ []) in
    omega (arith, rest, first)

-- the calls that were made before one was refused
pub stopped_front : (old new : Mounted) (calls : List Call) (refusal : Refusal) (stopped : Call) → AreStopped old calls new refusal stopped
    → (front rest : List Call) × (calls ≡ front ++ rest) × AreMade old front new
unfolding AreMade AreStopped
stopped_front old new [] refusal stopped none = absurd none
stopped_front old new (call ∷ calls) refusal stopped (inl (is, refused, same)) = ([], call ∷ calls, refl, same)
stopped_front old new (call ∷ calls) refusal stopped (inr (between, done, accepts, made)) =
    let more = stopped_front between new calls refusal stopped made in
    (call ∷ more.0, more.1, ap (λ calls. call ∷ calls) more.2, (between, done, accepts, more.3))
