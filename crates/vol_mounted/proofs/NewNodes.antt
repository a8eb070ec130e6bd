-- The node that MKNOD or MKDIR makes: its i-number was free, and the name leads to it.
use Rattle.std.proofs.Common.{◌≡◌, ◌≢◌, ◌∙◌, ◌⊎◌, sym, ap, subst, refl, ℕ, ◌<◌, arith, Bool, true, false, List, [], ◌∷◌, ◌++◌, length, Option, None, Some, Result, Ok, inl, inr}
use Rattle.std.specs.Prelude.{nat_lt, nat_le, is_none, not, ◌==◌, ◌&&◌, if◌then◌else◌}
use Rattle.std.specs.List.{list_any}
use Rattle.std.specs.Option.{option_map}
use Rattle.std.proofs.lemmas.Bool.{and_parts, cases_eq, false≢true}
use Rattle.std.proofs.lemmas.Bool.Decides.{nat_tests}
use Rattle.vol_dir.specs.Walk.{is_plain, IsComponent, root, walk}
use Rattle.vol_layout.specs.Geometry.{Fits, geometry_of}
use Rattle.vol_dir.specs.Access.{user}
use Rattle.vol_dir.specs.Tree.{Node, State, Tree}
use Rattle.vol_dir.specs.declared.cred.Cred.{Cred}
use Rattle.vol_judge.specs.Sound.{IsSound}
use Rattle.vol_dir.specs.declared.refusal.Refusal.{Refusal}
use Rattle.vol_change.specs.Edits.{at_time, with_owner}
use Rattle.vol_change.specs.Effects.{after_chown}
use Rattle.vol_serve.specs.Nodes.{look_up}
use Rattle.vol_serve.proofs.RepliedNodes.{names_lead_as_walks}
use Rattle.vol_volume.specs.Journal.{MayAnswer}
use Rattle.vol_volume.specs.Step.{changed_by, made_number, on_node, step}
use Rattle.vol_volume.specs.Verdict.{verdict, is_free_number}
use Rattle.vol_volume.specs.Volume.{Mounted, Accepts}
use Rattle.vol_volume.specs.declared.calls.Call.{Call}
use Rattle.vol_volume.specs.declared.calls.Call.TheVariants as calls
use Rattle.vol_volume.specs.declared.calls.Done.{Done}
use Rattle.vol_volume.specs.declared.calls.Done.TheVariants.{Made, Wrote, Plain}
use Rattle.vol_batch.specs.Batch.{AreMade}
use Rattle.vol_batch.proofs.MadeNames.{Gains, HasNamesOf, KeepsNames, gains_made, grown_path, names_set, path_kept}
use Rattle.vol_batch.proofs.MadePaths.{creation_makes, made_free, mkdir_gains}
use Rattle.vol_mounted.specs.Plans.{given_to}
use Rattle.vol_mounted.proofs.FreeNodes.{StaysFree, state_of, step_free, reads_next}
use Rattle.vol_mounted.proofs.MakingPlans.{MakesAt}

-- a node was made where there was none, a name leads to it, and no other node was made
pub record Bears (old new : Mounted) (d : ℕ) (name : List ℕ) : Type 0 where
  pub number : ℕ
  pub free : (state_of old).tree.nodes number ≡ None
  pub above : number ≢ root (state_of old).tree
  pub looks : look_up (state_of new).tree d name ≡ Ok number
  pub others : (x : ℕ) → x ≢ number → StaysFree x (state_of old) (state_of new)

-- a free number is above the root's
free_above : (tree : Tree) (i : ℕ) → is_free_number tree i ≡ true → i ≢ root tree
free_above tree i free same =
    let above = (and_parts (nat_lt (root tree) i) (nat_le i tree.geometry.last_inode && is_none (tree.nodes i)) free).0 in
    let low : root tree < i = grind (arith, nat_tests, above) in
    omega (arith, low, same)

-- the node that a call makes isn't the root
made_above : (state : State) (call : Call) (done : Done) (now perm : ℕ) (path : List ℕ) → MakesAt call now perm path → MayAnswer state call done
    → made_number done ≢ root state.tree
made_above state call done now perm path (inl (file, is)) may =
    let made = made_free file state now perm path done (subst (λ call. MayAnswer state call done) is may) in
    subst (λ (done : Done). made_number done ≢ root state.tree) (sym made.1) (free_above state.tree made.0 made.2)
made_above state call done now perm path (inr is) may = above done (subst (λ call. MayAnswer state call done) is may)
  where
    above : (done : Done) → MayAnswer state (calls.Mkdir user now path perm) done → made_number done ≢ root state.tree
    above (Made i) free = free_above state.tree i free
    above (Wrote n) none = absurd none
    above Plain none = absurd none

-- an accepted call that makes a node
made_gains : (state : State) (call : Call) (done : Done) (now perm : ℕ) (path : List ℕ) → MakesAt call now perm path → verdict state call ≡ None
    → MayAnswer state call done → (node : Node) × Gains state.tree (step state call done).tree path node
made_gains state call done now perm path (inl (file, is)) accepted may =
    subst (λ call. (node : Node) × Gains state.tree (step state call done).tree path node) (sym is) (
      _,
      gains_made state.tree _ path _ (creation_makes file state now perm path done (subst (λ call. verdict state call ≡ None) is accepted)
          (subst (λ call. MayAnswer state call done) is may)),
    )
made_gains state call done now perm path (inr is) accepted may =
    let made = mkdir_gains state now perm path done (subst (λ call. verdict state call ≡ None) is accepted) (subst (λ call. MayAnswer state call done) is may) in
    subst (λ call. (node : Node) × Gains state.tree (step state call done).tree path node) (sym is) (_, made.1)

-- the image of a volume that accepted a call is sound
pub sound_next : (old new : Mounted) (call : Call) (done : Done) → Accepts old new call done
    → Fits (geometry_of new.edition new.image) new.image × IsSound new.edition new.image
sound_next old new call done accepts =
    let ready = accepts.performed.changes.ready in
    let whole : Fits (geometry_of old.edition new.image) new.image × IsSound old.edition new.image =
    (subst (λ g. Fits g new.image) ready.sizes ready.fits, ready.sound) in
    subst (λ edition. Fits (geometry_of edition new.image) new.image × IsSound edition new.image) (sym accepts.edition) whole

-- a plain name of at most 14 bytes is a component of paths
component : (name : List ℕ) → nat_lt 14 (length name) ≡ false → is_plain name ≡ true → IsComponent name
component [] short plain = absurd (false≢true plain)
component (c ∷ name) short plain = record { some = omega arith; short = grind (arith, nat_tests, short); plain = by (list_any (λ c. c == 47) (c ∷ name)) plain }
  where
    by : (b : Bool) → not b ≡ true → b ≡ false
    by true it = absurd (false≢true it)
    by false it = refl

-- a change of the owner keeps all names
given_names : (now uid gid : ℕ) (node : Option Node) → HasNamesOf node (option_map (with_owner now uid gid) node)
given_names now uid gid None = λ name i is. is
given_names now uid gid (Some node) = λ name i is. is

chown_keeps : (state : State) (now : ℕ) (path : List ℕ) (uid gid : ℕ) (done : Done) (i : ℕ) → walk state.tree user path ≡ Ok i
    → (root (step state (calls.Chown user now path uid gid) done).tree ≡ root state.tree)
    × KeepsNames state.tree.nodes (step state (calls.Chown user now path uid gid) done).tree.nodes
unfolding changed_by
chown_keeps state now path uid gid done i walked =
    subst (λ (r : Result ℕ Refusal). (root (at_time now (on_node state r (after_chown state now uid gid))).tree ≡ root state.tree)
    × KeepsNames state.tree.nodes (at_time now (on_node state r (after_chown state now uid gid))).tree.nodes) (sym walked)
    (refl, names_set state.tree.nodes i (option_map (with_owner now uid gid) (state.tree.nodes i)) (given_names now uid gid (state.tree.nodes i)))

-- a path to a new node in a directory, and what later calls left of it
bears_by : (old mid new : Mounted) (path name : List ℕ) (d k : ℕ) (node : Node) → Fits (geometry_of new.edition new.image) new.image × IsSound new.edition new.image
    → IsComponent name → (gains : Gains (state_of old).tree (state_of mid).tree (path ++ 47 ∷ name) node)
    → walk (state_of new).tree user path ≡ Ok d → walk (state_of new).tree user (path ++ 47 ∷ name) ≡ Ok gains.leads.number → k ≢ root (state_of old).tree
    → ((x : ℕ) → x ≢ k → StaysFree x (state_of old) (state_of mid)) → ((x : ℕ) → StaysFree x (state_of mid) (state_of new)) → Bears old new d name
bears_by old mid new path name d k node sound is gains to leads above others after =
    let n = gains.leads.number in
    let same : n ≡ k = elim (cases_eq n k) [
      | inl same ↦ same
      | inr other ↦ let both : None ≡ Some node = sym (others n other gains.free) ∙ gains.leads.stands in absurd (cc)
    ] in
    record {
      number = n;
      free = gains.free;
      above = λ at. above (sym same ∙ at);
      looks = (names_lead_as_walks new.edition new.image path name d n (record { fits = sound.0; sound = sound.1; walked = to }) is).1 leads;
      others = λ x other free. after x (others x (λ at. other (at ∙ sym same)) free);
    }

-- the nodes that the first call, and then a change of the owner, leave free
once_free : (old new : Mounted) (call : Call) (done : Done) (x : ℕ) → Accepts old new call done → x ≢ made_number done → StaysFree x (state_of old) (state_of new)
once_free old new call done x accepts other free =
    ap (λ (state : State). state.tree.nodes x) (reads_next old new call done accepts) ∙ step_free (state_of old) call done x (λ is. other) free

given_free : (old new : Mounted) (now : ℕ) (path : List ℕ) (uid gid : ℕ) (done : Done) (x : ℕ) → Accepts old new (calls.Chown user now path uid gid) done
    → StaysFree x (state_of old) (state_of new)
given_free old new now path uid gid done x accepts free =
    ap (λ (state : State). state.tree.nodes x) (reads_next old new (calls.Chown user now path uid gid) done accepts)
    ∙ step_free (state_of old) (calls.Chown user now path uid gid) done x (λ is. absurd (false≢true is)) free

-- the first call alone
bears_once : (old new : Mounted) (call : Call) (done : Done) (now perm : ℕ) (path name : List ℕ) (d : ℕ) → MakesAt call now perm (path ++ 47 ∷ name)
    → Accepts old new call done → walk (state_of old).tree user path ≡ Ok d → IsComponent name → Bears old new d name
bears_once old new call done now perm path name d makes accepts walked is =
    let full = path ++ 47 ∷ name in
    let made = made_gains (state_of old) call done now perm full makes accepts.accepted accepts.performed.answered in
    let gains = subst (λ (state : State). Gains (state_of old).tree state.tree full made.0) (sym (reads_next old new call done accepts)) made.1 in
    bears_by old new new path name d (made_number done) made.0 (sound_next old new call done accepts) is gains
    (grown_path (state_of old).tree (state_of new).tree path d gains.grows walked) gains.leads.walked
    (made_above (state_of old) call done now perm full makes accepts.performed.answered)
    (λ x other. once_free old new call done x accepts other) (λ x free. free)

-- the first call and a change of the owner
bears_given : (old mid new : Mounted) (call : Call) (done after : Done) (now perm uid gid : ℕ) (path name : List ℕ) (d : ℕ)
    → MakesAt call now perm (path ++ 47 ∷ name) → Accepts old mid call done → Accepts mid new (calls.Chown user now (path ++ 47 ∷ name) uid gid) after
    → walk (state_of old).tree user path ≡ Ok d → IsComponent name → Bears old new d name
bears_given old mid new call done after now perm uid gid path name d makes accepts gives walked is =
    let full = path ++ 47 ∷ name in
    let made = made_gains (state_of old) call done now perm full makes accepts.accepted accepts.performed.answered in
    let gains = subst (λ (state : State). Gains (state_of old).tree state.tree full made.0) (sym (reads_next old mid call done accepts)) made.1 in
    let there = grown_path (state_of old).tree (state_of mid).tree path d gains.grows walked in
    let keeps = subst (λ (state : State). (root state.tree ≡ root (state_of mid).tree) × KeepsNames (state_of mid).tree.nodes state.tree.nodes)
    (sym (reads_next mid new (calls.Chown user now full uid gid) after gives))
    (chown_keeps (state_of mid) now full uid gid after gains.leads.number gains.leads.walked) in
    bears_by old mid new path name d (made_number done) made.0 (sound_next mid new (calls.Chown user now full uid gid) after gives) is gains
    (path_kept (state_of mid).tree (state_of new).tree path d keeps.0 keeps.1 there)
    (path_kept (state_of mid).tree (state_of new).tree full gains.leads.number keeps.0 keeps.1 gains.leads.walked)
    (made_above (state_of old) call done now perm full makes accepts.performed.answered)
    (λ x other. once_free old mid call done x accepts other) (λ x. given_free mid new now full uid gid after x gives)

-- the first calls of MKNOD and MKDIR, if any was made
pub bears : (old new : Mounted) (front rest : List Call) (call : Call) (owner : Cred) (now perm : ℕ) (path name : List ℕ) (d : ℕ)
    → MakesAt call now perm (path ++ 47 ∷ name) → call ∷ given_to owner now (path ++ 47 ∷ name) ≡ front ++ rest → AreMade old front new
    → walk (state_of old).tree user path ≡ Ok d → nat_lt 14 (length name) ≡ false → is_plain name ≡ true → (new ≡ old) ⊎ Bears old new d name
unfolding AreMade
bears old new front rest call owner now perm path name d makes is made walked short plain = by (owner.uid == 0 && owner.gid == 0) front is made
  where
    once : (mid : Mounted) (first : Call) (done : Done) → first ≡ call → Accepts old mid first done → new ≡ mid → Bears old new d name
    once mid first done same accepts end =
        bears_once old new call done now perm path name d makes
        (subst (λ volume. Accepts old volume call done) (sym end) (subst (λ call. Accepts old mid call done) same accepts)) walked (component name short plain)

    by : (b : Bool) (front : List Call)
        → call ∷ (if b then [] else calls.Chown user now (path ++ 47 ∷ name) owner.uid owner.gid ∷ []) ≡ front ++ rest → AreMade old front new
        → (new ≡ old) ⊎ Bears old new d name
    by b [] is same = inl same
    by true (first ∷ []) is (mid, done, accepts, same) = inr (once mid first done (cc) accepts same)
    by true (first ∷ (second ∷ front)) is made = absurd (cc)
    by false (first ∷ []) is (mid, done, accepts, same) = inr (once mid first done (cc) accepts same)
    by false (first ∷ (second ∷ [])) is (mid, done, accepts, (late, after, gives, same)) =
        let chown = calls.Chown user now (path ++ 47 ∷ name) owner.uid owner.gid in
        let one : first ≡ call = cc in
        let two : second ≡ chown = cc in
        inr (bears_given old mid new call done after now perm owner.uid owner.gid path name d makes
        (subst (λ call. Accepts old mid call done) one accepts)
        (subst (λ volume. Accepts mid volume chown after) (sym same) (subst (λ call. Accepts mid late call after) two gives))
        walked (component name short plain))
    by false (first ∷ (second ∷ (third ∷ front))) is made = absurd (cc)
