-- The result of the calls that make a member.
use Rattle.std.proofs.Common.{◌≡◌, ◌∙◌, sym, ap, subst, refl, ℕ, ◌+◌, ◌%◌, ◌&&◌, ◌==◌, max, Bool, true, false, cond, List, [], ◌∷◌, ◌++◌, length, Option, Some, arith}
use Rattle.std.specs.List.{list_any}
use Rattle.std.specs.Option.{is_some}
use Rattle.std.proofs.lemmas.Bool.{and_parts, eqb-true}
use Rattle.vol_file.specs.Changes.{spliced}
use Rattle.vol_layout.specs.declared.mode.DeviceId.{DeviceId}
use Rattle.vol_dir.specs.Access.{user}
use Rattle.vol_dir.specs.Names.{Names}
use Rattle.vol_dir.specs.Tree.{Content, Body, Directory, Node, Tree, State}
use Rattle.vol_dir.specs.Walk.{map_of, has_zero, is_directory}
use Rattle.vol_dir.specs.declared.cred.Cred.{Cred}
use Rattle.vol_change.specs.Edits.{body_of, new_content, with_owner, with_permission_bits}
use Rattle.vol_change.specs.declared.new_nodes.NewFile.TheVariants.{Special}
use Rattle.vol_volume.specs.Journal.{MayFollow}
use Rattle.vol_volume.specs.Step.{step}
use Rattle.vol_volume.specs.Verdict.{verdict}
use Rattle.vol_volume.specs.declared.calls.Call.{Call}
use Rattle.vol_volume.specs.declared.calls.Call.TheVariants as calls
use Rattle.vol_volume.specs.declared.calls.Done.{Done}
use Rattle.vol_import.specs.Plan.{file_calls, write_calls, owner_calls, special_calls, directory_calls, given_calls}
use Rattle.vol_import.proofs.DotWalks.{DotsLead}
use Rattle.vol_import.proofs.GrownTrees.{Gives, LeadsToDirectory, filled, write_changes, chown_changes, chmod_changes, gains_changed, directory_given}
use Rattle.vol_batch.proofs.MadeNames.{Gains, Stays, grown_path, grows_then, no_names, owner_then, told}
use Rattle.vol_batch.proofs.MadePaths.{create_gains, mkdir_gains, mknod_gains, spliced_all}
use Rattle.vol_volume.proofs.TreeWalks.{passes_first}

-- a state leads to another by accepted calls, and in each state on the way `.` leads to its own directory
abbrev pub IsRun : State → List Call → State → Type 0
IsRun old [] new = new ≡ old
IsRun old (call ∷ calls) new =
    (done : Done) × MayFollow old (record { call = call; done = done }) × DotsLead (step old call done).tree × IsRun (step old call done) calls new

-- in the last state too, `.` leads to its own directory
pub run_dots : (old new : State) (calls : List Call) → DotsLead old.tree → IsRun old calls new → DotsLead new.tree
run_dots old new [] dots run = subst (λ (s : State). DotsLead s.tree) (sym run) dots
run_dots old new (call ∷ calls) dots run = run_dots (step old call run.0) new calls run.2 run.3

-- a run of calls consists of a run of its first part and a run of its second part
pub run_parts : (old new : State) (front rest : List Call) → IsRun old (front ++ rest) new
    → (mid : State) × IsRun old front mid × IsRun mid rest new
run_parts old new [] rest run = (old, refl, run)
run_parts old new (call ∷ front) rest run =
    let parts = run_parts (step old call run.0) new front rest run.3 in
    (parts.0, (run.0, run.1, run.2, parts.1), parts.2)

-- a tree has gained a new node with these facts
pub record GainsNode (old new : Tree) (path : List ℕ) (facts : Content × ℕ × ℕ × ℕ × ℕ × ℕ) : Type 0 where
  pub node : Node
  pub gains : Gains old new path node
  pub facts_told : told node ≡ facts

-- writing bytes to a new file gives it these bytes
written : (old : Tree) (now : ℕ) (path bytes : List ℕ) (perm : ℕ) (mid new : State) → GainsNode old mid.tree path (Body [], perm, 0, 0, 0, now)
    → IsRun mid (write_calls now path bytes) new → GainsNode old new.tree path (Body bytes, perm, 0, 0, length bytes, now)
written old now path [] perm mid new has run =
    subst (λ (s : State). GainsNode old s.tree path (Body [], perm, 0, 0, 0, now)) (sym run) has
written old now path (byte ∷ bytes) perm mid new has run =
    let all = byte ∷ bytes in
    let changes = write_changes mid now path bytes byte run.0 has.gains.leads.number has.gains.leads.walked in
    let content : has.node.content ≡ Body [] = ap (λ (f : Content × ℕ × ℕ × ℕ × ℕ × ℕ). f.0) has.facts_told in
    let most : max 0 (0 + length all) ≡ length all = omega arith in
    let names = no_names (Some has.node) (Some (filled now all has.node)) (ap (λ (c : Content). is_some (map_of c)) content) in
    subst (λ (s : State). GainsNode old s.tree path (Body all, perm, 0, 0, length all, now)) (sym run.3) (record {
      node = filled now all has.node;
      gains = gains_changed old mid.tree _ path has.node (filled now all) has.gains changes names;
      facts_told =
          ap (λ (f : Content × ℕ × ℕ × ℕ × ℕ × ℕ). (Body (spliced (body_of f.0) 0 all), f.1, f.2, f.3, max f.4 (0 + length all), now)) has.facts_told
          ∙ (ap (λ bytes. (Body bytes, perm, 0, 0, max 0 (0 + length all), now)) (spliced_all all) ∙ ap (λ size. (Body all, perm, 0, 0, size, now)) most);
    })

-- giving a new node its owner sets its owner and group
owned : (old : Tree) (now : ℕ) (path : List ℕ) (owner : Cred) (content : Content) (perm size : ℕ) (mid new : State)
    → GainsNode old mid.tree path (content, perm, 0, 0, size, now) → IsRun mid (owner_calls now path owner) new
    → GainsNode old new.tree path (content, perm, owner.uid, owner.gid, size, now)
owned old now path owner content perm size mid new has = by (owner.uid == 0 && owner.gid == 0) refl
  where
    by : (none : Bool) → (owner.uid == 0 && owner.gid == 0) ≡ none → IsRun mid (cond none [] (calls.Chown user now path owner.uid owner.gid ∷ [])) new
        → GainsNode old new.tree path (content, perm, owner.uid, owner.gid, size, now)
    by true e run =
        let both = and_parts (owner.uid == 0) (owner.gid == 0) e in
        let facts = λ (uid gid : ℕ). GainsNode old new.tree path (content, perm, uid, gid, size, now) in
        subst (λ uid. facts uid owner.gid) (sym (eqb-true owner.uid 0 both.0))
        (subst (facts 0) (sym (eqb-true owner.gid 0 both.1)) (subst (λ (s : State). GainsNode old s.tree path (content, perm, 0, 0, size, now)) (sym run) has))
    by false e run =
        let changes = chown_changes mid now path owner.uid owner.gid run.0 has.gains.leads.number has.gains.leads.walked in
        subst (λ (s : State). GainsNode old s.tree path (content, perm, owner.uid, owner.gid, size, now)) (sym run.3) (record {
          node = with_owner now owner.uid owner.gid has.node;
          gains = gains_changed old mid.tree _ path has.node (with_owner now owner.uid owner.gid) has.gains changes (λ name i is. is);
          facts_told = ap (λ (f : Content × ℕ × ℕ × ℕ × ℕ × ℕ). (f.0, f.1, owner.uid, owner.gid, f.4, f.5)) has.facts_told;
        })

-- the calls for a regular file make it
pub file_made : (old new : State) (now perm : ℕ) (path content : List ℕ) (owner : Cred) → IsRun old (file_calls now path perm owner content) new
    → GainsNode old.tree new.tree path (Body content, perm % 4096, owner.uid, owner.gid, length content, now) × (list_any has_zero (path ∷ []) ≡ false)
unfolding verdict
file_made old new now perm path content owner run =
    let made = step old (calls.Create user now path perm) run.0 in
    let parts = run_parts made new (write_calls now path content) (owner_calls now path owner) run.3 in
    let empty : GainsNode old.tree made.tree path (Body [], perm % 4096, 0, 0, 0, now) =
    record { node = _; gains = create_gains old now perm path run.0 run.1.accepted run.1.answered; facts_told = refl } in (
      owned old.tree now path owner (Body content) (perm % 4096) (length content) parts.0 new
          (written old.tree now path content (perm % 4096) made parts.0 empty parts.1) parts.2,
      (passes_first old.tree path _ run.1.accepted).no_zero,
    )

-- the calls for a special file make it
pub special_made : (old new : State) (now perm : ℕ) (path : List ℕ) (owner : Cred) (device : DeviceId)
    → IsRun old (special_calls now path perm owner device) new
    → GainsNode old.tree new.tree path (new_content old.tree.geometry.edition (Special device), perm % 4096, owner.uid, owner.gid, 0, now)
    × (list_any has_zero (path ∷ []) ≡ false)
unfolding verdict
special_made old new now perm path owner device run = (
  owned old.tree now path owner (new_content old.tree.geometry.edition (Special device)) (perm % 4096) 0
      (step old (calls.Mknod user now path perm device) run.0) new
      (record { node = _; gains = mknod_gains old now perm device path run.0 run.1.accepted run.1.answered; facts_told = refl }) run.3,
  (passes_first old.tree path _ run.1.accepted).no_zero,
)

-- the calls for a directory make it
pub directory_made : (old new : State) (now perm : ℕ) (path : List ℕ) (owner : Cred) → IsRun old (directory_calls now path perm owner) new
    → (names : Names) × GainsNode old.tree new.tree path (Directory names, perm % 4096, owner.uid, owner.gid, 32, now)
    × (list_any has_zero (path ∷ []) ≡ false)
unfolding verdict
directory_made old new now perm path owner run =
    let made = mkdir_gains old now perm path run.0 run.1.accepted run.1.answered in (
      made.0,
      owned old.tree now path owner (Directory made.0) (perm % 4096) 32 (step old (calls.Mkdir user now path perm) run.0) new
          (record { node = _; gains = made.1; facts_told = refl }) run.3,
      (passes_first old.tree path _ run.1.accepted).no_zero,
    )

-- a Chmod gives a directory its permissions
pub chmod_gives : (old : State) (now perm : ℕ) (path : List ℕ) (done : Done) (led : LeadsToDirectory old.tree path)
    → Gives old.tree (step old (calls.Chmod user now path perm) done).tree led.1.number (perm % 4096, led.0.uid, led.0.gid)
chmod_gives old now perm path done led =
    directory_given old.tree _ path (with_permission_bits now perm) _ led (chmod_changes old now path perm done led.1.number led.1.walked)
    (λ name i is. is) refl refl

-- a Chmod and a Chown give a directory its permissions and its owner
pub given_gives : (old new : State) (now perm : ℕ) (path : List ℕ) (owner : Cred) (led : LeadsToDirectory old.tree path)
    → IsRun old (given_calls now path perm owner) new
    → Gives old.tree new.tree led.1.number (perm % 4096, owner.uid, owner.gid) × (list_any has_zero (path ∷ []) ≡ false)
unfolding verdict
given_gives old new now perm path owner led run =
    let i = led.1.number in
    let mid = step old (calls.Chmod user now path perm) run.0 in
    let first = chmod_gives old now perm path run.0 led in
    let is : is_directory first.node ≡ true = kind (first.grows.kept i).1 led.0 led.1.stands first.node first.stands led.2 in
    let next : LeadsToDirectory mid.tree path = (
      first.node,
      record { number = i; walked = grown_path old.tree mid.tree path i first.grows led.1.walked; stands = first.stands },
      is,
    ) in
    let last = step mid (calls.Chown user now path owner.uid owner.gid) run.3.0 in
    let perm_given = ap (λ (o : ℕ × ℕ × ℕ). o.0) first.owned in
    let second = directory_given mid.tree last.tree path (with_owner now owner.uid owner.gid) (perm % 4096, owner.uid, owner.gid) next
    (chown_changes mid now path owner.uid owner.gid run.3.0 i next.1.walked) (λ name j is. is) refl
    (ap (λ p. (p, owner.uid, owner.gid)) perm_given) in (
      subst (λ (s : State). Gives old.tree s.tree i (perm % 4096, owner.uid, owner.gid)) (sym run.3.3) (record {
        grows = grows_then old.tree mid.tree last.tree first.grows second.grows;
        beside = λ x other. owner_then (old.tree.nodes x) (mid.tree.nodes x) (last.tree.nodes x) (first.beside x other) (second.beside x other);
        node = second.node;
        stands = second.stands;
        owned = second.owned;
      }),
      (passes_first old.tree path _ run.1.accepted).no_zero,
    )
  where
    kind : {old new : Option Node} → Stays old new → (x : Node) → old ≡ Some x → (next : Node) → new ≡ Some next → is_directory x ≡ true
        → is_directory next ≡ true
    kind stays x was next is directory =
        let kept = stays x was in
        let same : Some next ≡ Some kept.0 = sym is ∙ kept.1 in
        let here : next ≡ kept.0 = cc in
        ap is_directory here ∙ (kept.2 ∙ directory)
