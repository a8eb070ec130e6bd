-- After `chmod` the node at its path has the permissions that the change makes of those before.
use Rattle.std.proofs.Common.{◌≡◌, ◌≢◌, ◌∙◌, refl, sym, ap, subst, ℕ, ◌%◌, false, List, [], ◌∷◌, map, None, Ok, Option, Some}
use Rattle.std.specs.Prelude.{Result}
use Rattle.std.specs.List.{list_any}
use Rattle.std.specs.Option.{option_map}
use Rattle.vol_layout.specs.Geometry.{geometry_of}
use Rattle.vol_dir.specs.Access.{user}
use Rattle.vol_dir.specs.Tree.{Node, Tree, State}
use Rattle.vol_dir.specs.Walk.{has_zero, walk}
use Rattle.vol_dir.specs.declared.refusal.Refusal.{Refusal}
use Rattle.vol_change.specs.Edits.{at_time, with_permission_bits}
use Rattle.vol_change.specs.Effects.{after_chmod}
use Rattle.vol_change.proofs.NodeEdits.{set_here}
use Rattle.vol_volume.specs.Answer.{answer, stat_of}
use Rattle.vol_volume.specs.Journal.{IsLegal, after}
use Rattle.vol_volume.specs.Step.{changed_by, on_node, step}
use Rattle.vol_volume.specs.Verdict.{first_of, of_node, owner_tests, verdict}
use Rattle.vol_volume.specs.Volume.{reads_as}
use Rattle.vol_batch.proofs.MadeNames.{HasNamesOf, names_set, path_kept}
use Rattle.vol_batch.proofs.MadePaths.{node_found, stat_answered}
use Rattle.vol_volume.proofs.TreeWalks.{passes_first}
use Rattle.command_faults.specs.ChangeFaults.{AreLeft, Makes}
use Rattle.command_changes.specs.Chmod.{HasPermissions, chmod_call}
use Rattle.command_changes.specs.Put.{permissions_of, target_by}
use Rattle.command_changes.proofs.PutBytes.{IsThere, there_in}
use Rattle.command_terms.specs.Permissions.{changed_permissions}
use Rattle.command_terms.specs.declared.permissions.PermissionChange.{PermissionChange}
use Rattle.vol_layout.specs.declared.edition.Edition.{Edition}
use Rattle.vol_volume.specs.declared.calls.Call.{Call}
use Rattle.vol_volume.specs.declared.calls.Call.TheVariants as calls
use Rattle.vol_volume.specs.declared.calls.Done.{Done}
use Rattle.vol_volume.specs.declared.calls.Record.{Record}
use Rattle.vol_volume.specs.declared.queries.Query.TheVariants as queries
use Rattle.vol_volume.specs.declared.queries.Reply.{Reply}

-- a node whose permissions are set keeps its names
permitted_names : (now perm : ℕ) (node : Option Node) → HasNamesOf node (option_map (with_permission_bits now perm) node)
permitted_names now perm None name i is = is
permitted_names now perm (Some node) name i is = is

-- if a path leads to a node whose permissions were set to those that the change makes of the old ones, a Stat of it says so
permitted_node : (old new : Tree) (path : List ℕ) (change : PermissionChange) (now perm i : ℕ) (was : Option Node) → list_any has_zero (path ∷ []) ≡ false
    → perm ≡ changed_permissions change (permissions_of (target_by (answer old (queries.Stat user path))))
    → walk old user path ≡ Ok i → walk new user path ≡ Ok i → old.nodes i ≡ was → new.nodes i ≡ option_map (with_permission_bits now perm) was → new.nodes i ≢ None
    → HasPermissions old path change new
permitted_node old new path change now perm i None plain asked walked still before is some = absurd (some is)
permitted_node old new path change now perm i (Some node) plain asked walked still before is some =
    let was = stat_answered old path node plain (record { number = i; walked = walked; stands = before }) in
    record {
      before = stat_of i node;
      was = was;
      after = stat_of i (with_permission_bits now perm node);
      is = stat_answered new path (with_permission_bits now perm node) plain (record { number = i; walked = still; stands = is });
      changed = ap (λ p. p % 4096) (asked ∙ ap (λ (reply : Result Reply Refusal). changed_permissions change (permissions_of (target_by reply))) was);
    }

-- an accepted Chmod to the permissions that the change makes of the old ones leaves the node with these
permitted : (state : State) (now : ℕ) (path : List ℕ) (change : PermissionChange) (perm : ℕ) (done : Done) → verdict state (calls.Chmod user now path perm) ≡ None
    → perm ≡ changed_permissions change (permissions_of (target_by (answer state.tree (queries.Stat user path))))
    → IsThere path (step state (calls.Chmod user now path perm) done).tree
    → HasPermissions state.tree path change (step state (calls.Chmod user now path perm) done).tree
unfolding verdict changed_by
permitted state now path change perm done accepted asked there =
    let first = passes_first state.tree path (of_node (walk state.tree user path) (λ i. first_of (owner_tests state.tree user i))) accepted in
    let led = node_found (walk state.tree user path) (λ i. first_of (owner_tests state.tree user i)) first.others_pass in
    let nodes = state.tree.nodes in
    let was = nodes led.0 in
    let new = (at_time now (after_chmod state now perm led.0)).tree in
    subst (λ (t : Tree). IsThere path t → HasPermissions state.tree path change t)
    (sym (ap (λ (r : Result ℕ Refusal). (at_time now (on_node state r (after_chmod state now perm))).tree) led.1))
    (λ (some : IsThere path new).
    let walked = path_kept state.tree new path led.0 refl (names_set nodes led.0 (option_map (with_permission_bits now perm) was) (permitted_names now perm was)) led.1 in
    permitted_node state.tree new path change now perm led.0 was first.no_zero asked led.1 walked refl
    (set_here nodes led.0 (option_map (with_permission_bits now perm) was)) (some led.0 walked))
    there

-- the recorded call of `chmod` leaves the node at its path with the permissions that the change makes of the old ones
permitted_by : (edition : Edition) (image bytes path : List ℕ) (change : PermissionChange) (now : ℕ) (journal : List Record)
    → map (λ (entry : Record). entry.call) journal ≡ chmod_call (reads_as edition image).tree now path change ∷ [] → IsLegal (reads_as edition image) journal
    → AreLeft (geometry_of edition image) image journal bytes
    → HasPermissions (reads_as edition image).tree path change (after (reads_as edition image) journal).tree
permitted_by edition image bytes path change now [] asked legal left = absurd (cc)
permitted_by edition image bytes path change now (first ∷ []) asked legal left =
    let was = reads_as edition image in
    let perm = changed_permissions change (permissions_of (target_by (answer was.tree (queries.Stat user path)))) in
    let one : first.call ≡ calls.Chmod user now path perm = cc in
    let there = there_in (geometry_of edition image) left.0 path (step was first.call first.done) left.1.changes.ready left.1.changes.makes in
    subst (λ (c : Call). verdict was c ≡ None → IsThere path (step was c first.done).tree → HasPermissions was.tree path change (step was c first.done).tree) (sym one)
    (λ accepted there. permitted was now path change perm first.done accepted refl there) legal.0.accepted there
permitted_by edition image bytes path change now (first ∷ (second ∷ rest)) asked legal left = absurd (cc)

-- after `chmod` the node at its path has the permissions that the change makes of those before
pub chmod_leaves : (edition : Edition) (image bytes path : List ℕ) (change : PermissionChange) (now : ℕ)
    → Makes edition image (chmod_call (reads_as edition image).tree now path change ∷ []) bytes
    → HasPermissions (reads_as edition image).tree path change (reads_as edition bytes).tree
chmod_leaves edition image bytes path change now makes =
    subst (λ (s : State). HasPermissions (reads_as edition image).tree path change s.tree) (sym makes.reads)
    (permitted_by edition image bytes path change now makes.journal makes.asked makes.legal makes.left)
