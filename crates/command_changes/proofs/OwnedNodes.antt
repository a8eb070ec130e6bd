-- A Chown gives the node at its path to its new owner.
use Rattle.std.proofs.Common.{◌∙◌, refl, sym, ap, subst, ℕ, List, None, Option, Some}
use Rattle.std.specs.Prelude.{Result}
use Rattle.std.specs.Option.{option_map}
use Rattle.vol_dir.specs.Access.{user}
use Rattle.vol_dir.specs.Tree.{Node, State}
use Rattle.vol_dir.specs.declared.refusal.Refusal.{Refusal}
use Rattle.vol_change.specs.Edits.{at_time, with_owner}
use Rattle.vol_change.specs.Effects.{after_chown}
use Rattle.vol_change.proofs.NodeEdits.{set_here}
use Rattle.vol_volume.specs.Step.{changed_by, on_node, step}
use Rattle.vol_batch.proofs.MadeNames.{HasNamesOf, LeadsTo, names_set, path_kept}
use Rattle.vol_volume.specs.declared.calls.Call.TheVariants as calls
use Rattle.vol_volume.specs.declared.calls.Done.{Done}

-- a node that gets an owner keeps its names
owned_names : (now uid gid : ℕ) (node : Option Node) → HasNamesOf node (option_map (with_owner now uid gid) node)
owned_names now uid gid None name i is = is
owned_names now uid gid (Some node) name i is = is

-- after a Chown the path leads to the same node, with its new owner
pub chown_leads : (state : State) (now : ℕ) (path : List ℕ) (uid gid : ℕ) (done : Done) (node : Node) → LeadsTo state.tree path node
    → LeadsTo (step state (calls.Chown user now path uid gid) done).tree path (with_owner now uid gid node)
unfolding changed_by
chown_leads state now path uid gid done node leads =
    let i = leads.number in
    let nodes = state.tree.nodes in
    let changed = option_map (with_owner now uid gid) (nodes i) in
    let new = (at_time now (after_chown state now uid gid i)).tree in
    subst (λ (r : Result ℕ Refusal). LeadsTo (at_time now (on_node state r (after_chown state now uid gid))).tree path (with_owner now uid gid node))
    (sym leads.walked) (record {
      number = i;
      walked = path_kept state.tree new path i refl (names_set nodes i changed (owned_names now uid gid (nodes i))) leads.walked;
      stands = set_here nodes i changed ∙ ap (option_map (with_owner now uid gid)) leads.stands;
    })
