-- Calls that change one node.
use Rattle.std.proofs.Common.{◌≡◌, ◌≢◌, ◌∙◌, sym, ap, subst, refl, ℕ, List, [], ◌∷◌, ◌++◌, Option, None, Some, Result, Ok}
use Rattle.std.specs.Option.{option_map, option_to_list}
use Rattle.vol_dir.specs.Access.{user}
use Rattle.vol_dir.specs.Tree.{Content, Node, State}
use Rattle.vol_dir.specs.Walk.{map_of, root, walk}
use Rattle.vol_dir.specs.declared.refusal.Refusal.{Refusal}
use Rattle.vol_change.specs.Edits.{at_time, modified, set_at, with_owner, with_permission_bits, with_times}
use Rattle.vol_change.specs.Effects.{after_chmod, after_chown, after_utime}
use Rattle.vol_change.proofs.NodeEdits.{set_here}
use Rattle.vol_change.proofs.SideStates.{set_beside}
use Rattle.vol_volume.specs.Step.{changed_by, on_node, step}
use Rattle.vol_volume.specs.Volume.{Accepts, Mounted}
use Rattle.vol_volume.specs.declared.calls.Call.{Call}
use Rattle.vol_volume.specs.declared.calls.Call.TheVariants as calls
use Rattle.vol_volume.specs.declared.calls.Done.{Done}
use Rattle.vol_batch.specs.Batch.{AreMade}
use Rattle.vol_batch.proofs.MadeNames.{HasNamesOf, found, found_in, names_set, path_kept}
use Rattle.vol_volume.proofs.TreeWalks.{named}
use Rattle.vol_mounted.proofs.FreeNodes.{reads_next, state_of}
use Rattle.vol_mounted.proofs.WrittenFiles.{made_one}

-- node i at the end of a path
pub record Stands (volume : Mounted) (path : List ℕ) (i : ℕ) (node : Node) : Type 0 where
  pub here : (state_of volume).tree.nodes i ≡ Some node
  pub walked : walk (state_of volume).tree user path ≡ Ok i

-- only node i at the end of a path changed, to this node
pub record Alters (old new : Mounted) (path : List ℕ) (i : ℕ) (node : Node) : Type 0 where
  pub stands : Stands new path i node
  pub others : (j : ℕ) → j ≢ i → (state_of new).tree.nodes j ≡ (state_of old).tree.nodes j

pub unaltered : (old new : Mounted) (path : List ℕ) (i : ℕ) (node : Node) → new ≡ old → Stands old path i node → Alters old new path i node
unaltered old new path i node same stands =
    subst (λ (volume : Mounted). Alters old volume path i node) (sym same) (record { stands = stands; others = λ j other. refl })

pub altered_then : (old mid new : Mounted) (path : List ℕ) (i : ℕ) (node next : Node) → Alters old mid path i node → Alters mid new path i next
    → Alters old new path i next
altered_then old mid new path i node next first second =
    record { stands = second.stands; others = λ j other. second.others j other ∙ first.others j other }

-- an accepted call changes the node at the end of its path
pub record Changes (state : State) (call : Call) (done : Done) (i : ℕ) (change : Node → Node) : Type 0 where
  pub nodes : (step state call done).tree.nodes ≡ set_at state.tree.nodes i (option_map change (state.tree.nodes i))
  pub begins : root (step state call done).tree ≡ root state.tree
  pub names : HasNamesOf (state.tree.nodes i) (option_map change (state.tree.nodes i))

pub alters : (old new : Mounted) (call : Call) (done : Done) (path : List ℕ) (i : ℕ) (node : Node) (change : Node → Node) → Accepts old new call done
    → Stands old path i node → Changes (state_of old) call done i change → Alters old new path i (change node)
alters old new call done path i node change accepts stands changes =
    let reads = reads_next old new call done accepts in
    let was = (state_of old).tree.nodes in
    let changed = option_map change (was i) in
    let nodes : (state_of new).tree.nodes ≡ set_at was i changed = ap (λ (s : State). s.tree.nodes) reads ∙ changes.nodes in
    record {
      stands = record {
        here = ap (λ (ns : ℕ → Option Node). ns i) nodes ∙ (set_here was i changed ∙ ap (option_map change) stands.here);
        walked = path_kept (state_of old).tree (state_of new).tree path i (ap (λ (s : State). root s.tree) reads ∙ changes.begins)
            (λ x name j is. ap (λ (ns : ℕ → Option Node). found (ns x) name) nodes ∙ names_set was i changed changes.names x name j is) stands.walked;
      };
      others = λ j other. ap (λ (ns : ℕ → Option Node). ns j) nodes ∙ set_beside was i changed j other;
    }

-- a change that keeps the content of a node keeps its names
same_names : (change : Node → Node) → ((node : Node) → (change node).content ≡ node.content) → (node : Option Node) → HasNamesOf node (option_map change node)
same_names change same None name j is = is
same_names change same (Some node) name j is = ap (λ (content : Content). found_in (named (map_of content)) name) (same node) ∙ is

-- CHMOD, CHOWN and TIMES
pub chmod_changes : (state : State) (now perm : ℕ) (path : List ℕ) (done : Done) (i : ℕ) → walk state.tree user path ≡ Ok i
    → Changes state (calls.Chmod user now path perm) done i (with_permission_bits now perm)
unfolding changed_by
chmod_changes state now perm path done i walked = record {
  nodes = ap (λ (r : Result ℕ Refusal). (at_time now (on_node state r (after_chmod state now perm))).tree.nodes) walked;
  begins = ap (λ (r : Result ℕ Refusal). root (at_time now (on_node state r (after_chmod state now perm))).tree) walked;
  names = same_names (with_permission_bits now perm) (λ node. refl) (state.tree.nodes i);
}

pub chown_changes : (state : State) (now uid gid : ℕ) (path : List ℕ) (done : Done) (i : ℕ) → walk state.tree user path ≡ Ok i
    → Changes state (calls.Chown user now path uid gid) done i (with_owner now uid gid)
unfolding changed_by
chown_changes state now uid gid path done i walked = record {
  nodes = ap (λ (r : Result ℕ Refusal). (at_time now (on_node state r (after_chown state now uid gid))).tree.nodes) walked;
  begins = ap (λ (r : Result ℕ Refusal). root (at_time now (on_node state r (after_chown state now uid gid))).tree) walked;
  names = same_names (with_owner now uid gid) (λ node. refl) (state.tree.nodes i);
}

pub times_changes : (state : State) (now accessed modified : ℕ) (path : List ℕ) (done : Done) (i : ℕ) → walk state.tree user path ≡ Ok i
    → Changes state (calls.Times user now path accessed modified) done i (with_times now accessed modified)
unfolding changed_by
times_changes state now accessed modified path done i walked = record {
  nodes = ap (λ (r : Result ℕ Refusal). (at_time now (on_node state r (after_utime state now accessed modified))).tree.nodes) walked;
  begins = ap (λ (r : Result ℕ Refusal). root (at_time now (on_node state r (after_utime state now accessed modified))).tree) walked;
  names = same_names (with_times now accessed modified) (λ node. refl) (state.tree.nodes i);
}

-- a node after a change that there may be
abbrev pub with_if : {X : Type 0} → (X → Node → Node) → Option X → Node → Node
with_if change None node = node
with_if change (Some x) node = change x node

-- a call that there may be
pub applies : {X : Type 0} (call : X → Call) (change : X → Node → Node) (path : List ℕ) (i : ℕ)
    → ((x : X) (state : State) (done : Done) → walk state.tree user path ≡ Ok i → Changes state (call x) done i (change x))
    → (given : Option X) (old new : Mounted) (node : Node) → Stands old path i node → AreMade old (option_to_list (option_map call given)) new
    → Alters old new path i (with_if change given node)
unfolding AreMade
applies call change path i each None old new node stands made = unaltered old new path i node made stands
applies call change path i each (Some x) old new node stands made =
    let one = made_one old new (call x) made in
    alters old new (call x) one.0 path i node (change x) one.1 stands (each x (state_of old) one.0 stands.walked)

-- calls that were made are made in two parts
pub made_parts : (old new : Mounted) (first second : List Call) → AreMade old (first ++ second) new → (mid : Mounted) × AreMade old first mid × AreMade mid second new
unfolding AreMade
made_parts old new [] second made = (old, refl, made)
made_parts old new (call ∷ first) second (between, done, accepts, made) =
    let more = made_parts between new first second made in
    (more.0, (between, done, accepts, more.1), more.2)
