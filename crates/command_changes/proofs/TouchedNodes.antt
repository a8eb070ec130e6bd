-- After `touch` both times of the node at its path are the time of the call.
use Rattle.std.proofs.Common.{◌≡◌, ◌≢◌, ◌⊎◌, ◌∙◌, inl, inr, refl, sym, ap, subst, ℕ, false, List, [], ◌∷◌, map, None, Ok, Option, Some}
use Rattle.std.specs.Prelude.{Result}
use Rattle.std.specs.List.{list_any}
use Rattle.std.specs.Option.{option_map}
use Rattle.vol_layout.specs.Geometry.{geometry_of}
use Rattle.vol_dir.specs.Access.{user}
use Rattle.vol_dir.specs.Tree.{Node, Tree, State}
use Rattle.vol_dir.specs.Walk.{has_zero, walk}
use Rattle.vol_dir.specs.declared.refusal.Refusal.{Refusal}
use Rattle.vol_change.specs.Edits.{at_time, with_times}
use Rattle.vol_change.specs.Effects.{after_utime}
use Rattle.vol_change.proofs.NodeEdits.{set_here}
use Rattle.vol_volume.specs.Answer.{answer, stat_of}
use Rattle.vol_volume.specs.Journal.{MayAnswer, IsLegal, after}
use Rattle.vol_volume.specs.Step.{changed_by, on_node, step}
use Rattle.vol_volume.specs.Verdict.{first_of, of_node, owner_tests, verdict}
use Rattle.vol_volume.specs.Volume.{reads_as}
use Rattle.vol_batch.proofs.MadeNames.{HasNamesOf, LeadsTo, names_set, path_kept}
use Rattle.vol_batch.proofs.MadePaths.{create_gains, node_found, stat_answered}
use Rattle.vol_volume.proofs.TreeWalks.{passes_first}
use Rattle.command_faults.specs.ChangeFaults.{AreLeft, Makes}
use Rattle.command_changes.specs.Lookup.{found_by}
use Rattle.command_changes.specs.Touch.{HasTimes, touch_call, touch_found}
use Rattle.command_changes.specs.declared.lookup.PathKind.{PathKind}
use Rattle.command_changes.specs.declared.lookup.PathKind.TheVariants as founds
use Rattle.command_changes.proofs.PutBytes.{IsThere, there_in}
use Rattle.vol_layout.specs.declared.edition.Edition.{Edition}
use Rattle.vol_volume.specs.declared.calls.Call.{Call}
use Rattle.vol_volume.specs.declared.calls.Call.TheVariants as calls
use Rattle.vol_volume.specs.declared.calls.Done.{Done}
use Rattle.vol_volume.specs.declared.calls.Record.{Record}
use Rattle.vol_volume.specs.declared.queries.Query.TheVariants as queries

-- if a path leads to a node with these times, a Stat of it says so
times_told : (tree : Tree) (path : List ℕ) (now : ℕ) (node : Node) → list_any has_zero (path ∷ []) ≡ false → LeadsTo tree path node
    → node.accessed ≡ now → node.modified ≡ now → HasTimes tree path now
times_told tree path now node plain leads accessed modified = record {
  stat = stat_of leads.number node;
  found = stat_answered tree path node plain leads;
  accessed = accessed;
  modified = modified;
}

-- an accepted Create leaves a node whose times are those of the call
created : (state : State) (now : ℕ) (path : List ℕ) (done : Done) → verdict state (calls.Create user now path 0o644) ≡ None
    → MayAnswer state (calls.Create user now path 0o644) done → HasTimes (step state (calls.Create user now path 0o644) done).tree path now
unfolding verdict
created state now path done accepted answered =
    let plain = (passes_first state.tree path _ accepted).no_zero in
    times_told (step state (calls.Create user now path 0o644) done).tree path now _ plain (create_gains state now 0o644 path done accepted answered).leads refl refl

-- a node whose times are set keeps its names
timed_names : (now : ℕ) (node : Option Node) → HasNamesOf node (option_map (with_times now now now) node)
timed_names now None name i is = is
timed_names now (Some node) name i is = is

-- if a path leads to a node whose times were set, a Stat of it says so
timed_node : (tree : Tree) (path : List ℕ) (now i : ℕ) (was : Option Node) → list_any has_zero (path ∷ []) ≡ false → walk tree user path ≡ Ok i
    → tree.nodes i ≡ option_map (with_times now now now) was → tree.nodes i ≢ None → HasTimes tree path now
timed_node tree path now i None plain walked is some = absurd (some is)
timed_node tree path now i (Some node) plain walked is some =
    times_told tree path now (with_times now now now node) plain (record { number = i; walked = walked; stands = is }) refl refl

-- an accepted call that sets both times of a node leaves it with these times
timed : (state : State) (now : ℕ) (path : List ℕ) (done : Done) → verdict state (calls.Times user now path now now) ≡ None
    → IsThere path (step state (calls.Times user now path now now) done).tree → HasTimes (step state (calls.Times user now path now now) done).tree path now
unfolding verdict changed_by
timed state now path done accepted there =
    let first = passes_first state.tree path (of_node (walk state.tree user path) (λ i. first_of (owner_tests state.tree user i))) accepted in
    let led = node_found (walk state.tree user path) (λ i. first_of (owner_tests state.tree user i)) first.others_pass in
    let nodes = state.tree.nodes in
    let was = nodes led.0 in
    let new = (at_time now (after_utime state now now now led.0)).tree in
    subst (λ (t : Tree). IsThere path t → HasTimes t path now)
    (sym (ap (λ (r : Result ℕ Refusal). (at_time now (on_node state r (after_utime state now now now))).tree) led.1))
    (λ (some : IsThere path new).
    let walked = path_kept state.tree new path led.0 refl (names_set nodes led.0 (option_map (with_times now now now) was) (timed_names now was)) led.1 in
    timed_node new path now led.0 was first.no_zero walked (set_here nodes led.0 (option_map (with_times now now now) was)) (some led.0 walked))
    there

-- the call of `touch` makes an empty file, or sets both times of a node
touch_is : (now : ℕ) (path : List ℕ) (found : PathKind)
    → (touch_found now path found ≡ calls.Create user now path 0o644) ⊎ (touch_found now path found ≡ calls.Times user now path now now)
touch_is now path founds.Nothing = inl refl
touch_is now path founds.Directory = inr refl
touch_is now path founds.File = inr refl

-- either call leaves the node at its path with the time of the call
touched : (state : State) (now : ℕ) (path : List ℕ) (call : Call) (done : Done)
    → (call ≡ calls.Create user now path 0o644) ⊎ (call ≡ calls.Times user now path now now) → verdict state call ≡ None → MayAnswer state call done
    → IsThere path (step state call done).tree → HasTimes (step state call done).tree path now
touched state now path call done (inl is) =
    subst (λ (c : Call). verdict state c ≡ None → MayAnswer state c done → IsThere path (step state c done).tree → HasTimes (step state c done).tree path now)
    (sym is) (λ accepted answered there. created state now path done accepted answered)
touched state now path call done (inr is) =
    subst (λ (c : Call). verdict state c ≡ None → MayAnswer state c done → IsThere path (step state c done).tree → HasTimes (step state c done).tree path now)
    (sym is) (λ accepted answered there. timed state now path done accepted there)

-- the recorded call of `touch` leaves the node at its path with the time of the call
touched_by : (edition : Edition) (image bytes path : List ℕ) (now : ℕ) (journal : List Record)
    → map (λ (entry : Record). entry.call) journal ≡ touch_call (reads_as edition image).tree now path ∷ [] → IsLegal (reads_as edition image) journal
    → AreLeft (geometry_of edition image) image journal bytes → HasTimes (after (reads_as edition image) journal).tree path now
touched_by edition image bytes path now [] asked legal left = absurd (cc)
touched_by edition image bytes path now (first ∷ []) asked legal left =
    let was = reads_as edition image in
    let found = found_by (answer was.tree (queries.Stat user path)) in
    let one : first.call ≡ touch_found now path found = cc in
    let either = elim (touch_is now path found) as (λ _. (first.call ≡ calls.Create user now path 0o644) ⊎ (first.call ≡ calls.Times user now path now now)) [
      | inl is ↦ inl (one ∙ is)
      | inr is ↦ inr (one ∙ is)
    ] in
    let there = there_in (geometry_of edition image) left.0 path (step was first.call first.done) left.1.changes.ready left.1.changes.makes in
    touched was now path first.call first.done either legal.0.accepted legal.0.answered there
touched_by edition image bytes path now (first ∷ (second ∷ rest)) asked legal left = absurd (cc)

-- after `touch` both times of the node at its path are the time of the call
pub touch_leaves : (edition : Edition) (image bytes path : List ℕ) (now : ℕ)
    → Makes edition image (touch_call (reads_as edition image).tree now path ∷ []) bytes → HasTimes (reads_as edition bytes).tree path now
touch_leaves edition image bytes path now makes =
    subst (λ (s : State). HasTimes s.tree path now) (sym makes.reads)
    (touched_by edition image bytes path now makes.journal makes.asked makes.legal makes.left)
