-- The image after the steps of a call, before and after the volume's time is set.
use Rattle.std.proofs.Common.{◌≡◌, ◌∙◌, ap, refl, ℕ, ◌≤◌, List, [], ◌∷◌, length, arith}
use Rattle.vol_layout.specs.declared.geometry.Geometry.{Geometry}
use Rattle.vol_dir.specs.Tree.{State, state}
use Rattle.vol_judge.specs.Directories.{root_of}
use Rattle.vol_judge.specs.Graph.{graph_of, IsGraphSound}
use Rattle.vol_judge.specs.GraphEdits.{IsSameGraph}
use Rattle.vol_judge.proofs.GraphParts.{same_sound}
use Rattle.vol_judge.proofs.ImageGraphs.{graph_within}
use Rattle.vol_change.specs.Changed.{Changed}
use Rattle.vol_change.specs.Edits.{at_time, change_node, modified, after_write, after_truncate}
use Rattle.vol_change.specs.Contents.{write_body, cut_body}
use Rattle.vol_change.specs.Whole.{Keeps}
use Rattle.vol_change.proofs.TimedEdits.{timed_write, timed_truncate}
use Rattle.vol_change.proofs.WholeLaws.{keeps_then}
use Rattle.vol_change.specs.Ready.{Rules1To12, Becomes}
use Rattle.vol_change.proofs.ReadyLaws.{ready_whole, ready_graph, ready_from}

-- after some steps of a call the geometry fits, rules 3 to 8 hold, the bytes that no call changes are unchanged, the graph is sound, and the image
-- reads as the state `made`
pub record HasMade (geometry : Geometry) (old new : List ℕ) (made : State) : Type 0 where
  pub keeps : Keeps geometry old new
  pub sound : IsGraphSound (graph_of geometry new) (root_of geometry) geometry.last_inode
  pub makes : state geometry new ≡ made

-- before the first step, the image reads as its own state
pub no_step : (geometry : Geometry) (image : List ℕ) → Rules1To12 geometry image → HasMade geometry image image (state geometry image)
no_step geometry image ready = record {
  keeps = record {
    rules = ready_whole geometry image ready;
    around = record { len = refl; before = λ k h. refl; flags = λ k from to. refl; rest = λ k from to. refl; behind = λ k h. refl };
  };
  sound = ready_graph geometry image ready;
  makes = refl;
}

-- a further step that doesn't change the graph edits the state
pub step_more : {Kept : ℕ → Type 0} {listed : List ℕ → List ℕ} (geometry : Geometry) (old mid new : List ℕ) (made : State) (edit : State → State)
    → HasMade geometry old mid made → Changed geometry mid new Kept (edit (state geometry mid)) listed
    → IsSameGraph (graph_of geometry mid) (graph_of geometry new) → HasMade geometry old new (edit made)
step_more geometry old mid new made edit before step graph = record {
  keeps = keeps_then geometry old mid new before.keeps step.keeps;
  sound = same_sound (graph_of geometry mid) (graph_of geometry new) (root_of geometry) geometry.last_inode (graph_within geometry mid)
      (graph_within geometry new) before.sound graph;
  makes = step.makes ∙ ap edit before.makes;
}

-- after the steps and a write of the time, the image is sound and reads as the state with the new time
pub changed : {Kept : ℕ → Type 0} {listed : List ℕ → List ℕ} (geometry : Geometry) (old mid new : List ℕ) (made : State) (now : ℕ)
    → Rules1To12 geometry old → HasMade geometry old mid made → Changed geometry mid new Kept (at_time now (state geometry mid)) listed
    → IsSameGraph (graph_of geometry mid) (graph_of geometry new) → Becomes geometry old new (at_time now made)
changed geometry old mid new made now ready before time graph =
    let after = step_more geometry old mid new made (λ state. at_time now state) before time graph in
    record { ready = ready_from geometry old new ready after.keeps after.sound; around = after.keeps.around; makes = after.makes }

-- writing some bytes and then setting the node's times makes the state `after_write`
pub made_write : {Kept Also : ℕ → Type 0} {listed after : List ℕ → List ℕ} (geometry : Geometry) (old mid new bytes : List ℕ) (i offset now : ℕ)
    → Rules1To12 geometry old → 1 ≤ length bytes → Changed geometry old mid Kept (write_body i offset bytes (state geometry old)) listed
    → IsSameGraph (graph_of geometry old) (graph_of geometry mid)
    → Changed geometry mid new Also (change_node i (modified now) (state geometry mid)) after
    → IsSameGraph (graph_of geometry mid) (graph_of geometry new) → HasMade geometry old new (after_write (state geometry old) now offset bytes i)
made_write geometry old mid new bytes i offset now ready some written same timed still =
    let first = step_more geometry old old mid (state geometry old) (λ state. write_body i offset bytes state) (no_step geometry old ready) written same in
    let both = step_more geometry old mid new _ (λ state. change_node i (modified now) state) first timed still in
    record { keeps = both.keeps; sound = both.sound; makes = both.makes ∙ timed_write (state geometry old) now offset i bytes some }

-- writing no bytes makes the state `after_write`
pub made_none : (geometry : Geometry) (image bytes : List ℕ) (i offset now : ℕ) → Rules1To12 geometry image → length bytes ≡ 0
    → HasMade geometry image image (after_write (state geometry image) now offset bytes i)
made_none geometry image [] i offset now ready none = no_step geometry image ready
made_none geometry image (byte ∷ bytes) i offset now ready none = absurd (omega arith)

-- truncating a file and then setting the node's times makes the state `after_truncate`
pub made_truncate : {Kept Also : ℕ → Type 0} {listed after : List ℕ → List ℕ} (geometry : Geometry) (old mid new : List ℕ) (i size now : ℕ)
    → Rules1To12 geometry old → Changed geometry old mid Kept (cut_body i size (state geometry old)) listed
    → IsSameGraph (graph_of geometry old) (graph_of geometry mid)
    → Changed geometry mid new Also (change_node i (modified now) (state geometry mid)) after
    → IsSameGraph (graph_of geometry mid) (graph_of geometry new) → HasMade geometry old new (after_truncate (state geometry old) now size i)
made_truncate geometry old mid new i size now ready cut same timed still =
    let first = step_more geometry old old mid (state geometry old) (λ state. cut_body i size state) (no_step geometry old ready) cut same in
    let both = step_more geometry old mid new _ (λ state. change_node i (modified now) state) first timed still in
    record { keeps = both.keeps; sound = both.sound; makes = both.makes ∙ timed_truncate (state geometry old) now size i }
