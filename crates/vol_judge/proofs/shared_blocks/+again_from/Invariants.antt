use Rattle.std.proofs.Common.{◌≡◌, ◌-◌, ◌≤◌, Some, set}
use Rattle.vol_layout.specs.Edition.{constants}
use Rattle.vol_judge.specs.Marks.{marked}
use Rattle.vol_judge.proofs.BlocksFrom.{entries_from}
use Rattle.vol_judge.proofs.shared_blocks.+again_from.Given as goal

-- The number of levels decreases with each call.
abbrev pub decreases-again_from : goal.decreases-again_from
decreases-again_from l = l.level

-- Invariant: the block and the blocks at and below its entries before j are marked.
abbrev pub invariant-loop-j : goal.invariant-loop-j
invariant-loop-j l = record {
  marked : marked (set l.fn.marks l.b 1) (entries_from l.geometry l.image (l.level - 1) l.b l.j) ≡ Some l.marks;
  within : l.j ≤ (constants l.geometry.edition).pointers;
}

-- The entry number j increases with each step.
abbrev pub decreases-loop-j : goal.decreases-loop-j
decreases-loop-j l = (constants l.geometry.edition).pointers - l.j
