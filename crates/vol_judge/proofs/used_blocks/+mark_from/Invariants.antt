use Rattle.std.proofs.Common.{◌-◌, ◌≤◌}
use Rattle.vol_layout.specs.Edition.{constants}
use Rattle.vol_judge.specs.Marks.{ExtendsMarks, KnowsMarked}
use Rattle.vol_judge.proofs.BlocksFrom.{entries_from}
use Rattle.vol_judge.proofs.used_blocks.+mark_from.Given as goal

-- The number of levels decreases with each call.
abbrev pub decreases-mark_from : goal.decreases-mark_from
decreases-mark_from l = l.level

-- Invariant: the data blocks at and below the entries before j are marked.
abbrev pub invariant-loop-j : goal.invariant-loop-j
invariant-loop-j l = record {
  entries : ExtendsMarks l.geometry (entries_from l.geometry l.image (l.level - 1) l.b l.j) l.fn.marks l.marks;
  known : KnowsMarked l.geometry l.image l.marks;
  within : l.j ≤ (constants l.geometry.edition).pointers;
}

-- The entry number j increases with each step.
abbrev pub decreases-loop-j : goal.decreases-loop-j
decreases-loop-j l = (constants l.geometry.edition).pointers - l.j
