use Rattle.std.proofs.Common.{◌≡◌, ◌-◌, ◌≤◌, None}
use Rattle.vol_layout.specs.Edition.{constants}
use Rattle.vol_judge.specs.Marks.{KnowsInside}
use Rattle.vol_judge.proofs.BlocksFrom.{entries_from}
use Rattle.vol_judge.specs.OutsideBlocks.{first_outside}
use Rattle.vol_judge.proofs.outside_blocks.+outside_from.Given as goal

-- The number of levels decreases with each call.
abbrev pub decreases-outside_from : goal.decreases-outside_from
decreases-outside_from l = l.level

-- Invariant: all addresses at and below the entries before j are in the data zone.
abbrev pub invariant-loop-j : goal.invariant-loop-j
invariant-loop-j l = record {
  entries : first_outside l.geometry (entries_from l.geometry l.image (l.level - 1) l.b l.j) ≡ None;
  known : KnowsInside l.geometry l.image l.known;
  within : l.j ≤ (constants l.geometry.edition).pointers;
}

-- The entry number j increases with each step.
abbrev pub decreases-loop-j : goal.decreases-loop-j
decreases-loop-j l = (constants l.geometry.edition).pointers - l.j
