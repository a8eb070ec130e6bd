use Rattle.std.proofs.Common.{◌-◌, ◌≤◌}
use Rattle.vol_layout.specs.Edition.{constants}
use Rattle.vol_judge.proofs.BlocksFrom.{entries_from}
use Rattle.vol_repair.specs.Claims.{Claims}
use Rattle.vol_repair.proofs.claims.+claim.Given as goal

-- The number of levels decreases with each call.
abbrev pub decreases-claim : goal.decreases-claim
decreases-claim l = l.level

-- Invariant: the blocks at and below the entries before j are claimed.
abbrev pub invariant-loop-j : goal.invariant-loop-j
invariant-loop-j l = record {
  entries : Claims l.geometry (entries_from l.geometry l.image (l.level - 1) l.b l.j) l.initial.used l.used l.clash;
  within : l.j ≤ (constants l.geometry.edition).pointers;
}

-- The entry number j increases with each step.
abbrev pub decreases-loop-j : goal.decreases-loop-j
decreases-loop-j l = (constants l.geometry.edition).pointers - l.j
