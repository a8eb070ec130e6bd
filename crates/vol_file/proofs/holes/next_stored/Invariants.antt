use Rattle.std.proofs.Common.{◌-◌, ◌≤◌}
use Rattle.vol_file.specs.Holes.{IsHole}
use Rattle.vol_file.proofs.holes.next_stored.Given as goal

-- Invariant: no block number is stored for the logical blocks before `b`.
abbrev pub invariant-loop-b : goal.invariant-loop-b
invariant-loop-b l = record {
  from : l.from ≤ l.b;
  hole : IsHole l.geometry l.image l.i l.form l.from l.b;
}

abbrev pub decreases-loop-b : goal.decreases-loop-b
decreases-loop-b l = l.end - l.b
