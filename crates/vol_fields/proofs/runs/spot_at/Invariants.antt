use Rattle.std.proofs.Common.{◌≡◌, ◌+◌, ◌≤◌, drop}
use Rattle.vol_fields.specs.Runs.{AreCounted, spot_at, total}
use Rattle.vol_fields.proofs.runs.spot_at.Given as goal

-- Invariant: the field is that of the runs that are left, the first of which begins at `start`.
abbrev pub invariant-loop-run : goal.invariant-loop-run
invariant-loop-run l = record {
  counted : AreCounted (drop l.run-index l.runs);
  after : l.start ≤ l.n;
  room : l.start + total (drop l.run-index l.runs) ≡ l.base + total l.runs;
  same : spot_at l.runs l.base l.n ≡ spot_at (drop l.run-index l.runs) l.start l.n;
}
