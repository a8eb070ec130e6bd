use Rattle.std.proofs.Common.{◌-◌, ◌*◌, ◌≤◌}
use Rattle.vol_check.specs.Notes.{Notes}
use Rattle.vol_check.proofs.Noted.{marked_over, kept_over}
use Rattle.vol_check.proofs.sweeps.Sweep.note_blocks.Given as goal

-- Invariant: the slots of the blocks before `b` are marked, and their entries kept.
abbrev pub invariant-loop-b : goal.invariant-loop-b
invariant-loop-b l = record {
  low : l.from ≤ l.b;
  high : l.b ≤ l.end;
  notes : Notes l.self.tally l.fn.seat l.seat
      (marked_over l.self.checker l.geometry l.image l.d (32 * l.from) (32 * (l.b - l.from)))
      (kept_over l.self.checker l.geometry l.image l.d (32 * l.from) (32 * (l.b - l.from)));
}

abbrev pub decreases-loop-b : goal.decreases-loop-b
decreases-loop-b l = l.end - l.b
