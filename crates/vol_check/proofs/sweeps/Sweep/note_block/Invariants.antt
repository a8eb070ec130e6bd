use Rattle.std.proofs.Common.{◌*◌}
use Rattle.vol_check.specs.Notes.{Notes}
use Rattle.vol_check.proofs.Noted.{marked_over, kept_over}
use Rattle.vol_check.proofs.sweeps.Sweep.note_block.Given as goal

-- Invariant: the slots before `s` are marked, and their entries kept.
abbrev pub invariant-loop-s : goal.invariant-loop-s
invariant-loop-s l = Notes l.self.tally l.fn.seat l.seat
    (marked_over l.self.checker l.geometry l.image l.d (32 * l.b) l.s) (kept_over l.self.checker l.geometry l.image l.d (32 * l.b) l.s)
