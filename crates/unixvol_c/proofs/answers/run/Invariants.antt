use Rattle.std.proofs.Common.{◌-◌, length}
use Rattle.count_table.specs.Tallies.{table_shape}
use Rattle.vol_check.specs.Layouts.{HasSwept, IsSeatIn}
use Rattle.unixvol_c.proofs.answers.run.Given as goal

-- Invariant: the seat belongs to the sweep, and has swept only this image.
abbrev pub invariant-loop-piece : goal.invariant-loop-piece
invariant-loop-piece l = record {
  own : IsSeatIn l.sweep l.seat;
  knows : HasSwept l.sweep l.image l.seat;
}

-- each step draws one more number, and a seat draws at most as many numbers as the sweep has pieces
abbrev pub decreases-loop-piece : goal.decreases-loop-piece
decreases-loop-piece l = (table_shape l.sweep.tally).pieces - length l.seat.seat.me.0.draws
