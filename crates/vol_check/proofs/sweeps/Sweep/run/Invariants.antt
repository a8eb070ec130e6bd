use Rattle.std.proofs.Common.{◌-◌, length}
use Rattle.count_table.specs.Tallies.{table_shape}
use Rattle.vol_check.specs.Seats.{IsSeatOf, IsOf}
use Rattle.vol_check.proofs.sweeps.Sweep.run.Given as goal

-- Invariant: the seat belongs to the sweep and fits the image.
abbrev pub invariant-loop-piece : goal.invariant-loop-piece
invariant-loop-piece g l = record {
  own : IsSeatOf l.self.tally l.seat;
  knows : IsOf l.self.checker l.self.layout l.image l.seat;
}

-- each piece is one more draw, and a seat that hasn't ended has drawn at most as many numbers as there are pieces
abbrev pub decreases-loop-piece : goal.decreases-loop-piece
decreases-loop-piece g l = (table_shape l.self.tally).pieces - length l.seat.seat.me.0.draws
