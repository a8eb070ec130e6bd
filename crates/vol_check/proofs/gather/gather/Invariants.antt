use Rattle.std.proofs.Common.{vec_len}
use Rattle.vol_check.proofs.Joined.{IsGathering}
use Rattle.vol_check.proofs.gather.gather.Given as goal

-- Invariant: the seat is the join of all seats except those left.
abbrev pub invariant-loop-other : goal.invariant-loop-other
invariant-loop-other l = IsGathering l.tally l.fn.seats.items l.seats.items l.all

abbrev pub decreases-loop-other : goal.decreases-loop-other
decreases-loop-other l = vec_len l.seats
