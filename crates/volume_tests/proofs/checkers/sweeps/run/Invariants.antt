use Rattle.volume_tests.specs.Work.{IsAtWork}
use Rattle.volume_tests.proofs.checkers.sweeps.run.Given as goal

-- Invariant: the seat belongs to the sweep, and has swept only this image.
abbrev pub invariant-loop-count : goal.invariant-loop-count
invariant-loop-count g l = IsAtWork l.sweep l.image l.seat
