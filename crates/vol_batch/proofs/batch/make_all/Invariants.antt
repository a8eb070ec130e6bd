use Rattle.std.proofs.Common.{length}
use Rattle.vol_batch.proofs.MadeCalls.{GoesOn}
use Rattle.vol_batch.proofs.batch.make_all.Given as goal

-- Invariant: making the calls left, from here, has the same result as making all calls from the start.
abbrev pub invariant-calls : goal.invariant-calls
invariant-calls l = GoesOn l.initial.volume l.fn.calls.items l.volume l.left.items

abbrev pub decreases-calls : goal.decreases-calls
decreases-calls l = length l.left.items
