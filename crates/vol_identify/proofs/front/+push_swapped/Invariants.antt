use Rattle.std.proofs.Common.{length}
use Rattle.vol_identify.proofs.front.+push_swapped.Given as goal

abbrev pub decreases-push_swapped : goal.decreases-push_swapped
decreases-push_swapped l = length l.bytes.now
