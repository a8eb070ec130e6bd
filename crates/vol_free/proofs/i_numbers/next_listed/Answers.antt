use Rattle.std.proofs.Common.{arith}
use Rattle.vol_free.proofs.IList.{last_below}
use Rattle.vol_free.proofs.i_numbers.next_listed.Goals as goal

pub overflow_step-i-in-loop-i : goal.overflow_step-i-in-loop-i
overflow_step-i-in-loop-i c = omega (arith, last_below c.requires)
