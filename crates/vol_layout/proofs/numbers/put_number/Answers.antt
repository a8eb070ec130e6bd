use Rattle.std.proofs.Common.{arith}
use Rattle.pdp_words.proofs.Outside.{widen}
use Rattle.vol_layout.proofs.numbers.put_number.Goals as goal

pub returns-in-V6-clause-others : goal.returns-in-V6-clause-others
returns-in-V6-clause-others c = rw c.in-V6.is (widen c.put_word.ensures.others (omega arith) (omega arith))

pub returns-in-V7-clause-others : goal.returns-in-V7-clause-others
returns-in-V7-clause-others c = rw c.in-V7.is (widen c.put_long.ensures.others (omega arith) (omega arith))
