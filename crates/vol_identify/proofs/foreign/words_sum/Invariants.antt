use Rattle.std.proofs.Common.{◌≡◌}
use Rattle.vol_identify.specs.Foreign.{words_sum}
use Rattle.vol_identify.proofs.foreign.words_sum.Given as goal

-- the sum so far
abbrev pub invariant-loop-k : goal.invariant-loop-k
invariant-loop-k l = l.sum ≡ words_sum l.image l.at l.k
