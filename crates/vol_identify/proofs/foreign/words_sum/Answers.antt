use Rattle.std.proofs.Common.{refl, sym}
use Rattle.vol_identify.proofs.WordSums.{sum_more, sum_none}
use Rattle.vol_identify.proofs.foreign.words_sum.Goals as goal

pub loop-k-init : goal.loop-k-init
loop-k-init c = sym (sum_none c.args.image.now c.args.at)

pub loop-k-preserved : goal.loop-k-preserved
loop-k-preserved c = rw (sum_more c.args.image.now c.args.at c.loop-k.k, ← c.loop-k.invariant, ← c.word-sum.ensures) refl
