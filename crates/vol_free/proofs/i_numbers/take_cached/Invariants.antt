use Rattle.std.proofs.Common.{◌+◌}
use Rattle.pdp_words.specs.Words.{SameOutside}
use Rattle.vol_layout.specs.Super.{cache_head}
use Rattle.vol_free.proofs.i_numbers.take_cached.Given as goal

-- Invariant: only the cache has changed.
abbrev pub invariant-loop-n : goal.invariant-loop-n
invariant-loop-n l = SameOutside l.fn.image l.image (cache_head l.geometry.edition) (cache_head l.geometry.edition + 202)
