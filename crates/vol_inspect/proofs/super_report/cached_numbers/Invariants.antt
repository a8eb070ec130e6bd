use Rattle.std.proofs.Common.{◌≡◌, ◌+◌, ◌*◌, map}
use Rattle.std.specs.List.{range_with_len}
use Rattle.pdp_words.specs.Words.{word}
use Rattle.vol_layout.specs.Super.{cache_head}
use Rattle.vol_inspect.proofs.super_report.cached_numbers.Given as goal

-- Invariant: the numbers so far have been added.
abbrev pub invariant-loop-k : goal.invariant-loop-k
invariant-loop-k l = l.numbers.items ≡ map (λ k. word l.image (cache_head l.block.edition + 2 + 2 * k)) (range_with_len 0 l.k)
