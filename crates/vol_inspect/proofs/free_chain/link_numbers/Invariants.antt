use Rattle.std.proofs.Common.{◌≡◌, ◌+◌, map}
use Rattle.std.specs.List.{range_with_len}
use Rattle.vol_layout.specs.Edition.{number}
use Rattle.vol_inspect.proofs.free_chain.link_numbers.Given as goal

-- Invariant: the numbers so far have been added.
abbrev pub invariant-loop-k : goal.invariant-loop-k
invariant-loop-k l = l.numbers.items ≡ map (λ k. number l.edition l.image (l.head + 2) k) (range_with_len 0 l.k)
