use Rattle.std.proofs.Common.{◌≡◌, ℕ, ◌+◌, ◌<◌, ◌≤◌, IfSome, None}
use Rattle.pdp_words.specs.Words.{SameOutside}
use Rattle.vol_layout.specs.Super.{cache_head}
use Rattle.vol_free.specs.Numbers.{IsFreeNumber}
use Rattle.vol_free.proofs.i_numbers.take_listed.Given as goal

-- Invariant: only the cache has changed, and the last i-number found was free; if none was found, no i-number below `i` is free.
abbrev pub invariant-loop-i : goal.invariant-loop-i
invariant-loop-i l = record {
  same : SameOutside l.fn.image l.image (cache_head l.geometry.edition) (cache_head l.geometry.edition + 202);
  few : l.count ≤ 100;
  found : IfSome l.last_found (λ i. IsFreeNumber l.geometry l.fn.image i);
  empty : l.last_found ≡ None → l.count ≡ 0;
  none : l.last_found ≡ None → (j : ℕ) → j < l.i → IsFreeNumber l.geometry l.fn.image j → ⊥;
}
