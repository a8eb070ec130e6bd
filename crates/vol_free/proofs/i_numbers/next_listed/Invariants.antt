use Rattle.std.proofs.Common.{◌≡◌, ℕ, ◌<◌, ◌≤◌, IfSome, None}
use Rattle.vol_free.specs.Numbers.{IsFreeNumber}
use Rattle.vol_free.proofs.i_numbers.next_listed.Given as goal

-- Invariant: the last i-number found is free; if none was found, no i-number below `i` is free.
abbrev pub invariant-loop-i : goal.invariant-loop-i
invariant-loop-i l = record {
  few : l.count ≤ 100;
  found : IfSome l.last_found (λ i. IsFreeNumber l.geometry l.image i);
  empty : l.last_found ≡ None → l.count ≡ 0;
  none : l.last_found ≡ None → (j : ℕ) → j < l.i → IsFreeNumber l.geometry l.image j → ⊥;
}
