use Rattle.std.proofs.Common.{◌≡◌, ℕ, ◌<◌, ◌≤◌, true, slice_index}
use Rattle.vol_file.proofs.pointers.is_clear.Given as goal

-- Invariant: while `is_clear` is true, the bytes before `k` are 0.
abbrev pub invariant-loop-k : goal.invariant-loop-k
invariant-loop-k l = l.is_clear ≡ true → (n : ℕ) → l.at ≤ n → n < l.k → slice_index l.bytes n ≡ 0
