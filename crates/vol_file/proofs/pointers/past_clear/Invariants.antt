use Rattle.std.proofs.Common.{◌≡◌, ℕ, ◌-◌, ◌<◌, ◌≤◌, slice_index}
use Rattle.vol_file.proofs.pointers.past_clear.Given as goal

-- Invariant: the bytes before `at` are 0.
abbrev pub invariant-loop-at : goal.invariant-loop-at
invariant-loop-at l = record {
  order : l.from ≤ l.at;
  within : l.at ≤ l.end;
  zeros : (k : ℕ) → l.from ≤ k → k < l.at → slice_index l.bytes k ≡ 0;
}

abbrev pub decreases-loop-at : goal.decreases-loop-at
decreases-loop-at l = l.end - l.at
