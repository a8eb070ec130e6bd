use Rattle.std.proofs.Common.{◌≡◌, ◌⊎◌, ℕ, ◌+◌, ◌-◌, ◌<◌, ◌≤◌, true, false, slice_index_or}
use Rattle.vol_resize.proofs.least_blocks.least_blocks.Given as goal

-- Invariant: `least` is after each marked block before `b`, and right after the last of them, or after the first data block.
abbrev pub invariant-loop-b : goal.invariant-loop-b
invariant-loop-b l = record {
  zone : l.geometry.zone_start < l.least;
  low : l.geometry.zone_start ≤ l.b;
  inside : (k : ℕ) → slice_index_or l.used k false ≡ true → l.geometry.zone_start ≤ k → k < l.b → k < l.least;
  last : (l.least ≡ l.geometry.zone_start + 1) ⊎ (slice_index_or l.used (l.least - 1) false ≡ true);
}
