use Rattle.std.proofs.Common.{◌≡◌, ◌≢◌, ℕ, ◌<◌, true, false, length, slice_index, slice_index_or}
use Rattle.vol_judge.proofs.shared_blocks.set_marked.Given as goal

-- Invariant: of the flags below k, exactly those whose mark isn't 0 are set.
abbrev pub invariant-loop-k : goal.invariant-loop-k
invariant-loop-k l = record {
  room : length l.flags ≡ length l.marks;
  set : (j : ℕ) → slice_index_or l.flags j false ≡ true → (j < l.k) × (slice_index l.marks j ≢ 0);
  all : (j : ℕ) → j < l.k → slice_index l.marks j ≢ 0 → slice_index_or l.flags j false ≡ true;
}
