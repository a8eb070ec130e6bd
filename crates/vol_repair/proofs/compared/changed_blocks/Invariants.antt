use Rattle.std.proofs.Common.{◌≡◌, ℕ, ◌+◌, ◌*◌, ◌<◌, false, length, slice_index}
use Rattle.vol_losses.specs.Losses.{is_lost}
use Rattle.vol_repair.proofs.compared.changed_blocks.Given as goal

-- Invariant: blocks that aren't marked are the same in both images; those from `k` on are marked.
abbrev pub invariant-loop-k : goal.invariant-loop-k
invariant-loop-k l = record {
  len : length l.marks.items ≡ l.geometry.zone_end;
  same : (j r : ℕ) → j < l.geometry.zone_end → r < 512 → is_lost l.marks.items j ≡ false → slice_index l.new (512 * j + r) ≡ slice_index l.old (512 * j + r);
}
