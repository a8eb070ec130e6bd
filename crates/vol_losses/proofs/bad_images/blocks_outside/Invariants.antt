use Rattle.std.proofs.Common.{◌≡◌, ℕ, ◌<◌, not, length, take}
use Rattle.vol_losses.specs.BadImages.{is_block_read}
use Rattle.vol_losses.specs.Losses.{is_lost}
use Rattle.vol_losses.proofs.bad_images.blocks_outside.Given as goal

-- Invariant: the blocks that aren't in the ranges so far are marked.
abbrev pub invariant-loop-range : goal.invariant-loop-range
invariant-loop-range l = record {
  count : length l.unread.items ≡ l.blocks;
  marks : (k : ℕ) → k < l.blocks → is_lost l.unread.items k ≡ not (is_block_read (take l.range-index l.ranges) l.at k);
}
