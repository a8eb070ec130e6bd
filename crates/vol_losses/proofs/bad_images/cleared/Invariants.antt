use Rattle.std.proofs.Common.{◌≡◌, ℕ, ◌+◌, ◌*◌, ◌<◌, ◌&&◌, nat_lt, if◌then◌else◌, length, slice_index}
use Rattle.vol_losses.specs.Losses.{is_lost}
use Rattle.vol_losses.proofs.bad_images.cleared.Given as goal

-- Invariant: the marked blocks so far are zeros.
abbrev pub invariant-loop-k : goal.invariant-loop-k
invariant-loop-k l = record {
  count : length l.image ≡ 512 * length l.unread;
  bytes : (j r : ℕ) → j < length l.unread → r < 512
      → slice_index l.image (512 * j + r) ≡ (if nat_lt j l.k && is_lost l.unread j then 0 else slice_index l.fn.bytes.items (512 * j + r));
}
