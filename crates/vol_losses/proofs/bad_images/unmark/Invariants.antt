use Rattle.std.proofs.Common.{◌≡◌, ◌⊎◌, ℕ, ◌<◌, ◌≤◌, ◌&&◌, not, nat_le, nat_lt, length}
use Rattle.vol_losses.specs.Losses.{is_lost}
use Rattle.vol_losses.proofs.bad_images.unmark.Given as goal

-- Invariant: the marks of the blocks so far are taken away.
abbrev pub invariant-loop-k : goal.invariant-loop-k
invariant-loop-k l = record {
  top : (l.k ≤ l.end) ⊎ (l.k ≤ l.from);
  count : length l.unread ≡ length l.fn.unread;
  marks : (j : ℕ) → j < length l.fn.unread → is_lost l.unread j ≡ (is_lost l.fn.unread j && not (nat_le l.from j && nat_lt j l.k));
}
