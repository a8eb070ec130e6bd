use Rattle.std.proofs.Common.{◌≡◌, ℕ, ◌+◌, ◌-◌, ◌<◌, ◌≤◌, true, false}
use Rattle.vol_losses.specs.Losses.{is_unsure}
use Rattle.vol_losses.specs.Ranges.{is_in, AreApart}
use Rattle.vol_losses.proofs.ranges.losses.Given as goal

-- Invariant: the ranges are right below `first`, the next block that can't be trusted; they end before it, and there is a block between.
abbrev pub invariant-loop-first : goal.invariant-loop-first
invariant-loop-first l = record {
  within : l.first ≤ l.end;
  right : (b : ℕ) → b < l.first → is_in l.ranges.items b ≡ is_unsure l.geometry l.image l.lost l.i b;
  after : (b : ℕ) → l.first ≤ b → is_in l.ranges.items b ≡ false;
  next : l.first < l.end → is_unsure l.geometry l.image l.lost l.i l.first ≡ true;
  apart : l.first < l.end → AreApart 0 l.ranges.items l.first;
  all : AreApart 0 l.ranges.items (l.end + 1);
}

abbrev pub decreases-loop-first : goal.decreases-loop-first
decreases-loop-first l = l.end - l.first
