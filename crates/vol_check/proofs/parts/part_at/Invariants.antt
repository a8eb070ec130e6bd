use Rattle.std.proofs.Common.{◌-◌, ◌<◌, ◌≤◌, length, slice_index}
use Rattle.vol_check.proofs.parts.part_at.Given as goal

-- Invariant: the piece belongs to an i-number at or above `low` and below `high`.
abbrev pub invariant-loop-high : goal.invariant-loop-high
invariant-loop-high l = record {
  order : l.low < l.high;
  within : l.high < length l.starts;
  from : slice_index l.starts l.low ≤ l.number;
  before : l.number < slice_index l.starts l.high;
}

abbrev pub decreases-loop-high : goal.decreases-loop-high
decreases-loop-high l = l.high - l.low
