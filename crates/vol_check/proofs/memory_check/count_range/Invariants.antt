use Rattle.std.proofs.Common.{◌≡◌, ◌+◌, ◌-◌, ◌*◌, All, vec_len}
use Rattle.std.specs.List.{sum_by}
use Rattle.vol_check.specs.Levels.{IsNamed, by_times}
use Rattle.vol_check.specs.Slots.{block_sum}
use Rattle.vol_check.specs.LineCounts.{named_one}
use Rattle.vol_check.proofs.EntryCounts.{slots_over}
use Rattle.vol_check.proofs.memory_check.count_range.Given as goal

-- Invariant: all entries are counted except those of the blocks that are left.
abbrev pub invariant-loop-n : goal.invariant-loop-n
invariant-loop-n l = record {
  named : All (IsNamed l.geometry) l.once.items;
  sum : l.count + sum_by (by_times (block_sum l.image named_one)) l.once.items ≡ slots_over l.geometry l.image l.d (32 * l.from) (32 * (l.end - l.from)) named_one;
}

abbrev pub decreases-loop-n : goal.decreases-loop-n
decreases-loop-n l = vec_len l.once
