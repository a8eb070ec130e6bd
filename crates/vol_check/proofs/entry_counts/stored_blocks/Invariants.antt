use Rattle.std.proofs.Common.{◌≡◌, ◌-◌, ◌*◌, ◌≤◌, All, None}
use Rattle.std.specs.List.{sum_by}
use Rattle.vol_file.specs.Runs.{LooksUp}
use Rattle.vol_check.specs.Levels.{IsNamed, by_times}
use Rattle.vol_check.specs.Slots.{EntryWeight, block_sum}
use Rattle.vol_check.proofs.EntryCounts.{slots_over}
use Rattle.vol_check.proofs.entry_counts.stored_blocks.Given as goal

-- Invariant: the data blocks of the logical blocks before `b` are collected.
abbrev pub invariant-loop-b : goal.invariant-loop-b
invariant-loop-b l = record {
  numbers : LooksUp l.geometry l.image l.d l.numbers;
  low : l.from ≤ l.b;
  high : l.b ≤ l.end;
  named : All (IsNamed l.geometry) l.named.items;
  same : (weight : EntryWeight) → weight None ≡ 0 → sum_by (by_times (block_sum l.image weight)) l.named.items
      ≡ slots_over l.geometry l.image l.d (32 * l.from) (32 * (l.b - l.from)) weight;
}

abbrev pub decreases-loop-b : goal.decreases-loop-b
decreases-loop-b l = l.end - l.b
