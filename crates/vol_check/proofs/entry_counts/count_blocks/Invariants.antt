use Rattle.std.proofs.Common.{◌-◌, ◌*◌, All, vec_len}
use Rattle.std.specs.List.{sum_by}
use Rattle.vol_check.specs.declared.checker.Checker.TheVariants.{Entries}
use Rattle.vol_check.specs.Levels.{IsNamed, by_times, KeepsDraws, AddsBut}
use Rattle.vol_check.specs.Slots.{entry_weight, block_sum}
use Rattle.vol_check.proofs.Noted.{marked_over}
use Rattle.vol_check.proofs.entry_counts.count_blocks.Given as goal

-- Invariant: all entries are counted except those of the blocks that are left.
abbrev pub invariant-loop-n : goal.invariant-loop-n
invariant-loop-n l = record {
  kept : KeepsDraws l.tally l.fn.seat l.seat;
  named : All (IsNamed l.geometry) l.once.items;
  marks : AddsBut l.fn.seat l.seat (marked_over Entries l.geometry l.image l.d (32 * l.from) (32 * (l.end - l.from)))
      (λ weight. sum_by (by_times (block_sum l.image (entry_weight l.geometry weight))) l.once.items);
}

abbrev pub decreases-loop-n : goal.decreases-loop-n
decreases-loop-n l = vec_len l.once
