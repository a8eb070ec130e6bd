use Rattle.std.proofs.Common.{◌+◌, ◌*◌, All}
use Rattle.vol_layout.specs.BlockPointers.{pointer_in}
use Rattle.vol_judge.specs.Marks.{blocks_from}
use Rattle.count_table.specs.Sums.{total, below}
use Rattle.vol_check.specs.Pieces.{place_weight}
use Rattle.vol_check.specs.Levels.{IsNamed, below_all, KeepsDraws, AddsBut}
use Rattle.vol_check.proofs.levels.mark_entries.Given as goal

-- Invariant: the numbers at and below the entries before `j` are marked, except those below the blocks that were added to `next`.
abbrev pub invariant-loop-j : goal.invariant-loop-j
invariant-loop-j l = record {
  kept : KeepsDraws l.tally l.fn.seat l.seat;
  named : All (IsNamed l.geometry) l.next.items;
  marks : AddsBut l.fn.seat l.seat
      (λ weight. below_all l.geometry l.image l.i weight l.level l.fn.next.items
      + l.n.times * below (λ k. total (place_weight l.geometry weight l.i) (blocks_from l.geometry l.image l.level (pointer_in l.geometry l.image l.n.number k))) l.j)
      (λ weight. below_all l.geometry l.image l.i weight l.level l.next.items);
}
