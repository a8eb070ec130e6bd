use Rattle.std.proofs.Common.{All}
use Rattle.vol_judge.specs.Marks.{blocks_from}
use Rattle.count_table.specs.Sums.{total}
use Rattle.vol_check.specs.Pieces.{place_weight}
use Rattle.vol_check.specs.Levels.{IsNamed, below_all, KeepsDraws, AddsBut}
use Rattle.vol_check.proofs.levels.mark_from.Given as goal

-- Invariant: all numbers at and below `b` are marked, except those below the blocks of this level.
abbrev pub invariant-loop-left : goal.invariant-loop-left
invariant-loop-left l = record {
  kept : KeepsDraws l.tally l.fn.seat l.seat;
  named : All (IsNamed l.geometry) l.named.items;
  marks : AddsBut l.fn.seat l.seat (λ weight. total (place_weight l.geometry weight l.i) (blocks_from l.geometry l.image l.level l.b))
      (λ weight. below_all l.geometry l.image l.i weight l.left l.named.items);
}

abbrev pub decreases-loop-left : goal.decreases-loop-left
decreases-loop-left l = l.left
