use Rattle.std.proofs.Common.{◌+◌, All, vec_len}
use Rattle.vol_check.specs.Levels.{IsNamed, below_all, KeepsDraws, AddsBut}
use Rattle.vol_check.proofs.levels.mark_level.Given as goal

-- Invariant: all numbers below the blocks are marked, except those of the blocks not yet read, and those below the blocks collected for the next
-- level.
abbrev pub invariant-loop-n : goal.invariant-loop-n
invariant-loop-n l = record {
  kept : KeepsDraws l.tally l.fn.seat l.seat;
  named : All (IsNamed l.geometry) l.once.items;
  next : All (IsNamed l.geometry) l.next.items;
  marks : AddsBut l.fn.seat l.seat (λ weight. below_all l.geometry l.image l.i weight (l.level + 1) l.fn.named.items)
      (λ weight. below_all l.geometry l.image l.i weight l.level l.next.items + below_all l.geometry l.image l.i weight (l.level + 1) l.once.items);
}

abbrev pub decreases-loop-n : goal.decreases-loop-n
decreases-loop-n l = vec_len l.once
