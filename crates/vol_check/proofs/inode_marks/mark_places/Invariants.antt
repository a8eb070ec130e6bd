use Rattle.count_table.specs.Sums.{total, below}
use Rattle.vol_judge.proofs.FileBlocks.{address_blocks}
use Rattle.vol_check.specs.Pieces.{Adds, place_weight}
use Rattle.vol_check.proofs.inode_marks.mark_places.Given as goal

-- Invariant: the numbers at and below the addresses before `k` are marked.
abbrev pub invariant-loop-k : goal.invariant-loop-k
invariant-loop-k l = Adds l.tally l.fn.seat l.seat (λ weight.
    below (λ k. total (place_weight l.geometry weight l.i) (address_blocks l.geometry l.image l.i k)) l.k)
