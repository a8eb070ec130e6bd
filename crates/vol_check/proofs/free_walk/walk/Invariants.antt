use Rattle.std.proofs.Common.{ℕ, ◌-◌, List}
use Rattle.count_table.specs.Sums.{total}
use Rattle.count_table.specs.Views.{mark}
use Rattle.vol_free.specs.Walk.{HasMet}
use Rattle.vol_reports.specs.Words.{free_word}
use Rattle.vol_check.specs.Pieces.{Adds}
use Rattle.vol_check.proofs.free_walk.walk.Given as goal

-- Invariant: the blocks that the walk passed are marked.
abbrev pub invariant-walk : goal.invariant-walk
invariant-walk l = (met : List ℕ) × HasMet l.geometry l.image l.marks l.walk met
    × Adds l.tally l.fn.seat l.seat (λ weight. total (λ b. weight (mark (free_word l.geometry b) 1)) met)

-- each step of the walk passes one more block
abbrev pub decreases-walk : goal.decreases-walk
decreases-walk l = l.geometry.zone_end - l.walk.met
