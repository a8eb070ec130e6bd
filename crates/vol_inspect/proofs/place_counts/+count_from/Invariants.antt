use Rattle.std.proofs.Common.{◌+◌, ◌-◌}
use Rattle.vol_inspect.specs.PlaceCounts.{Counts, IsTally}
use Rattle.vol_inspect.proofs.Found.{here_at, below}
use Rattle.vol_inspect.proofs.place_counts.+count_from.Given as goal

-- each call is for a smaller level
abbrev pub decreases-count_from : goal.decreases-count_from
decreases-count_from l = l.level

-- Invariant: the block and the blocks of its entries before `j` are counted.
abbrev pub invariant-loop-j : goal.invariant-loop-j
invariant-loop-j l = record {
  counted : Counts l.geometry (λ c e. here_at l.b c e l.level + below l.geometry l.image (l.level - 1) l.b c e l.j) l.fn.counts l.counts;
  tally : IsTally l.geometry l.image (l.level - 1) l.counts;
}
