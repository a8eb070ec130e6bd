use Rattle.std.specs.List.{sum_by, range_with_len}
use Rattle.vol_inspect.specs.PlaceCounts.{Counts, IsTally, wanted_count}
use Rattle.vol_inspect.proofs.place_counts.count_kind.Given as goal

-- Invariant: the block-map positions of the i-nodes so far are counted.
abbrev pub invariant-loop-before : goal.invariant-loop-before
invariant-loop-before l = record {
  counted : Counts l.geometry (λ c e. sum_by (λ i. wanted_count l.geometry l.image l.wanted i c e) (range_with_len 1 l.before)) l.fn.counts l.counts;
  tally : IsTally l.geometry l.image 3 l.counts;
}
