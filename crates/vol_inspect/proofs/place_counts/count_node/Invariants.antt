use Rattle.std.specs.List.{sum_by, range_with_len}
use Rattle.vol_layout.specs.Inode.{inode_place, address_at}
use Rattle.vol_layout.specs.BlockMaps.{levels}
use Rattle.vol_layout.specs.BlockPointers.{form_at}
use Rattle.vol_inspect.specs.PlaceCounts.{Counts, IsTally, found_at}
use Rattle.vol_inspect.proofs.place_counts.count_node.Given as goal

-- Invariant: the blocks of the addresses before `k` are counted.
abbrev pub invariant-loop-k : goal.invariant-loop-k
invariant-loop-k l = record {
  counted : Counts l.geometry (λ c e. sum_by (λ k. found_at l.geometry l.image (levels (form_at l.geometry l.image l.i) k)
      (address_at l.geometry.edition l.image (inode_place l.geometry.edition l.i) k) c e) (range_with_len 0 l.k)) l.fn.counts l.counts;
  tally : IsTally l.geometry l.image 3 l.counts;
}
