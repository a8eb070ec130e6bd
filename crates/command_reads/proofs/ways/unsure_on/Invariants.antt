use Rattle.std.proofs.Common.{◌≡◌, length}
use Rattle.vol_dir.specs.Walk.{components}
use Rattle.command_reads.specs.Ways.{last_unsure, unsure_on}
use Rattle.command_reads.proofs.ways.unsure_on.Given as goal

-- Invariant: the last node that can't be trusted, from the current node along the rest of the path, is that of the whole path.
abbrev pub invariant-names : goal.invariant-names
invariant-names l = record {
  whole : last_unsure l.geometry l.image l.lost l.seen l.place.items l.i (components l.rest) ≡ unsure_on l.geometry l.image l.lost l.path;
}

abbrev pub decreases-names : goal.decreases-names
decreases-names l = length l.rest
