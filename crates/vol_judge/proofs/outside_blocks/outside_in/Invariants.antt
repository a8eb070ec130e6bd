use Rattle.std.proofs.Common.{◌≡◌, None}
use Rattle.vol_judge.specs.Marks.{KnowsInside}
use Rattle.vol_judge.proofs.FileBlocks.{addresses_from}
use Rattle.vol_judge.specs.OutsideBlocks.{first_outside}
use Rattle.vol_judge.proofs.outside_blocks.outside_in.Given as goal

-- Invariant: all addresses at and below the i-node's addresses before k are in the data zone.
abbrev pub invariant-loop-k : goal.invariant-loop-k
invariant-loop-k l = record {
  addresses : first_outside l.geometry (addresses_from l.geometry l.image l.i l.k) ≡ None;
  known : KnowsInside l.geometry l.image l.known;
}
