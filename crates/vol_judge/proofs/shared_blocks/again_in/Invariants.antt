use Rattle.std.proofs.Common.{◌≡◌, Some}
use Rattle.vol_judge.specs.Marks.{marked}
use Rattle.vol_judge.proofs.FileBlocks.{addresses_from}
use Rattle.vol_judge.proofs.shared_blocks.again_in.Given as goal

-- Invariant: the blocks at and below the i-node's addresses before k are marked.
abbrev pub invariant-loop-k : goal.invariant-loop-k
invariant-loop-k l = marked l.fn.marks (addresses_from l.geometry l.image l.i l.k) ≡ Some l.marks
