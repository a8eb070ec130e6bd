use Rattle.vol_judge.specs.Marks.{ExtendsMarks, KnowsMarked}
use Rattle.vol_judge.proofs.FileBlocks.{addresses_from}
use Rattle.vol_judge.proofs.used_blocks.mark_file.Given as goal

-- Invariant: the data blocks at and below the i-node's addresses before k are marked.
abbrev pub invariant-loop-k : goal.invariant-loop-k
invariant-loop-k l = record {
  addresses : ExtendsMarks l.geometry (addresses_from l.geometry l.image l.i l.k) l.fn.marks l.marks;
  known : KnowsMarked l.geometry l.image l.marks;
}
