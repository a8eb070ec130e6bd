use Rattle.std.proofs.Common.{◌-◌}
use Rattle.vol_judge.specs.Marks.{ExtendsMarks, KnowsMarked}
use Rattle.vol_judge.proofs.AllBlocks.{files_from}
use Rattle.vol_judge.proofs.used_blocks.mark_named.Given as goal

-- Invariant: the data blocks of the files before i are marked.
abbrev pub invariant-loop-i : goal.invariant-loop-i
invariant-loop-i l = record {
  files : ExtendsMarks l.geometry (files_from l.geometry l.image (l.i - 1)) l.initial.marks l.marks;
  known : KnowsMarked l.geometry l.image l.marks;
}
