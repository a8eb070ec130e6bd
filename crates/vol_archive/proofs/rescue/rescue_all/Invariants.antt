use Rattle.vol_archive.specs.Marks.{AreFirsts}
use Rattle.vol_archive.specs.Rescue.{IsRescuedUpTo}
use Rattle.vol_archive.proofs.rescue.rescue_all.Given as goal

-- Invariant: the i-nodes before `i` are rescued.
abbrev pub invariant-loop-i : goal.invariant-loop-i
invariant-loop-i l = record {
  rescued : IsRescuedUpTo l.geometry l.image l.orphans l.rescued.unreached.items l.rescued.walked.founds.items l.i;
  firsts : AreFirsts l.geometry l.rescued.walked.firsts.items l.rescued.walked.founds.items;
}
