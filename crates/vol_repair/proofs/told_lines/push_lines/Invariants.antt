use Rattle.vol_dir.specs.Repeats.{MarksEmpty}
use Rattle.vol_repair.specs.Repaired.{TellsUpTo}
use Rattle.vol_repair.proofs.told_lines.push_lines.Given as goal

-- Invariant: all up to i-number `before` is told.
abbrev pub invariant-loop-before : goal.invariant-loop-before
invariant-loop-before l = record {
  told : TellsUpTo l.geometry l.old l.new l.before l.lines.items;
  old_marks : MarksEmpty l.geometry l.old l.old_marks.items;
  new_marks : MarksEmpty l.geometry l.new l.new_marks.items;
}
