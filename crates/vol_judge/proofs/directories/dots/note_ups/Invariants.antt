use Rattle.vol_dir.specs.Repeats.{MarksEmpty}
use Rattle.vol_judge.specs.InodeMarks.{NameThemselvesBelow}
use Rattle.vol_judge.proofs.directories.dots.note_ups.Given as goal

-- Invariant: the directories before d have an entry for themselves, and their `..` are noted.
abbrev pub invariant-loop-d : goal.invariant-loop-d
invariant-loop-d l = record {
  named : NameThemselvesBelow l.geometry l.image l.d l.numbers.items;
  marks : MarksEmpty l.geometry l.image l.marks;
}
