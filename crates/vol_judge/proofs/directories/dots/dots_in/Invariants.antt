use Rattle.std.proofs.Common.{◌-◌}
use Rattle.vol_dir.specs.Names.{dot, dot_dot}
use Rattle.vol_dir.specs.Repeats.{MarksEmpty}
use Rattle.vol_judge.specs.InodeMarks.{IsNamedUpTo}
use Rattle.vol_judge.proofs.directories.dots.dots_in.Given as goal

-- Invariant: the i-numbers of the entries `.` and `..` in the slots below `from` are noted.
abbrev pub invariant-loop-s : goal.invariant-loop-s
invariant-loop-s l = record {
  own : IsNamedUpTo l.geometry l.image l.d l.from dot l.own;
  up : IsNamedUpTo l.geometry l.image l.d l.from dot_dot l.up;
  marks : MarksEmpty l.geometry l.image l.marks;
}

abbrev pub decreases-loop-s : goal.decreases-loop-s
decreases-loop-s l = 4294967296 - l.from
