use Rattle.std.proofs.Common.{◌≡◌, ◌-◌, ◌%◌}
use Rattle.vol_file.specs.Rules.{size_of}
use Rattle.vol_dir.specs.Repeats.{MarksEmpty}
use Rattle.vol_judge.specs.DirectoryNames.{HasEntriesBelow, HoldsNamesBelow}
use Rattle.vol_judge.proofs.entries.find_in.Given as goal

-- Invariant: the slots below `from` keep rule 9, and `names` has the names of their entries.
abbrev pub invariant-loop-s : goal.invariant-loop-s
invariant-loop-s l = record {
  whole : size_of l.geometry l.image l.d % 16 ≡ 0;
  below : HasEntriesBelow l.geometry l.image l.d l.from;
  names : HoldsNamesBelow l.geometry l.image l.d l.from l.names;
  marks : MarksEmpty l.geometry l.image l.marks;
}

abbrev pub decreases-loop-s : goal.decreases-loop-s
decreases-loop-s l = 4294967296 - l.from
