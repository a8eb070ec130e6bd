use Rattle.std.proofs.Common.{◌-◌, ◌≤◌}
use Rattle.vol_dir.specs.Repeats.{MarksEmpty}
use Rattle.vol_judge.specs.Entered.{NotesUpTo}
use Rattle.vol_judge.specs.Steps.{rank}
use Rattle.vol_judge.proofs.directories.entered.note_entries.Given as goal

-- Invariant: the entries before the position are noted.
abbrev pub invariant-loop-entry : goal.invariant-loop-entry
invariant-loop-entry l = record {
  first : 1 ≤ l.place.directory;
  notes : NotesUpTo l.geometry l.image l.ups l.place.directory l.place.slot l.found;
  marks : MarksEmpty l.geometry l.image l.marks;
}

abbrev pub decreases-loop-entry : goal.decreases-loop-entry
decreases-loop-entry l = 281479271677952 - rank l.place.directory l.place.slot
