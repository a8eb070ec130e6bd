use Rattle.std.proofs.Common.{◌-◌, ◌≤◌}
use Rattle.vol_judge.specs.Entered.{NotesUpTo}
use Rattle.vol_judge.proofs.directories.entered.note_rest.Given as goal

-- Invariant: the entries before slot `s` are noted.
abbrev pub invariant-loop-s : goal.invariant-loop-s
invariant-loop-s l = record {
  low : l.from.slot ≤ l.s;
  notes : NotesUpTo l.geometry l.image l.ups l.from.directory l.s l.found;
}

abbrev pub decreases-loop-s : goal.decreases-loop-s
decreases-loop-s l = l.end - l.s
