use Rattle.std.proofs.Common.{◌≡◌, ◌+◌, length}
use Rattle.vol_rescue.specs.Notes.{AreNotes}
use Rattle.vol_rescue.proofs.notes.all_notes.Given as goal

-- Invariant: the notes on the i-nodes up to i-number `before` have been added.
abbrev pub invariant-loop-before : goal.invariant-loop-before
invariant-loop-before l = record {
  notes : AreNotes l.geometry l.image l.lost l.notes.items;
  count : length l.notes.items ≡ l.before + 1;
}
