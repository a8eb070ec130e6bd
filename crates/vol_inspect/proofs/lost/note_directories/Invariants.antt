use Rattle.vol_inspect.proofs.LostNames.{NotesBelow}
use Rattle.vol_inspect.proofs.lost.note_directories.Given as goal

-- Invariant: the entries of the directories before d are noted.
abbrev pub invariant-loop-d : goal.invariant-loop-d
invariant-loop-d l = NotesBelow l.geometry l.image l.d l.named l.marks
