use Rattle.std.proofs.Common.{◌-◌}
use Rattle.vol_inspect.proofs.LostNames.{NotesSlots}
use Rattle.vol_inspect.proofs.lost.note_directory.Given as goal

-- Invariant: the entries in the slots before `from` are noted.
abbrev pub invariant-loop-s : goal.invariant-loop-s
invariant-loop-s l = NotesSlots l.geometry l.image l.d l.from l.fn.named l.named l.marks

abbrev pub decreases-loop-s : goal.decreases-loop-s
decreases-loop-s l = 4294967296 - l.from
