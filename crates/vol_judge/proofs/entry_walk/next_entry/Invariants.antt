use Rattle.std.proofs.Common.{◌≤◌}
use Rattle.vol_dir.specs.Repeats.{MarksEmpty}
use Rattle.vol_judge.specs.Steps.{rank}
use Rattle.vol_judge.proofs.PassedEntries.{IsPassed}
use Rattle.vol_judge.proofs.entry_walk.next_entry.Given as goal

-- Invariant: there is no entry between the position and slot `start` of directory d.
abbrev pub invariant-loop-d : goal.invariant-loop-d
invariant-loop-d l = record {
  passed : IsPassed l.geometry l.image (rank l.fn.from.directory l.fn.from.slot) l.d l.start;
  marks : MarksEmpty l.geometry l.image l.marks;
  reached : rank l.fn.from.directory l.fn.from.slot ≤ rank l.d l.start;
}
