use Rattle.std.proofs.Common.{ℕ, ◌<◌}
use Rattle.vol_dir.specs.Entries.{IsDirectory}
use Rattle.vol_dir.specs.Repeats.{MarksEmpty}
use Rattle.vol_judge.specs.DirectoryNames.{HasEntriesIn}
use Rattle.vol_judge.proofs.entries.find_marked.Given as goal

-- Invariant: the directories before d keep rule 9.
abbrev pub invariant-loop-d : goal.invariant-loop-d
invariant-loop-d l = record {
  entries : (e : ℕ) → e < l.d → IsDirectory l.geometry l.image e → HasEntriesIn l.geometry l.image e;
  marks : MarksEmpty l.geometry l.image l.marks;
}
