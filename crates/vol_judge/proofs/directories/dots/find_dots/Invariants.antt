use Rattle.std.proofs.Common.{ℕ, ◌<◌}
use Rattle.vol_dir.specs.Entries.{IsDirectory}
use Rattle.vol_judge.specs.Dots.{KeepsDots}
use Rattle.vol_judge.proofs.directories.dots.find_dots.Given as goal

-- Invariant: the directories before d have their entries `.` and `..`.
abbrev pub invariant-loop-d : goal.invariant-loop-d
invariant-loop-d l = (e : ℕ) → e < l.d → IsDirectory l.geometry l.image e → KeepsDots l.geometry l.image e
