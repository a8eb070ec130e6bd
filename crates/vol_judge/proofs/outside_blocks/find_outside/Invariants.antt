use Rattle.std.proofs.Common.{ℕ, ◌<◌, ◌≤◌}
use Rattle.vol_judge.specs.Marks.{KnowsInside, IsFileZoned}
use Rattle.vol_judge.proofs.outside_blocks.find_outside.Given as goal

-- Invariant: the files before i keep rule 5.
abbrev pub invariant-loop-i : goal.invariant-loop-i
invariant-loop-i l = record {
  files : (j : ℕ) → 1 ≤ j → j < l.i → IsFileZoned l.geometry l.image j;
  known : KnowsInside l.geometry l.image l.known;
}
