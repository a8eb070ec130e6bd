use Rattle.std.proofs.Common.{ℕ, ◌<◌, ◌≤◌}
use Rattle.vol_judge.specs.EntryCounts.{IsCounted}
use Rattle.vol_judge.specs.Directories.{entry_count}
use Rattle.vol_judge.proofs.directories.links.find_link.Given as goal

-- Invariant: the link counts of the i-nodes before i are right.
abbrev pub invariant-loop-i : goal.invariant-loop-i
invariant-loop-i l = (j : ℕ) → 1 ≤ j → j < l.i → IsCounted l.geometry l.image j (entry_count l.geometry l.image j)
