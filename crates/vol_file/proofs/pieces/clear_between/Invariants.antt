use Rattle.std.proofs.Common.{ℕ, ◌-◌, ◌≤◌, List}
use Rattle.vol_file.specs.Rules.{Rules3To7With}
use Rattle.vol_file.specs.Steps.{Rewrites, zeros_at}
use Rattle.vol_file.proofs.pieces.clear_between.Given as goal

-- Invariant: the bytes before `at` have been cleared.
abbrev pub invariant-loop-at : goal.invariant-loop-at
invariant-loop-at l = record {
  from : l.from ≤ l.at;
  within : l.at ≤ l.to;
  cleared : (blocks : List ℕ) → Rules3To7With l.geometry l.initial.image blocks
      → Rewrites l.geometry l.initial.image l.image l.i l.from l.at zeros_at blocks;
}

abbrev pub decreases-loop-at : goal.decreases-loop-at
decreases-loop-at l = l.to - l.at
