use Rattle.vol_judge.specs.Reach.{WalksUp, unwalked}
use Rattle.vol_judge.proofs.directories.tree.goes_to_root.Given as goal

-- Invariant: the walk up from d is at `at`.
abbrev pub invariant-loop-walks : goal.invariant-loop-walks
invariant-loop-walks l = WalksUp l.geometry l.image l.parents l.d l.at l.walks

abbrev pub decreases-loop-walks : goal.decreases-loop-walks
decreases-loop-walks l = unwalked l.walks
