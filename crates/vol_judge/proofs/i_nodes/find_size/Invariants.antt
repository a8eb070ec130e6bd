use Rattle.vol_judge.specs.INodes.{AreLimitedBelow}
use Rattle.vol_judge.proofs.i_nodes.find_size.Given as goal

-- Invariant: the i-nodes before i are within the limits.
abbrev pub invariant-loop-i : goal.invariant-loop-i
invariant-loop-i l = AreLimitedBelow l.geometry l.image l.i
