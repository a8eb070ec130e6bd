use Rattle.vol_judge.specs.INodes.{AreKnownBelow}
use Rattle.vol_judge.proofs.i_nodes.find_kind.Given as goal

-- Invariant: no i-node before i has an odd mode.
abbrev pub invariant-loop-i : goal.invariant-loop-i
invariant-loop-i l = AreKnownBelow l.geometry l.image l.i
