use Rattle.std.proofs.Common.{◌≡◌, map}
use Rattle.std.specs.List.{range_with_len}
use Rattle.vol_inspect.specs.NodeUses.{node_use}
use Rattle.vol_inspect.proofs.shown_blocks.node_uses.Given as goal

-- Invariant: the blocks before `b` have been added.
abbrev pub invariant-loop-b : goal.invariant-loop-b
invariant-loop-b l = l.shown.items ≡ map (node_use l.geometry l.image l.i) (range_with_len 0 l.b)
