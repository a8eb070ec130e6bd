use Rattle.std.proofs.Common.{◌≡◌, map}
use Rattle.std.specs.List.{range_with_len}
use Rattle.vol_inspect.specs.Uses.{use_of}
use Rattle.vol_inspect.proofs.uses.block_uses.Given as goal

-- Invariant: the uses of the blocks before `b` have been added.
abbrev pub invariant-loop-b : goal.invariant-loop-b
invariant-loop-b l = l.uses.items ≡ map (use_of l.geometry l.image) (range_with_len 0 l.b)
