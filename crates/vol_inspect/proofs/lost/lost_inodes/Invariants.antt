use Rattle.std.proofs.Common.{◌≡◌, ◌-◌}
use Rattle.std.specs.List.{filter, range_with_len}
use Rattle.vol_inspect.specs.Lost.{is_lost}
use Rattle.vol_inspect.proofs.lost.lost_inodes.Given as goal

-- Invariant: the lost i-nodes before `i` have been added.
abbrev pub invariant-loop-i : goal.invariant-loop-i
invariant-loop-i l = l.lost.items ≡ filter (is_lost l.geometry l.image l.named.items) (range_with_len 0 (l.i - 0))
