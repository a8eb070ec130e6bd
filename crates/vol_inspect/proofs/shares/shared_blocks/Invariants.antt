use Rattle.std.proofs.Common.{◌≡◌, ◌-◌}
use Rattle.std.specs.List.{filter, range_with_len}
use Rattle.vol_inspect.specs.SharedBlocks.{is_shared}
use Rattle.vol_inspect.proofs.shares.shared_blocks.Given as goal

-- Invariant: the shared blocks before `b` have been added.
abbrev pub invariant-loop-b : goal.invariant-loop-b
invariant-loop-b l = l.shared.items ≡ filter (is_shared l.geometry l.image) (range_with_len l.geometry.zone_start (l.b - l.geometry.zone_start))
