use Rattle.std.proofs.Common.{◌≡◌, map}
use Rattle.std.specs.List.{range_with_len}
use Rattle.command_reads.specs.BadUses.{known_use}
use Rattle.command_reads.proofs.bad_uses.known_uses.Given as goal

-- Invariant: what is known of the blocks before `b` has been added.
abbrev pub invariant-loop-b : goal.invariant-loop-b
invariant-loop-b l = l.known.items ≡ map (known_use l.geometry l.image l.lost) (range_with_len 0 l.b)
