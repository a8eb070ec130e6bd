use Rattle.std.proofs.Common.{take}
use Rattle.command_changes.specs.Extras.{HoldsPaths}
use Rattle.command_changes.proofs.extras.paths_of.Given as goal

-- Invariant: the set has the paths of the members so far.
abbrev pub invariant-loop-member : goal.invariant-loop-member
invariant-loop-member l = HoldsPaths l.known (take l.member-index l.members)
