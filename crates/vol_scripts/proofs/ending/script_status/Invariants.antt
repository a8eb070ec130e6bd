use Rattle.std.proofs.Common.{◌≡◌, take}
use Rattle.vol_scripts.specs.Endings.{script_status}
use Rattle.vol_scripts.proofs.ending.script_status.Given as goal

-- Invariant: the status is the greatest of the steps so far.
abbrev pub invariant-steps : goal.invariant-steps
invariant-steps l = l.worst ≡ script_status (take l.came-index l.played)
