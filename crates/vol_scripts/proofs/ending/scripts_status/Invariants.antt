use Rattle.std.proofs.Common.{◌≡◌, take}
use Rattle.vol_scripts.specs.Endings.{scripts_status}
use Rattle.vol_scripts.proofs.ending.scripts_status.Given as goal

-- Invariant: the status is the greatest of the scripts so far.
abbrev pub invariant-scripts : goal.invariant-scripts
invariant-scripts l = l.worst ≡ scripts_status (take l.played-index l.scripts)
