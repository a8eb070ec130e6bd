use Rattle.std.proofs.Common.{◌≡◌, take}
use Rattle.vol_volume.specs.Volume.{reads_as}
use Rattle.vol_import.specs.Plan.{times}
use Rattle.vol_import.proofs.close.directory_times.Given as goal

-- Invariant: the calls so far are the calls of the members so far.
abbrev pub invariant-loop-member : goal.invariant-loop-member
invariant-loop-member l = l.calls.items ≡ times (reads_as l.volume.edition l.volume.image).tree l.base l.now (take l.member-index l.members)
