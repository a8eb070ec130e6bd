use Rattle.std.proofs.Common.{◌^◌, ◌-◌, length}
use Rattle.vol_volume.specs.Volume.{reads_as}
use Rattle.vol_batch.proofs.TakenPaths.{TakesOn}
use Rattle.vol_batch.proofs.plan.calls_for.Given as goal

-- Invariant: calls that remove the pending paths, followed by the calls so far in reverse, remove `path`.
abbrev pub invariant-paths : goal.invariant-paths
invariant-paths l = TakesOn (reads_as l.volume.edition l.volume.image).tree l.now l.fn.path l.pending.items l.calls.items

abbrev pub decreases-paths : goal.decreases-paths
decreases-paths l = 2 ^ 64 - length l.calls.items
