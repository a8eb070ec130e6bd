use Rattle.std.proofs.Common.{◌≡◌, [], length}
use Rattle.std.specs.Prelude.{reverse}
use Rattle.vol_volume.specs.Volume.{reads_as}
use Rattle.vol_import.specs.Plan.{drafted, plan_onto}
use Rattle.vol_import.proofs.import_plan.plan.Given as goal

-- Invariant: planning the members left, after those so far, plans all members.
abbrev pub invariant-members : goal.invariant-members
invariant-members l =
    plan_onto (reads_as l.volume.edition l.volume.image).tree l.base l.now (drafted l.draft) (reverse l.left.items)
    ≡ plan_onto (reads_as l.volume.edition l.volume.image).tree l.base l.now ([], []) l.fn.members.items

abbrev pub decreases-members : goal.decreases-members
decreases-members l = length l.left.items
