use Rattle.std.proofs.Common.{◌≡◌, [], drop}
use Rattle.vol_volume.specs.Volume.{reads_as}
use Rattle.vol_import.specs.Plan.{drafted, with_way}
use Rattle.vol_import.proofs.Steps.{texts}
use Rattle.vol_import.proofs.draft.push_way.Given as goal

-- Invariant: making the directories of the steps left, after those so far, makes all directories of the path.
abbrev pub invariant-loop-step : goal.invariant-loop-step
invariant-loop-step l =
    with_way (reads_as l.volume.edition l.volume.image).tree l.base l.now l.path.items (texts (drop l.step-index l.steps)) (drafted l.draft)
    ≡ with_way (reads_as l.volume.edition l.volume.image).tree l.base l.now [] (texts l.steps) (drafted l.initial.draft)
