use Rattle.std.proofs.Common.{◌≡◌, take}
use Rattle.vol_import.specs.Plan.{joined}
use Rattle.vol_import.proofs.Steps.{texts}
use Rattle.vol_import.proofs.draft.joined.Given as goal

-- Invariant: the path so far is that of the steps so far.
abbrev pub invariant-loop-step : goal.invariant-loop-step
invariant-loop-step l = l.path.items ≡ joined (texts (take l.step-index l.steps))
