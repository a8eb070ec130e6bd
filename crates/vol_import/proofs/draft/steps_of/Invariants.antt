use Rattle.std.proofs.Common.{◌≡◌, ◌++◌, length}
use Rattle.vol_import.specs.Plan.{steps_of}
use Rattle.vol_import.proofs.Steps.{texts}
use Rattle.vol_import.proofs.draft.steps_of.Given as goal

-- Invariant: the steps so far and the steps left are all steps of the path.
abbrev pub invariant-loop-step : goal.invariant-loop-step
invariant-loop-step l = texts l.steps.items ++ steps_of l.left ≡ steps_of l.fn.path

abbrev pub decreases-loop-step : goal.decreases-loop-step
decreases-loop-step l = length l.left
