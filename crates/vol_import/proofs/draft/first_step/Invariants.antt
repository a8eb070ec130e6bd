use Rattle.std.proofs.Common.{◌≡◌, ◌≤◌, length}
use Rattle.vol_import.specs.Plan.{steps_of}
use Rattle.vol_import.proofs.draft.first_step.Given as goal

-- Invariant: the steps left are all steps of the path, and the text left isn't longer than the path.
abbrev pub invariant-names : goal.invariant-names
invariant-names l = (steps_of l.left ≡ steps_of l.fn.path) × (length l.left ≤ length l.fn.path)

abbrev pub decreases-names : goal.decreases-names
decreases-names l = length l.left
