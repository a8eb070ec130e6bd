use Rattle.std.proofs.Common.{◌≡◌, length}
use Rattle.vol_dir.specs.Walk.{components}
use Rattle.vol_import.specs.Plan.{ends_in_dot}
use Rattle.vol_import.proofs.Steps.{last_dot}
use Rattle.vol_import.proofs.draft.ends_in_dot.Given as goal

-- Invariant: the answer is that of the path, if no component is left; else that of the components left.
abbrev pub invariant-names : goal.invariant-names
invariant-names l = last_dot l.is_dot (components l.left) ≡ ends_in_dot (components l.fn.path)

abbrev pub decreases-names : goal.decreases-names
decreases-names l = length l.left
