use Rattle.std.proofs.Common.{◌≡◌, ◌++◌}
use Rattle.vol_reports.specs.Climb.{trail}
use Rattle.vol_reports.proofs.climb.push_names.Given as goal

-- Invariant: the path and the names still in `way` make the whole path.
abbrev pub invariant-loop-entry : goal.invariant-loop-entry
invariant-loop-entry l = l.path.items ++ trail l.way.items ≡ l.initial.path.items ++ trail l.initial.way.items

abbrev pub decreases-loop-entry : goal.decreases-loop-entry
decreases-loop-entry l = goal.left-loop-entry l
