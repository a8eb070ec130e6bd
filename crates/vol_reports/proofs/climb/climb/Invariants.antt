use Rattle.std.proofs.Common.{◌-◌, eqb, length}
use Rattle.std.specs.List.{count_by}
use Rattle.vol_reports.specs.Climb.{Climbs}
use Rattle.vol_reports.proofs.climb.climb.Given as goal

-- Invariant: the climb so far is in progress at directory `at`.
abbrev pub invariant-loop-at : goal.invariant-loop-at
invariant-loop-at l = Climbs l.root l.naming l.turn l.d l.at l.marks l.way.items

abbrev pub decreases-loop-at : goal.decreases-loop-at
decreases-loop-at l = length l.marks - count_by (λ m. eqb m l.turn) l.marks
