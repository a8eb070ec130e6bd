use Rattle.std.proofs.Common.{◌-◌}
use Rattle.std.specs.List.{FoldsTo, range_with_len}
use Rattle.vol_file.specs.Runs.{LooksUp}
use Rattle.vol_file.specs.Visits.{Visits}
use Rattle.vol_file.proofs.visit.read_range.Given as goal

-- Invariant: the logical blocks before `b` have been visited in order, and the visitor can be called again.
abbrev pub invariant-loop-b : goal.invariant-loop-b
invariant-loop-b g l =
    LooksUp l.geometry l.image l.i l.numbers × FoldsTo (Visits g.F.FnMut l.geometry l.image l.i) l.fn.visit (range_with_len l.first (l.b - l.first)) l.visit
    × goal.F-IsAlwaysCallable g l.visit
