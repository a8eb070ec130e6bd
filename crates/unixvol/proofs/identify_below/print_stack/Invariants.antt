use Rattle.std.proofs.Common.{◌≡◌, ◌≤◌, ◌-◌}
use Rattle.unixvol.proofs.VisitedBelow.{ArePrintedBelow}
use Rattle.unixvol.proofs.identify_below.print_stack.Given as goal

-- Invariant: after so many visits the lines so far are printed, the status is the greatest of theirs, and standard output hasn't failed.
abbrev pub invariant-visits : goal.invariant-visits
invariant-visits g l =
    ArePrintedBelow g.R.File.Read.remaining g.R.ImageFiles.had g.R.ImageFiles.stood g.R.ImageFiles.listed l.form l.fn.stack.items l.visited l.stack.items
    (g.O.Sink.contents l.fn.output) (g.O.Sink.contents l.output) l.status
    × (g.O.Sink.failed l.output ≡ g.O.Sink.failed l.fn.output) × (l.visited ≤ 4294967295)

abbrev pub decreases-visits : goal.decreases-visits
decreases-visits g l = 4294967295 - l.visited
