use Rattle.std.proofs.Common.{◌≡◌}
use Rattle.unixvol.proofs.Identified.{ArePrinted}
use Rattle.unixvol.proofs.identify.print_lines.Given as goal

-- Invariant: the lines of the files so far are printed, the status is the greatest of theirs, and standard output hasn't failed.
abbrev pub invariant-images : goal.invariant-images
invariant-images g l =
    ArePrinted g.R.File.Read.remaining g.R.ImageFiles.had g.R.ImageFiles.stood l.form l.images l.image-index (g.O.Sink.contents l.fn.output) (g.O.Sink.contents l.output) l.status
    × (g.O.Sink.failed l.output ≡ g.O.Sink.failed l.fn.output)
