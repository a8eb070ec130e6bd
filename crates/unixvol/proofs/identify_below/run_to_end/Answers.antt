use Rattle.std.proofs.Common.{ℕ, List, map, refl}
use Rattle.std.specs.Borrow.{Bor}
use Rattle.std.specs.Process.{exit_status}
use Rattle.unixvol.specs.Exits.{Exits}
use Rattle.unixvol.specs.Below.{RunsBelow}
use Rattle.unixvol.specs.Runs.{IsEnd}
use Rattle.unixvol.proofs.Begun.{ended_printed, to_end}
use Rattle.unixvol.proofs.VisitedBelow.{ends_below}
use Rattle.unixvol.proofs.identify_below.run_to_end.Goals as goal

pub returns : goal.returns
returns g c =
    let status = c.print_all-ending.result.status in
    let paths = map (λ (image : Bor (List ℕ)). image.now) c.args.images.now in
    let runs = c.print_all-ending.ensures in
    to_end (λ streams status. RunsBelow g.R.File.Read.remaining g.R.ImageFiles.had g.R.ImageFiles.stood g.R.ImageFiles.listed streams c.args.form paths status)
    (λ streams status. IsEnd streams status) Exits (g.O.Write.contents c.args.output) (g.E.Write.contents c.args.errors) _ _ _ _ _ _ _ _ status (exit_status c.from.result)
    c.noted_writer-output.ensures.bytes c.new-errors.ensures.bytes c.noted_writer-output.ensures.fresh runs
    (ends_below g.R.File.Read.remaining g.R.ImageFiles.had g.R.ImageFiles.stood g.R.ImageFiles.listed c.args.form _ paths status runs)
    c.tell_fault.ensures (ended_printed status status c.finish_printed.result (exit_status c.from.result) refl c.from.ensures c.finish_printed.ensures)
