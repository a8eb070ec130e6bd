use Rattle.std.proofs.Common.{ℕ, List, map, refl}
use Rattle.std.specs.Borrow.{Bor}
use Rattle.std.specs.Process.{exit_status}
use Rattle.unixvol.specs.Exits.{Exits}
use Rattle.unixvol.specs.Identify.{RunsIdentify}
use Rattle.unixvol.specs.Runs.{IsEnd}
use Rattle.unixvol.proofs.Begun.{ended_printed, to_end}
use Rattle.unixvol.proofs.Identified.{ends_identified}
use Rattle.unixvol.proofs.identify.run_to_end.Goals as goal

pub returns : goal.returns
returns g c =
    let status = c.print_lines-ending.result.status in
    let paths = map (λ (image : Bor (List ℕ)). image.now) c.args.images.now in
    let runs = c.print_lines-ending.ensures in
    to_end (λ streams status. RunsIdentify g.R.File.Read.remaining g.R.ImageFiles.had g.R.ImageFiles.stood streams c.args.form paths status)
    (λ streams status. IsEnd streams status) Exits (g.O.Write.contents c.args.output) (g.E.Write.contents c.args.errors) _ _ _ _ _ _ _ _ status (exit_status c.from.result)
    c.noted_writer-output.ensures.bytes c.new-errors.ensures.bytes c.noted_writer-output.ensures.fresh runs
    (ends_identified g.R.File.Read.remaining g.R.ImageFiles.had g.R.ImageFiles.stood c.args.form _ paths status runs)
    c.tell_fault.ensures (ended_printed status status c.finish_printed.result (exit_status c.from.result) refl c.from.ensures c.finish_printed.ensures)
