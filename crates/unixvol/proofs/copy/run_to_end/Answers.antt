use Rattle.std.specs.Process.{exit_status}
use Rattle.unixvol.specs.FileFaults.{run_status}
use Rattle.unixvol.specs.Exits.{ExitsAfterSaving}
use Rattle.unixvol.specs.Copies.{RunsCopy}
use Rattle.unixvol.specs.Runs.{Ends, host_files}
use Rattle.unixvol.proofs.Begun.{ended, to_end}
use Rattle.unixvol.proofs.copy.run_to_end.Goals as goal

pub returns : goal.returns
returns g c =
    let files = host_files c.args.volume.at g.R.File.Read.remaining g.R.File.Write.contents g.R.ImageFiles.had g.R.ImageFiles.stood in
    let status = run_status c.run-ended.result in
    to_end (λ streams status. RunsCopy streams files g.R.ImageFiles.stands g.R.ImageFiles.listed c.args.volume.edition c.args.copying status)
    (λ streams status. Ends streams status) ExitsAfterSaving (g.O.Write.contents c.args.output) (g.E.Write.contents c.args.errors) _ _ _ _ _ _ _ _ status (exit_status c.from.result)
    c.noted_writer-output.ensures.bytes c.new-errors.ensures.bytes c.noted_writer-output.ensures.fresh c.run-ended.ensures.runs c.run-ended.ensures.ends
    c.tell_end-status.ensures.told (ended status c.tell_end-status.result c.finish.result (exit_status c.from.result) c.tell_end-status.ensures.status c.from.ensures c.finish.ensures)
