use Rattle.std.specs.Process.{exit_status}
use Rattle.unixvol.specs.FileFaults.{run_status}
use Rattle.unixvol.specs.Exits.{Exits}
use Rattle.unixvol.specs.Runs.{RunsWork, IsEnd, host_files}
use Rattle.unixvol.proofs.Begun.{ended_printed, to_end}
use Rattle.unixvol.proofs.threads.run_to_end.Goals as goal

pub returns : goal.returns
returns g c =
    let files = host_files c.args.volume.at g.R.File.Read.remaining g.R.File.Write.contents g.R.ImageFiles.had g.R.ImageFiles.stood in
    let status = run_status c.run-ended.result in
    to_end (λ streams status. RunsWork streams files c.args.screen c.args.volume.edition c.args.work status)
    (λ streams status. IsEnd streams status) Exits (g.O.Write.contents c.args.output) (g.E.Write.contents c.args.errors) _ _ _ _ _ _ _ _ status (exit_status c.from.result)
    c.noted_writer-output.ensures.bytes c.new-errors.ensures.bytes c.noted_writer-output.ensures.fresh c.run-ended.ensures.runs c.run-ended.ensures.ends
    c.tell_end-status.ensures.told (ended_printed status c.tell_end-status.result c.finish_printed.result (exit_status c.from.result) c.tell_end-status.ensures.status c.from.ensures c.finish_printed.ensures)
