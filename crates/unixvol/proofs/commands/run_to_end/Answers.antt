use Rattle.std.specs.Process.{exit_status}
use Rattle.unixvol.specs.FileFaults.{run_status}
use Rattle.unixvol.specs.Exits.{ExitsAfterSaving}
use Rattle.unixvol.specs.Reports.{may_report_read}
use Rattle.unixvol.specs.Runs.{RunsRead, Ends, but_remarks, host_files, read_at}
use Rattle.unixvol.proofs.Begun.{ended, to_end}
use Rattle.unixvol.proofs.commands.run_to_end.Goals as goal

pub returns : goal.returns
returns g c =
    let files = host_files (read_at c.args.read) g.R.File.Read.remaining g.R.File.Write.contents g.R.ImageFiles.had g.R.ImageFiles.stood in
    let status = run_status c.run-ended.result in
    to_end (λ streams status. RunsRead streams files status c.args.read)
    (λ streams status. Ends (but_remarks (may_report_read c.args.read) streams) status) ExitsAfterSaving (g.O.Write.contents c.args.output) (g.E.Write.contents c.args.errors) _ _ _ _ _ _ _ _ status (exit_status c.from.result)
    c.noted_writer-output.ensures.bytes c.new-errors.ensures.bytes c.noted_writer-output.ensures.fresh c.run-ended.ensures.runs c.run-ended.ensures.ends
    c.tell_end-status.ensures.told (ended status c.tell_end-status.result c.finish.result (exit_status c.from.result) c.tell_end-status.ensures.status c.from.ensures c.finish.ensures)
