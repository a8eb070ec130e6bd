use Rattle.std.specs.Process.{exit_status}
use Rattle.unixvol.specs.FileFaults.{run_status}
use Rattle.unixvol.specs.Exits.{ExitsAfterSaving}
use Rattle.unixvol.specs.Runs.{RunsChange, EndsWith, host_files, host_input}
use Rattle.unixvol.proofs.Begun.{ended, to_end}
use Rattle.unixvol.proofs.changes.run_to_end.Goals as goal

pub returns : goal.returns
returns g c =
    let files = host_files c.args.volume.at g.R.File.Read.remaining g.R.File.Write.contents g.R.ImageFiles.had g.R.ImageFiles.stood in
    let input = host_input g.I.Read.remaining in
    let status = run_status c.run-ended.result in
    let ran = c.run-ended.ensures in (
      ran.0,
      to_end (λ streams status. RunsChange streams files input c.args.is_terminal c.args.volume.edition c.args.change c.args.trace ran.0 status)
          (λ streams status. EndsWith ran.0 streams status) ExitsAfterSaving (g.O.Write.contents c.args.output) (g.E.Write.contents c.args.errors) _ _ _ _ _ _ _ _ status (exit_status c.from.result)
          c.noted_writer-output.ensures.bytes c.new-errors.ensures.bytes c.noted_writer-output.ensures.fresh ran.1
          ran.2
          c.tell_end-status.ensures.told (ended status c.tell_end-status.result c.finish.result (exit_status c.from.result) c.tell_end-status.ensures.status c.from.ensures c.finish.ensures),
    )
