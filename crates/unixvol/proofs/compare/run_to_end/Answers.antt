use Rattle.std.specs.Process.{exit_status}
use Rattle.unixvol.specs.FileFaults.{run_status}
use Rattle.unixvol.specs.Exits.{Exits}
use Rattle.unixvol.specs.Compare.{EndsComparison, RunsDiff}
use Rattle.unixvol.specs.Runs.{host_files}
use Rattle.unixvol.proofs.Begun.{ended_printed, to_end}
use Rattle.unixvol.proofs.Compared.{ends_compared}
use Rattle.unixvol.proofs.compare.run_to_end.Goals as goal

pub returns : goal.returns
returns g c =
    let files = host_files c.args.volume.at g.R.File.Read.remaining g.R.File.Write.contents g.R.ImageFiles.had g.R.ImageFiles.stood in
    let status = run_status c.run-ended.result in
    let runs = c.run-ended.ensures in
    to_end (λ streams status. RunsDiff streams files c.args.volume c.args.other.now c.args.by status)
    (λ streams status. EndsComparison c.args.volume c.args.other.now c.args.by streams status) Exits (g.O.Write.contents c.args.output) (g.E.Write.contents c.args.errors) _ _ _ _ _ _ _ _ status (exit_status c.from.result)
    c.noted_writer-output.ensures.bytes c.new-errors.ensures.bytes c.noted_writer-output.ensures.fresh runs
    (ends_compared c.args.volume.at g.R.File.Read.remaining g.R.File.Write.contents g.R.ImageFiles.had g.R.ImageFiles.stood _ c.args.volume c.args.other.now c.args.by status runs)
    c.tell_end-status.ensures.told (ended_printed status c.tell_end-status.result c.finish_printed.result (exit_status c.from.result) c.tell_end-status.ensures.status c.from.ensures c.finish_printed.ensures)
