use Rattle.vol_scripts.specs.Endings.{PrintsPlay, form_text}
use Rattle.vol_scripts.proofs.EndingLemmas.{ends}
use Rattle.vol_scripts.proofs.ending.finish.Goals as goal

pub returns : goal.returns
returns g c = record {
  saved = c.unmount.ensures.bytes;
  ended =
      ends
      (PrintsPlay c.args.volume c.args.scripts.items (form_text c.args.volume c.args.cuts c.args.journal c.args.form c.args.scripts.items) (g.O.Sink.contents c.args.output.now) (g.O.Sink.contents c.print_report-printed.new.output) (g.O.Sink.failed c.args.output.now)
      (g.O.Sink.failed c.print_report-printed.new.output))
      c.print_report-printed.result c.ending_of-status.result.status c.ending_of-status.result.fault c.print_report-printed.ensures c.ending_of-status.ensures.printed
      c.ending_of-status.ensures.fault;
}
