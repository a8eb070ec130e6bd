use Rattle.command_reads.proofs.BadImages.{looks_rescued, looks_unread}
use Rattle.command_reads.proofs.bad_looks.look_bad.Goals as goal

pub returns-in-Ok : goal.returns-in-Ok
returns-in-Ok g c =
    looks_rescued c.args.edition c.args.image.items c.args.sizes c.args.look c.args.screen _ c.show_rescued.result.status c.in-Ok.read.image c.in-Ok.read.lost.items c.args.bad
    c.in-Ok.ensures.read c.show_rescued.ensures

pub returns-in-Err : goal.returns-in-Err
returns-in-Err g c =
    looks_unread c.args.edition c.args.image.items c.args.sizes c.args.look c.args.screen _ c.in-Err.ending.status c.args.bad
    (c.in-Err.ensures.fault (g.O.Sink.contents c.args.output.now) (g.O.Sink.failed c.args.output.now))
