use Rattle.std.proofs.Common.{inl, inr}
use Rattle.command_reads.proofs.Exported.{told_incomplete}
use Rattle.command_reads.proofs.export.export.Goals as goal

pub returns-in-Ok : goal.returns-in-Ok
returns-in-Ok g c = inl (c.in-Ok.read.image, c.in-Ok.read.lost.items, c.in-Ok.ensures.read, c.export_read.ensures)

pub returns-in-Err : goal.returns-in-Err
returns-in-Err g c =
    inr (
      c.in-Err.ensures.fault.0,
      told_incomplete c.args.edition c.args.image.items (g.O.Sink.contents c.args.output.now) (g.O.Sink.failed c.args.output.now) c.in-Err.fault
          c.unread.result.status c.unread.result.fault c.in-Err.ensures.fault.1 c.unread.ensures,
    )
