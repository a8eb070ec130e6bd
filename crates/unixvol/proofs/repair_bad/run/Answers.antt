use Rattle.std.proofs.Common.{inl, inr}
use Rattle.unixvol.specs.Runs.{IsUnread}
use Rattle.unixvol.proofs.FileFaults.{stopped}
use Rattle.unixvol.proofs.repair_bad.run.Goals as goal

pub returns-in_err-bad : goal.returns-in_err-bad
returns-in_err-bad g c =
    inl (stopped (IsUnread g.R.File.Read.remaining) (g.O.Sink.contents c.args.output.now) (g.O.Sink.failed c.args.output.now) _ _ c.from_residual.ensures.1 c.in_err-bad.ensures.fault)

pub returns-in_err-bytes : goal.returns-in_err-bytes
returns-in_err-bytes g c =
    inl (stopped (IsUnread g.R.File.Read.remaining) (g.O.Sink.contents c.args.output.now) (g.O.Sink.failed c.args.output.now) _ _ c.from_residual-in_err-bytes.ensures.1 c.in_err-bytes.ensures.fault)

pub returns-in-Ok : goal.returns-in-Ok
returns-in-Ok g c =
    inr (
      c.in_ok-bytes.bytes.items,
      c.in_ok-bad.bad,
      c.in_ok-bytes.ensures.given,
      c.in_ok-bad.ensures.read,
      inr (c.in-Ok.read.image, c.in-Ok.read.lost.items, c.in-Ok.ensures.read, c.repair_read.ensures),
    )

pub returns-in-Err : goal.returns-in-Err
returns-in-Err g c =
    inr (
      c.in_ok-bytes.bytes.items,
      c.in_ok-bad.bad,
      c.in_ok-bytes.ensures.given,
      c.in_ok-bad.ensures.read,
      inl (c.in-Err.ensures.fault (g.O.Sink.contents c.args.output.now) (g.O.Sink.failed c.args.output.now)),
    )
