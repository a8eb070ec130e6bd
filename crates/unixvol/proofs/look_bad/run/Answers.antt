use Rattle.std.proofs.Common.{inl, inr}
use Rattle.unixvol.specs.Runs.{IsUnread}
use Rattle.unixvol.proofs.FileFaults.{stopped}
use Rattle.unixvol.proofs.look_bad.run.Goals as goal

pub returns-in_err-bad : goal.returns-in_err-bad
returns-in_err-bad g c =
    inl (stopped (IsUnread g.R.File.Read.remaining) (g.O.Sink.contents c.args.output.now) (g.O.Sink.failed c.args.output.now) _ _ c.from_residual.ensures.1 c.in_err-bad.ensures.fault)

pub returns-in_err-bytes : goal.returns-in_err-bytes
returns-in_err-bytes g c =
    inl (stopped (IsUnread g.R.File.Read.remaining) (g.O.Sink.contents c.args.output.now) (g.O.Sink.failed c.args.output.now) _ _ c.from_residual-in_err-bytes.ensures.1 c.in_err-bytes.ensures.fault)

pub returns : goal.returns
returns g c =
    inr (c.in_ok-bytes.bytes.items, c.in_ok-bad.bad, c.in_ok-bytes.ensures.given, c.in_ok-bad.ensures.read, c.look_bad.ensures)
