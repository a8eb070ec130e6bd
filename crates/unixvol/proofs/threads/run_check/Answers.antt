use Rattle.std.proofs.Common.{inl, inr}
use Rattle.unixvol.specs.Runs.{IsUnread}
use Rattle.unixvol.proofs.FileFaults.{stopped}
use Rattle.unixvol.proofs.threads.run_check.Goals as goal

pub returns-in_err-image : goal.returns-in_err-image
returns-in_err-image g c =
    inl (stopped (IsUnread g.R.File.Read.remaining) (g.O.Sink.contents c.args.output.now) (g.O.Sink.failed c.args.output.now) _ _ c.from_residual.ensures.1 c.in_err-image.ensures.fault)

pub returns : goal.returns
returns g c = inr (c.in_ok-image.image.items, c.in_ok-image.ensures.given, c.perform.ensures)
