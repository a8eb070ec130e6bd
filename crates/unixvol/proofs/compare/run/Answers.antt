use Rattle.std.proofs.Common.{inl, inr}
use Rattle.unixvol.specs.Runs.{IsUnread}
use Rattle.unixvol.proofs.FileFaults.{stopped}
use Rattle.unixvol.proofs.compare.run.Goals as goal

pub returns-in_err-old : goal.returns-in_err-old
returns-in_err-old g c =
    inl (stopped (IsUnread g.R.File.Read.remaining) (g.O.Sink.contents c.args.output.now) (g.O.Sink.failed c.args.output.now) _ _ c.from_residual.ensures.1 c.in_err-old.ensures.fault)

pub returns-in_err-new : goal.returns-in_err-new
returns-in_err-new g c =
    inl (stopped (IsUnread g.R.File.Read.remaining) (g.O.Sink.contents c.args.output.now) (g.O.Sink.failed c.args.output.now) _ _ c.from_residual-in_err-new.ensures.1 c.in_err-new.ensures.fault)

pub returns : goal.returns
returns g c =
    inr (
      c.in_ok-old.old,
      c.in_ok-new.new,
      c.in_ok-old.ensures.given,
      c.in_ok-new.ensures.given,
      c.in_ok-old.ensures.name,
      c.in_ok-new.ensures.name,
      c.show_comparison.ensures,
    )
