use Rattle.std.proofs.Common.{inl, inr}
use Rattle.unixvol.specs.Runs.{IsUnread}
use Rattle.unixvol.proofs.FileFaults.{stopped}
use Rattle.unixvol.proofs.commands.run_salvage.Goals as goal

-- the salvaged volume is saved, and its report is printed
pub returns-in-Some : goal.returns-in-Some
returns-in-Some g c =
    let made = c.in-Ok in
    inr (
      c.in_ok-image.image.items,
      c.in_ok-image.ensures.given,
      inr (made.salvaged.bytes.items, made.salvaged.report.items, made.ensures.salvaged, rw c.in-Some.is c.save_copy.ensures),
    )

-- only its report is printed
pub returns : goal.returns
returns g c =
    let made = c.in-Ok in
    inr (
      c.in_ok-image.image.items,
      c.in_ok-image.ensures.given,
      inr (made.salvaged.bytes.items, made.salvaged.report.items, made.ensures.salvaged, rw c.in-None.is (rw c.deref.ensures.value at c.print_with.ensures)),
    )

-- the image isn't read
pub returns-in_err-image : goal.returns-in_err-image
returns-in_err-image g c = inl (stopped (IsUnread g.R.File.Read.remaining) (g.O.Sink.contents c.args.output.now) (g.O.Sink.failed c.args.output.now) _ _ c.from_residual.ensures.1 c.in_err-image.ensures.fault)
