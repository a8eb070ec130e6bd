use Rattle.std.proofs.Common.{inl, inr}
use Rattle.unixvol.specs.Runs.{IsUnread}
use Rattle.unixvol.proofs.FileFaults.{stopped}
use Rattle.unixvol.proofs.commands.run_repair.Goals as goal

-- the repaired copy is saved, and all that differs is printed
pub returns-in-Some : goal.returns-in-Some
returns-in-Some g c =
    let made = c.in-Ok in
    inr (
      c.in_ok-image.image.items,
      c.in_ok-image.ensures.given,
      inr (made.repaired.bytes.items, made.repaired.report.items, made.ensures.repaired, rw c.in-Some.is c.save_unless_kept.ensures),
    )

-- all that differs is printed
pub returns : goal.returns
returns g c =
    let made = c.in-Ok in
    inr (
      c.in_ok-image.image.items,
      c.in_ok-image.ensures.given,
      inr (made.repaired.bytes.items, made.repaired.report.items, made.ensures.repaired, rw c.in-None.is (rw c.deref.ensures.value at c.print_with.ensures)),
    )

-- the image isn't read
pub returns-in_err-image : goal.returns-in_err-image
returns-in_err-image g c = inl (stopped (IsUnread g.R.File.Read.remaining) (g.O.Sink.contents c.args.output.now) (g.O.Sink.failed c.args.output.now) _ _ c.from_residual.ensures.1 c.in_err-image.ensures.fault)
