use Rattle.std.proofs.Common.{inr, subst, sym}
use Rattle.command_reads.specs.Map.{IsMapFault}
use Rattle.command_reads.proofs.Printed.{told_only}
use Rattle.command_reads.proofs.bad_uses.show_known.Goals as goal

pub returns-in-Err : goal.returns-in-Err
returns-in-Err g c =
    inr (
      _,
      subst (IsMapFault c.args.edition c.args.image.now) (sym c.unmeasured.ensures) (IsMapFault.unsound c.in-Err.fault (sym c.in-Err.ensures.exact)),
      told_only c.from.ensures,
    )
