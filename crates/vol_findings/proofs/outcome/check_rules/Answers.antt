use Rattle.std.proofs.Common.{sym, subst}
use Rattle.vol_findings.specs.Outcomes.{Tells}
use Rattle.vol_findings.proofs.OutcomeLaws.{tells_short, tells_bounds, if_tells}
use Rattle.vol_findings.proofs.outcome.check_rules.Goals as goal

pub returns-in-Ok : goal.returns-in-Ok
returns-in-Ok c = if_tells c.args.edition c.args.image.now c.in-Ok.geometry c.check_volume.result (sym c.in-Ok.ensures.exact) c.check_volume.ensures

pub returns-in-Err-Short : goal.returns-in-Err-Short
returns-in-Err-Short c =
    subst (Tells c.args.edition c.args.image.now) (sym c.unread.ensures)
    (tells_short c.args.edition c.args.image.now (rw c.in-Err-Short.field-0-is at (sym c.in-Err-Short.ensures.exact)))

pub returns-in-Err-Bounds : goal.returns-in-Err-Bounds
returns-in-Err-Bounds c =
    subst (Tells c.args.edition c.args.image.now) (sym c.unread-in-Err-Bounds.ensures)
    (tells_bounds c.args.edition c.args.image.now (rw c.in-Err-Bounds.field-0-is at (sym c.in-Err-Bounds.ensures.exact)))
