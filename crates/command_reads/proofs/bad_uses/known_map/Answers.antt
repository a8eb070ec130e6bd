use Rattle.std.proofs.Common.{subst, sym}
use Rattle.std.proofs.lemmas.Result.{err_from_is_err_and}
use Rattle.command_reads.specs.Map.{IsMapFault}
use Rattle.command_reads.proofs.bad_uses.known_map.Goals as goal

pub returns-in_ok-measured_map-in-Ok : goal.returns-in_ok-measured_map-in-Ok
returns-in_ok-measured_map-in-Ok c =
    let shown = c.in_ok-measured_map-in-Ok.ensures in
    ((c.in-Ok.geometry, sym c.in-Ok.ensures.exact, shown.text, shown.line), shown.status)

pub returns-in-Err : goal.returns-in-Err
returns-in-Err c =
    subst (IsMapFault c.args.edition c.args.image.now) (sym c.unmeasured.ensures) (IsMapFault.unsound c.in-Err.fault (sym c.in-Err.ensures.exact))

pub returns-in_err-measured_map-in-Ok : goal.returns-in_err-measured_map-in-Ok
returns-in_err-measured_map-in-Ok c =
    let p = err_from_is_err_and c.from_residual.result c.from_residual.ensures.1 in
    rw (p.1, p.2) IsMapFault.memory
