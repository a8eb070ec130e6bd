use Rattle.std.proofs.lemmas.Result.{err_from_is_err_and}
use Rattle.vol_batch.proofs.Removals.{no_volume, not_found, not_made, all_removed}
use Rattle.vol_batch.proofs.remove.remove_all.Goals as goal

pub returns-in_err-volume-clause-fault : goal.returns-in_err-volume-clause-fault
returns-in_err-volume-clause-fault c =
    let p = err_from_is_err_and c.from_residual.result c.from_residual.ensures.1 in
    rw (p.1, p.2) (no_volume _ _ _ _ _ c.in_err-volume.ensures.fault)

pub returns-in_err-calls-clause-fault : goal.returns-in_err-calls-clause-fault
returns-in_err-calls-clause-fault c =
    let p = err_from_is_err_and c.from_residual-in_err-calls.result c.from_residual-in_err-calls.ensures.1 in
    rw (p.1, p.2) (not_found _ _ _ _ _ _ c.in_ok-volume.ensures.sound c.in_ok-volume.ensures.mounted c.in_err-calls.ensures.fault)

pub returns-in_err-make-clause-fault : goal.returns-in_err-make-clause-fault
returns-in_err-make-clause-fault c =
    let p = err_from_is_err_and c.from_residual-in_err-make.result c.from_residual-in_err-make.ensures.1 in
    rw (p.1, p.2) (not_made _ _ _ _ _ _ _ _ c.in_ok-volume.ensures.sound c.in_ok-volume.ensures.mounted c.in_ok-calls.ensures.calls c.in_err-make.ensures.fault)

pub returns-clause-removed : goal.returns-clause-removed
returns-clause-removed c =
    all_removed _ _ _ _ _ _ _ c.in_ok-volume.ensures.sound c.in_ok-volume.ensures.mounted c.in_ok-calls.ensures.calls c.in_ok-make.ensures.made
    c.check.ensures
