use Rattle.std.proofs.Common.{inl}
use Rattle.std.proofs.lemmas.Result.{err_from_is_err_and}
use Rattle.command_changes.proofs.sync.plan_syncs.Goals as goal

pub returns-in_err-begun-clause-fault : goal.returns-in_err-begun-clause-fault
returns-in_err-begun-clause-fault c =
    let p = err_from_is_err_and c.from_residual.result c.from_residual.ensures.1 in rw (p.1) (inl p.2)
