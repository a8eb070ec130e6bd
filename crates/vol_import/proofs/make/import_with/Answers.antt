use Rattle.std.proofs.lemmas.Result.{err_from_is_err_and}
use Rattle.vol_import.proofs.ImportFaults.{no_volume, no_calls, not_made, all_made}
use Rattle.vol_import.proofs.MadeMembers.{chosen_had}
use Rattle.vol_import.proofs.make.import_with.Goals as goal

pub returns-in_err-volume-clause-fault : goal.returns-in_err-volume-clause-fault
returns-in_err-volume-clause-fault c =
    let p = err_from_is_err_and c.from_residual.result c.from_residual.ensures.1 in
    rw (p.1, p.2) (no_volume _ _ _ _ c.in_err-volume.ensures.fault)

pub returns-in_err-planned-clause-fault : goal.returns-in_err-planned-clause-fault
returns-in_err-planned-clause-fault c =
    let p = err_from_is_err_and c.from_residual-in_err-planned.result c.from_residual-in_err-planned.ensures.1 in
    rw (p.1, p.2) (no_calls _ _ _ _ _ _ _ _ c.in_ok-volume.ensures.sound c.in_ok-volume.ensures.mounted c.in_err-planned.ensures.fault)

pub returns-in_err-make-clause-fault : goal.returns-in_err-make-clause-fault
returns-in_err-make-clause-fault c =
    let p = err_from_is_err_and c.from_residual-in_err-make.result c.from_residual-in_err-make.ensures.1 in
    rw (p.1, p.2)
    (not_made _ _ _ _ _ _ _ _ _ _ c.in_ok-volume.ensures.sound c.in_ok-volume.ensures.mounted c.in_ok-planned.ensures.ok c.in_err-make.ensures.fault)

pub returns-clause-made : goal.returns-clause-made
returns-clause-made c =
    all_made _ _ _ _ _ _ _ _ _ _ c.in_ok-volume.ensures.sound c.in_ok-volume.ensures.mounted c.in_ok-planned.ensures.ok c.in_ok-make.ensures.made
    c.unmount.ensures.consistent c.unmount.ensures.bytes

pub returns-clause-members : goal.returns-clause-members
returns-clause-members c = chosen_had _ _ _ _ _ _ _ (returns-clause-made c)
