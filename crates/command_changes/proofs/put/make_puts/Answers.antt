use Rattle.std.proofs.lemmas.Result.{err_from_is_err_and}
use Rattle.vol_import.proofs.ImportFaults.{no_volume}
use Rattle.vol_dir.specs.Tree.{Tree}
use Rattle.command_changes.specs.Put.{calls_to_put}
use Rattle.command_changes.proofs.PutFiles.{all_put, no_calls, not_put}
use Rattle.command_changes.proofs.put.make_puts.Goals as goal

pub returns-in_err-volume-clause-fault : goal.returns-in_err-volume-clause-fault
returns-in_err-volume-clause-fault c =
    let p = err_from_is_err_and c.from_residual.result c.from_residual.ensures.1 in rw (p.1, p.2) (no_volume _ _ _ _ c.in_err-volume.ensures.fault)

pub returns-in-Err-clause-fault : goal.returns-in-Err-clause-fault
returns-in-Err-clause-fault c =
    no_calls _ _ (λ (tree : Tree). calls_to_put tree c.args.now c.args.directory.now c.args.owner c.args.files.items) _ _ _
    c.in_ok-volume.ensures.sound c.in_ok-volume.ensures.mounted c.in-Err.ensures.fault c.unplanned.ensures

pub returns-in_err-make-clause-fault : goal.returns-in_err-make-clause-fault
returns-in_err-make-clause-fault c =
    let p = err_from_is_err_and c.from_residual-in_err-make.result c.from_residual-in_err-make.ensures.1 in
    rw (p.1, p.2)
    (not_put _ _ (λ (tree : Tree). calls_to_put tree c.args.now c.args.directory.now c.args.owner c.args.files.items) _ _ _ _
    c.in_ok-volume.ensures.sound c.in_ok-volume.ensures.mounted c.in-Ok.ensures.ok c.in_err-make.ensures.fault)

pub returns-clause-made : goal.returns-clause-made
returns-clause-made c =
    all_put _ _ (λ (tree : Tree). calls_to_put tree c.args.now c.args.directory.now c.args.owner c.args.files.items) _ _ _
    c.in_ok-volume.ensures.sound c.in_ok-volume.ensures.mounted c.in-Ok.ensures.ok c.in_ok-make.ensures.made c.check.ensures
