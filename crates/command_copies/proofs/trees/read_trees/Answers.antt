use Rattle.std.proofs.Common.{arith}
use Rattle.std.proofs.lemmas.Result.{err_from_is_err_and}
use Rattle.command_copies.proofs.ReadTrees.{first_unread, none_read, one_more}
use Rattle.command_copies.proofs.trees.read_trees.Goals as goal

pub paths-init : goal.paths-init
paths-init c = none_read c.args.geometry.now c.args.image.now c.new.result.items c.new-2.result.items c.new.ensures.items c.new-2.ensures.items

pub paths-preserved : goal.paths-preserved
paths-preserved c =
    let t = c.in_ok-push_path.ensures.read in
    one_more c.args.geometry.now c.args.image.now c.args.paths.now c.paths.path-index _ _ _ t.0 _ _ t.1 (omega arith) c.paths.invariant t.2 t.3 t.4

pub returns-in_err-push_path-clause-fault : goal.returns-in_err-push_path-clause-fault
returns-in_err-push_path-clause-fault c =
    let p = err_from_is_err_and c.from_residual.result c.from_residual.ensures.1 in
    rw (p.1, p.2) (first_unread _ _ _ c.paths.path-index _ _ _ _ (omega arith) c.paths.invariant c.in_err-push_path.ensures.fault)
