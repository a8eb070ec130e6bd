use Rattle.std.proofs.lemmas.Result.{err_from_is_err_and}
use Rattle.vol_dir.specs.Tree.{tree}
use Rattle.vol_dir.specs.Walk.{walk}
use Rattle.vol_volume.specs.Verdict.{of_node}
use Rattle.vol_volume.proofs.AnsweredQueries.{first_refused, walked}
use Rattle.vol_volume.proofs.checked_calls.asked.find_node.Goals as goal

pub returns-in_err-first_tests-clause-found : goal.returns-in_err-first_tests-clause-found
returns-in_err-first_tests-clause-found c =
    let p = err_from_is_err_and c.from_residual.result c.from_residual.ensures.1 in
    rw (p.1, p.2)
    (λ others. first_refused c.args.geometry.now c.args.image.now c.args.cred c.args.path.now c.in_err-first_tests.field-0.0 c.in_err-first_tests.ensures
    (of_node (walk (tree c.args.geometry.now c.args.image.now) c.args.cred c.args.path.now) others))

pub returns-clause-found : goal.returns-clause-found
returns-clause-found c =
    walked c.args.geometry.now c.args.image.now c.args.cred c.args.path.now c.walk.result c.in_ok-first_tests.ensures c.walk.ensures.exact
