use Rattle.std.proofs.lemmas.Result.{err_from_is_err_and}
use Rattle.vol_dir.specs.Tree.{tree}
use Rattle.vol_volume.proofs.AnsweredQueries.{stat_refused, stat_replied}
use Rattle.vol_volume.proofs.answer.answer_stat.Goals as goal

pub returns-in_err-i : goal.returns-in_err-i
returns-in_err-i c =
    let p = err_from_is_err_and c.from_residual.result c.from_residual.ensures.1 in
    rw (p.1, p.2) (stat_refused (tree c.args.geometry.now c.args.image.now) c.args.cred c.args.path.now c.in_err-i.field-0.0 c.in_err-i.ensures.found)

pub returns : goal.returns
returns c =
    stat_replied (tree c.args.geometry.now c.args.image.now) c.args.cred c.args.path.now c.in_ok-i.i c.stat.result c.in_ok-i.ensures.found c.stat.ensures
