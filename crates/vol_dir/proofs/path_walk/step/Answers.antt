use Rattle.vol_dir.proofs.WalkLaws.{IfOk-found}
use Rattle.vol_dir.proofs.path_walk.step.Goals as goal

pub returns-clause-used : goal.returns-clause-used
returns-clause-used c entries =
    IfOk-found c.args.geometry.now c.args.image.now c.args.i c.args.name.now c.find.result c.ok_or.result entries
    c.in_ok-search.ensures.directory c.find.ensures c.ok_or.ensures.value
