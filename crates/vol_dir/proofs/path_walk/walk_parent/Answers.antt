use Rattle.vol_dir.specs.Tree.{tree}
use Rattle.vol_dir.proofs.ParentLaws.{walk_parent-over}
use Rattle.vol_dir.proofs.path_walk.walk_parent.Goals as goal

pub returns-in_err-first-clause-exact : goal.returns-in_err-first-clause-exact
returns-in_err-first-clause-exact c =
    let walked = walk_parent-over (tree c.args.geometry.now c.args.image.now) c.args.cred c.args.path.now _ c.in_err-first.ensures.parts in
    rw c.from_residual.ensures walked

pub returns-clause-exact : goal.returns-clause-exact
returns-clause-exact c =
    let walked = walk_parent-over (tree c.args.geometry.now c.args.image.now) c.args.cred c.args.path.now _ c.in_ok-first.ensures.parts in
    rw walked c.parent_from.ensures.exact
