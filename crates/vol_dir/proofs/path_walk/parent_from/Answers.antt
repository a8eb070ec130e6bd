use Rattle.vol_dir.specs.Walk.{components}
use Rattle.vol_dir.proofs.ParentLaws.{parent-begins}
use Rattle.vol_dir.proofs.path_walk.parent_from.Goals as goal

pub loop-next-init : goal.loop-next-init
loop-next-init c =
    let geometry = c.args.geometry.now in
    let image = c.args.image.now in
    rw c.constants-dir.ensures
    (record {
      whole = parent-begins geometry image c.args.cred c.args.first.now (components c.args.rest.now);
      component = c.requires.component;
      nonzero = λ first rest. (first, rest);
    })
