use Rattle.vol_dir.proofs.WalkLaws.{IsInUse-root, walk-begins}
use Rattle.vol_dir.proofs.path_walk.walk.Goals as goal

pub loop-name-init : goal.loop-name-init
loop-name-init c =
    let geometry = c.args.geometry.now in
    let image = c.args.image.now in
    rw c.constants-i.ensures
    (record { whole = walk-begins geometry image c.args.cred c.args.path.now; used = λ sound entries. IsInUse-root geometry image sound })
