use Rattle.vol_volume.proofs.QueriedNodes.{stat_is}
use Rattle.vol_volume.proofs.answer.stat.Goals as goal

pub returns : goal.returns
returns c =
    stat_is c.args.geometry.now c.args.image.now c.args.i c.permissions.result c.kind.result c.inode-node.result c.requires.stands.files c.requires.used
    c.kind.ensures c.inode-node.ensures.value c.permissions.ensures
