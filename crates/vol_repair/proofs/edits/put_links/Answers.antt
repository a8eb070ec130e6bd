use Rattle.std.proofs.Common.{◌≡◌, ap, arith}
use Rattle.vol_layout.specs.Edition.{constants}
use Rattle.vol_layout.specs.declared.edition.Constants.{Constants}
use Rattle.vol_repair.proofs.Repairs.{storable_links}
use Rattle.vol_repair.proofs.edits.put_links.Goals as goal

pub put_inode-requires-clause-storable : goal.put_inode-requires-clause-storable
put_inode-requires-clause-storable c =
    let edition = c.args.geometry.now.edition in
    let limit : c.constants.result.link_limit ≡ (constants edition).link_limit = ap (λ (of : Constants). of.link_limit) c.constants.ensures in
    storable_links edition c.inode-node.result c.args.links c.inode-node.ensures.storable (omega (arith, limit))
