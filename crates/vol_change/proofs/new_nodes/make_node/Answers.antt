use Rattle.std.proofs.Common.{◌∙◌, sym, subst, arith}
use Rattle.vol_layout.specs.Inode.{IsStorable}
use Rattle.vol_layout.proofs.NewInodes.{new_storable}
use Rattle.vol_layout.proofs.EditionLaws.{few_links}
use Rattle.vol_change.proofs.NewInodes.{makes_new, unused_zero}
use Rattle.vol_change.proofs.new_nodes.make_node.Goals as goal

pub put_inode-requires-clause-storable : goal.put_inode-requires-clause-storable
put_inode-requires-clause-storable c =
    let edition = c.args.geometry.now.edition in
    let node = c.args.node in
    subst (IsStorable edition) (sym c.new-inode.ensures)
    (new_storable edition c.args.mode c.args.links node.owner.uid node.owner.gid node.moment (omega (arith, c.requires.few, few_links edition)) c.requires.user c.requires.group)

pub returns-clause-makes : goal.returns-clause-makes
returns-clause-makes c =
    let node = c.args.node in
    makes_new c.args.geometry.now c.args.image.now c.clear_inode.new.image c.put_inode.new.image c.args.i c.requires.free
    c.clear_inode.ensures.others c.put_inode.ensures.others c.args.mode c.args.links
    node.owner.uid node.owner.gid node.moment c.requires.few c.requires.file c.requires.small (c.put_inode.ensures.put ∙ c.new-inode.ensures)

pub returns-clause-unused : goal.returns-clause-unused
returns-clause-unused c v7 =
    unused_zero c.args.geometry.now.edition c.clear_inode.new.image c.put_inode.new.image c.args.i v7 c.clear_inode.ensures.zero (c.put_inode.ensures.unused v7)
