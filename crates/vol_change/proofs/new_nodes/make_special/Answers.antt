use Rattle.std.proofs.Common.{◌∙◌, ◌∷◌, ◌/◌, ℕ, sym, ap, subst, replicate, Some}
use Rattle.vol_layout.specs.Inode.{IsStorable, device_number, special_inode}
use Rattle.vol_layout.specs.declared.mode.Kind.TheVariants as kinds
use Rattle.vol_layout.proofs.NewInodes.{special_storable}
use Rattle.vol_dir.specs.Tree.{Device, no_shape, state}
use Rattle.vol_change.specs.Edits.{new_node, put_node, put_shape}
use Rattle.vol_change.specs.Inodes.{MakesInode}
use Rattle.vol_change.proofs.MadeNodes.{device_makes, made_keeps, made_only, made_free, made_unused, made_graph}
use Rattle.vol_change.proofs.NewInodes.{makes_special, reads_new, unused_zero}
use Rattle.vol_change.proofs.new_nodes.make_special.Goals as goal

-- the change is `MakesInode`
makes : (c : goal.After-put_inode) → MakesInode c.args.geometry.now c.args.image.now c.put_inode.new.image c.args.i
    (special_inode c.args.geometry.now.edition c.special-mode.result c.args.device c.args.node.owner.uid c.args.node.owner.gid c.args.node.moment)
makes c =
    let node = c.args.node in
    makes_special c.args.geometry.now c.args.image.now c.clear_inode.new.image c.put_inode.new.image c.args.i c.requires.free
    c.clear_inode.ensures.others c.put_inode.ensures.others c.special-mode.result c.args.device
    node.owner.uid node.owner.gid node.moment c.special-mode.ensures.kind c.special-mode.ensures.small (c.put_inode.ensures.put ∙ c.special-inode.ensures)

pub put_inode-requires-clause-storable : goal.put_inode-requires-clause-storable
put_inode-requires-clause-storable c =
    let edition = c.args.geometry.now.edition in
    let node = c.args.node in
    subst (IsStorable edition) (sym c.special-inode.ensures)
    (special_storable edition c.special-mode.result c.args.device node.owner.uid node.owner.gid node.moment c.device_fits.ensures c.requires.user c.requires.group)

pub returns-clause-changed : goal.returns-clause-changed
returns-clause-changed c =
    let geometry = c.args.geometry.now in
    let node = c.args.node in
    let mode = c.special-mode.result in
    let old = c.args.image.now in
    let new = c.put_inode.new.image in
    let addresses = device_number c.args.device ∷ replicate 12 0 in
    record {
      keeps = made_keeps geometry old new c.args.i _ c.requires.rules (makes c);
      makes =
          device_makes geometry old new c.args.i _ c.requires.rules (makes c) c.special-mode.ensures.kind
          ∙ ap (λ n. put_shape c.args.i no_shape (put_node c.args.i (Some n) (state geometry old)))
          (reads_new geometry.edition mode 1 node.owner node.moment node.permissions (Device (mode.bits / 4096) addresses) c.special-mode.ensures.permissions
          ∙ ap (λ (type : ℕ). new_node geometry.edition node.owner node.moment node.permissions (Device type addresses) 1 0) c.special-mode.ensures.device);
      free = made_free geometry old new c.args.i _ c.requires.rules (makes c);
      content = λ j first last other. ((made_only geometry old new c.args.i _ c.requires.rules (makes c)).others j first last other).content;
    }

pub returns-clause-graph : goal.returns-clause-graph
returns-clause-graph c =
    made_graph c.args.geometry.now c.args.image.now c.put_inode.new.image c.args.i _ c.requires.rules (makes c) kinds.Special c.special-mode.ensures.kind

pub returns-clause-unused : goal.returns-clause-unused
returns-clause-unused c v7 =
    unused_zero c.args.geometry.now.edition c.clear_inode.new.image c.put_inode.new.image c.args.i v7 c.clear_inode.ensures.zero (c.put_inode.ensures.unused v7)

pub returns-clause-others : goal.returns-clause-others
returns-clause-others c = λ j first last other.
    made_unused c.args.geometry.now c.args.image.now c.put_inode.new.image c.args.i _ c.requires.rules (makes c) j first other
