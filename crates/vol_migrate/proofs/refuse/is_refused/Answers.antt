-- The answer follows from the i-node's kind, type and addresses.
use Rattle.std.proofs.Common.{◌∙◌, sym, ap, ◌/◌, not}
use Rattle.vol_layout.specs.Inode.{inode_of, inode_place}
use Rattle.vol_layout.specs.BlockPointers.{mode_of}
use Rattle.vol_layout.specs.declared.i_node.Inode.{Inode}
use Rattle.vol_layout.proofs.InodeLaws.{inode_mode}
use Rattle.vol_migrate.specs.Refuse.{keeps}
use Rattle.vol_migrate.proofs.Refused.{refused_here, refuses}
use Rattle.vol_migrate.proofs.refuse.is_refused.Goals as goal

pub returns-in-Special : goal.returns-in-Special
returns-in-Special c =
    let geometry = c.args.geometry.now in
    let image = c.args.image.now in
    let i = c.args.i in
    let mode = inode_mode geometry.edition image (inode_place geometry.edition i) in
    ap not (c.keep.ensures
    ∙ (ap (λ (node : Inode). keeps c.args.devices (node.mode.bits / 4096) node.addresses) c.inode.ensures.value
    ∙ ap (λ bits. keeps c.args.devices (bits / 4096) (inode_of geometry.edition image i).addresses) mode))
    ∙ (ap (refuses c.args.devices (mode_of geometry image i / 4096) (inode_of geometry.edition image i).addresses) c.in-Special.ensures
    ∙ sym (refused_here c.args.devices geometry image i c.requires.first c.requires.last))

pub returns-in-Free : goal.returns-in-Free
returns-in-Free c =
    ap (refuses c.args.devices (mode_of c.args.geometry.now c.args.image.now c.args.i / 4096)
    (inode_of c.args.geometry.now.edition c.args.image.now c.args.i).addresses) c.in-Free.ensures
    ∙ sym (refused_here c.args.devices c.args.geometry.now c.args.image.now c.args.i c.requires.first c.requires.last)

pub returns-in-Regular : goal.returns-in-Regular
returns-in-Regular c =
    ap (refuses c.args.devices (mode_of c.args.geometry.now c.args.image.now c.args.i / 4096)
    (inode_of c.args.geometry.now.edition c.args.image.now c.args.i).addresses) c.in-Regular.ensures
    ∙ sym (refused_here c.args.devices c.args.geometry.now c.args.image.now c.args.i c.requires.first c.requires.last)

pub returns-in-Directory : goal.returns-in-Directory
returns-in-Directory c =
    ap (refuses c.args.devices (mode_of c.args.geometry.now c.args.image.now c.args.i / 4096)
    (inode_of c.args.geometry.now.edition c.args.image.now c.args.i).addresses) c.in-Directory.ensures
    ∙ sym (refused_here c.args.devices c.args.geometry.now c.args.image.now c.args.i c.requires.first c.requires.last)

pub returns-in-Odd : goal.returns-in-Odd
returns-in-Odd c =
    ap (refuses c.args.devices (mode_of c.args.geometry.now c.args.image.now c.args.i / 4096)
    (inode_of c.args.geometry.now.edition c.args.image.now c.args.i).addresses) c.in-Odd.ensures
    ∙ sym (refused_here c.args.devices c.args.geometry.now c.args.image.now c.args.i c.requires.first c.requires.last)
