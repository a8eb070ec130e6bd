use Rattle.std.proofs.Common.{◌≡◌, ◌<◌, ◌∙◌, ap, arith, ◌∷◌, replicate}
use Rattle.vol_layout.specs.Inode.{new_inode}
use Rattle.vol_layout.specs.declared.i_node.Inode.{Inode}
use Rattle.vol_mkfs.specs.Mkfs.{root_mode}
use Rattle.vol_mkfs.proofs.RootModes.{root_bits}
use Rattle.vol_mkfs.proofs.blank.first.root_inode.Goals as goal

pub returns : goal.returns
returns c =
    let edition = c.args.geometry.now.edition in
    let low : c.directory-mode.result.bits < 65536 = omega arith in
    let bits : c.directory-mode.result.bits ≡ root_mode edition =
    root_bits edition c.directory-mode.result.bits low c.directory-mode.ensures.kind c.directory-mode.ensures.permissions c.directory-mode.ensures.small in
    let root : Inode → Inode = λ node. record node { size = 32; addresses = c.args.geometry.now.zone_start ∷ replicate 12 0 } in
    ap root (c.new.ensures ∙ ap (λ b. new_inode edition (record { bits = b }) 2 c.args.uid c.args.gid c.args.now) bits)
