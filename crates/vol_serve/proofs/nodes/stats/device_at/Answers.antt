use Rattle.std.proofs.Common.{◌∙◌, ◌/◌, ◌%◌, sym, ap, Some}
use Rattle.vol_serve.proofs.HeldNodes.{special_is}
use Rattle.vol_serve.proofs.nodes.stats.device_at.Goals as goal

pub returns : goal.returns
returns c =
    let number = c.device_number-number.result in
    special_is c.args.geometry.now c.args.image.now c.args.i number c.inode-node.result c.requires.node c.inode-node.ensures.value c.device_number-number.ensures
    ∙ ap (λ b. Some (record { is_block = b; major = number / 256; minor = number % 256 })) (sym c.is_block.ensures)
