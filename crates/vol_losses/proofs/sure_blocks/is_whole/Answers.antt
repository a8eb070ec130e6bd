use Rattle.std.proofs.Common.{◌≡◌, ◌∙◌, sym, ap, not, ◌&&◌, false}
use Rattle.std.specs.Int.{div_ceil}
use Rattle.vol_losses.specs.Losses.{are_sure, body_blocks, is_lost, node_block}
use Rattle.vol_losses.proofs.SureFlags.{sure_flag}
use Rattle.vol_losses.proofs.sure_blocks.is_whole.Goals as goal

pub returns-clause-flag : goal.returns-clause-flag
returns-clause-flag c =
    let geometry = c.args.geometry.now in
    let image = c.args.image.now in
    let lost = c.args.lost.now in
    let i = c.args.i in
    let here : is_lost lost (node_block geometry.edition i) ≡ false = sym c.is_node_lost.ensures ∙ c.if-is_node_lost.false in
    let end : c.div_ceil-end.result ≡ body_blocks geometry image i = c.div_ceil-end.ensures ∙ ap (λ n. div_ceil n 512) c.body_size.ensures in
    sure_flag geometry image lost i c.div_ceil-end.result c.next_block.result c.next_block.ensures
    ∙ (ap (are_sure geometry image lost i) end
    ∙ sym (ap (λ t. not t && are_sure geometry image lost i (body_blocks geometry image i)) here))
