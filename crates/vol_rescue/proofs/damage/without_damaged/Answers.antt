use Rattle.std.proofs.Common.{◌∙◌, sym}
use Rattle.vol_rescue.proofs.KeptEntries.{kept_marked}
use Rattle.vol_rescue.proofs.damage.without_damaged.Goals as goal

pub returns : goal.returns
returns c =
    c.in_ok-kept.ensures
    ∙ kept_marked c.args.geometry.now c.args.image.now c.args.lost.now c.args.damaged c.args.founds.items (sym c.if-is_empty.ensures)
