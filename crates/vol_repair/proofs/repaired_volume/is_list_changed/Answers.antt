use Rattle.std.proofs.Common.{◌∙◌, ap, sym}
use Rattle.std.specs.List.{list_any}
use Rattle.vol_losses.specs.Losses.{is_lost}
use Rattle.vol_repair.proofs.Repairs.{list_same}
use Rattle.vol_repair.proofs.repaired_volume.is_list_changed.Goals as goal

pub returns : goal.returns
returns c = λ same.
    let changed = c.args.changed.now in
    list_same c.args.geometry.now changed c.args.old.now c.args.new.now c.in_ok-walk_free.field-0.met.items c.requires.agrees
    (λ r low. c.is_same_block.ensures c.if-not-is_same_block.false r low) c.in_ok-walk_free.ensures.met c.in_ok-walk_free.ensures.zoned
    (ap (list_any (is_lost changed)) (sym c.deref.ensures.value) ∙ (sym c.is_any_changed.ensures ∙ same))
