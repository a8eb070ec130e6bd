use Rattle.std.proofs.Common.{◌≡◌, ◌∙◌, sym, ◌+◌, ◌*◌, ap, arith, None, false, refl}
use Rattle.vol_layout.specs.Geometry.{in_zone}
use Rattle.vol_layout.specs.BlockPointers.{form_at, stored}
use Rattle.vol_layout.specs.Slot.{slot_at}
use Rattle.vol_layout.proofs.NameLaws.{zero_out}
use Rattle.vol_dir.specs.Entries.{entry_in, entry_at}
use Rattle.vol_dir.proofs.ReadSlots.{entry_in_block, entry_in_hole, number_named, number_missing, searches_same}
use Rattle.vol_dir.proofs.entries.first_in_block.Goals as goal
use Rattle.vol_dir.proofs.entries.first_in_block.Goals.{in_default-via-in-Some+else-in_zone, in_default-via-in_default}

pub returns-in-Some : goal.returns-in-Some
returns-in-Some c =
    let geometry = c.args.geometry.now in
    let image = c.args.image.now in
    let at = stored geometry image c.args.dir (form_at geometry image c.args.dir) c.args.b in
    let is : at ≡ c.in-Some.k = number_named at c.in-Some.k (sym c.in-Some.ensures) in
    searches_same c.args.sought (λ t. entry_in (slot_at image (512 * c.in-Some.k + 16 * t))) (λ t. entry_at geometry image c.args.dir (32 * c.args.b + t))
    c.args.start c.args.count c.first_from.result
    (λ t h. entry_in_block geometry image c.args.dir c.args.b t c.in-Some.k c.requires.fits (omega (arith, h, c.requires.few)) (omega (arith, h, c.requires.within)) is (sym c.in_zone.ensures ∙ c.if-in_zone.true))
    c.first_from.ensures

pub returns-in_default : goal.returns-in_default
returns-in_default c =
    let geometry = c.args.geometry.now in
    let image = c.args.image.now in
    let at = stored geometry image c.args.dir (form_at geometry image c.args.dir) c.args.b in
    let outside : in_zone geometry at ≡ false = elim c.in_default.branch [
      | in_default-via-in-Some+else-in_zone w ↦ ap (in_zone geometry) (number_named at w.in-Some.k (sym w.in-Some.ensures)) ∙ (sym w.in_zone.ensures ∙ w.if-in_zone.false)
      | in_default-via-in_default w ↦ ap (in_zone geometry) (number_missing at (sym w.in_default.ensures)) ∙ zero_out geometry image c.requires.fits
    ] in
    searches_same c.args.sought (λ t. None) (λ t. entry_at geometry image c.args.dir (32 * c.args.b + t)) c.args.start c.args.count c.first_in_hole.result
    (λ t h. entry_in_hole geometry image c.args.dir c.args.b t at (omega (arith, h, c.requires.few)) (omega (arith, h, c.requires.within)) refl outside)
    c.first_in_hole.ensures
