use Rattle.std.proofs.Common.{◌≡◌, ◌+◌, ◌*◌, ◌∙◌, sym, ap, true, false, refl, arith}
use Rattle.vol_layout.specs.Geometry.{in_zone}
use Rattle.vol_layout.specs.BlockPointers.{form_at, stored}
use Rattle.vol_layout.specs.Slot.{slot_at}
use Rattle.vol_layout.proofs.NameLaws.{zero_out}
use Rattle.vol_dir.specs.Entries.{entry_in, entry_at}
use Rattle.vol_dir.proofs.ReadSlots.{entry_in_block, number_named, number_missing}
use Rattle.vol_check.specs.LineCounts.{named_one}
use Rattle.vol_check.proofs.Sums.{below_same}
use Rattle.vol_check.proofs.Noted.{over_blank, block_hole}
use Rattle.vol_check.proofs.EntryCounts.{for_slots}
use Rattle.vol_check.proofs.memory_check.count_front.Goals as goal

pub returns-in-Some : goal.returns-in-Some
returns-in-Some c =
    let g = c.args.geometry.now in
    let image = c.args.image.now in
    let d = c.args.d in
    let b = c.args.b in
    let k = c.in-Some.k in
    let at : stored g image d (form_at g image d) b ≡ k = number_named (stored g image d (form_at g image d) b) k (sym c.in-Some.ensures) in
    let zone : in_zone g k ≡ true = sym c.in_zone.ensures ∙ c.if-in_zone.true in
    c.count_slots.ensures
    ∙ sym (below_same (λ t. named_one (entry_at g image d (32 * b + t))) (λ t. named_one (entry_in (slot_at image (512 * k + 16 * t)))) c.args.slots
    (λ t lt. ap named_one (entry_in_block g image d b t k c.requires.fits (omega (arith, lt, c.requires.few)) (omega (arith, lt, c.requires.within)) at zone)))

pub returns-in_default : goal.returns-in_default
returns-in_default c =
    let g = c.args.geometry.now in
    let image = c.args.image.now in
    let d = c.args.d in
    let b = c.args.b in
    let at = stored g image d (form_at g image d) b in
    let outside : in_zone g at ≡ false = ap (in_zone g) (number_named at c.in-Some.k (sym c.in-Some.ensures)) ∙ (sym c.in_zone.ensures ∙ c.if-in_zone.false) in
    sym (over_blank g image d (for_slots named_one) (λ s. refl) (32 * b) c.args.slots
    (λ s low high. block_hole g image d b at s refl outside low (omega (arith, high, c.requires.few))))

pub returns-in_default-2 : goal.returns-in_default-2
returns-in_default-2 c =
    let g = c.args.geometry.now in
    let image = c.args.image.now in
    let d = c.args.d in
    let b = c.args.b in
    let at = stored g image d (form_at g image d) b in
    let outside : in_zone g at ≡ false = ap (in_zone g) (number_missing at (sym c.in_default.ensures)) ∙ zero_out g image c.requires.fits in
    sym (over_blank g image d (for_slots named_one) (λ s. refl) (32 * b) c.args.slots
    (λ s low high. block_hole g image d b at s refl outside low (omega (arith, high, c.requires.few))))
