use Rattle.std.proofs.Common.{◌≡◌, ◌+◌, ◌-◌, ◌*◌, ◌≤◌, All, sym, ap, subst, ◌∙◌, true, false, Some, refl, arith}
use Rattle.std.specs.List.{sum_by}
use Rattle.std.proofs.lemmas.List.Elements.{All-push}
use Rattle.std.proofs.lemmas.List.Sums.{sum_by_push}
use Rattle.vol_layout.specs.Geometry.{in_zone}
use Rattle.vol_layout.specs.BlockPointers.{form_at, stored, block_named}
use Rattle.vol_dir.proofs.ReadSlots.{number_named}
use Rattle.vol_check.specs.Levels.{IsNamed, by_times}
use Rattle.vol_check.specs.Slots.{block_sum}
use Rattle.vol_check.proofs.Noted.{over_blank, block_hole, entry_hole}
use Rattle.vol_check.proofs.EntryCounts.{for_slots, block_slots, one_block}
use Rattle.vol_check.proofs.entry_counts.push_next.Goals as goal

pub returns-clause-named : goal.returns-clause-named
returns-clause-named c =
    let g = c.args.geometry.now in
    let zone : in_zone g c.in-Some.number ≡ true = sym c.in_zone.ensures ∙ c.if-not-in_zone.false in
    subst (All (IsNamed g)) (sym c.in_ok-push.ensures.items)
    (All-push (IsNamed g) c.args.named.now.items (record { number = c.in-Some.number; times = 1 }) c.requires.named (zone, omega arith))

pub returns-clause-same : goal.returns-clause-same
returns-clause-same c = λ weight blank.
    let g = c.args.geometry.now in
    let image = c.args.image.now in
    let d = c.args.d in
    let b = c.args.b in
    let k = c.in-Some.number in
    let is = subst (λ j. block_named g image j b ≡ Some k) c.requires.numbers.inode (sym c.in-Some.ensures.number) in
    let at : stored g image d (form_at g image d) b ≡ k = number_named (stored g image d (form_at g image d) b) k is in
    let zone : in_zone g k ≡ true = sym c.in_zone.ensures ∙ c.if-not-in_zone.false in
    let f = by_times (block_sum image weight) in
    let push = ap (sum_by f) c.in_ok-push.ensures.items ∙ sum_by_push f c.args.named.now.items (record { number = k; times = 1 }) in
    let one : f (record { number = k; times = 1 }) ≡ block_sum image weight k = omega arith in
    let slots = block_slots g image d b k c.requires.fits (omega (arith, c.requires.order, c.requires.whole)) at zone weight in
    push ∙ ap (λ x. sum_by f c.args.named.now.items + x) (one ∙ (sym slots ∙ sym (one_block g image d b weight)))

pub returns-then-not-in_zone-clause-same : goal.returns-then-not-in_zone-clause-same
returns-then-not-in_zone-clause-same c = λ weight blank.
    let g = c.args.geometry.now in
    let image = c.args.image.now in
    let d = c.args.d in
    let b = c.args.b in
    let at = stored g image d (form_at g image d) b in
    let is = subst (λ j. block_named g image j b ≡ Some c.in-Some.number) c.requires.numbers.inode (sym c.in-Some.ensures.number) in
    let outside : in_zone g at ≡ false = ap (in_zone g) (number_named at c.in-Some.number is) ∙ (sym c.in_zone.ensures ∙ c.if-not-in_zone.true) in
    let none = over_blank g image d (for_slots weight) (λ s. blank) (32 * b) 32 (λ s low high. block_hole g image d b at s refl outside low high) in
    let one = one_block g image d b weight in
    omega arith

pub returns-in_default-clause-same : goal.returns-in_default-clause-same
returns-in_default-clause-same c = λ weight blank.
    let g = c.args.geometry.now in
    let image = c.args.image.now in
    let d = c.args.d in
    let b = c.args.b in
    let next = c.next_block.ensures in
    let end = c.next_block.result in
    let low : b ≤ end = next.reached in
    let none = over_blank g image d (for_slots weight) (λ s. blank) (32 * b) (32 * (end - b))
    (λ s at before. entry_hole g image d b end s c.requires.fits next.hole at (omega (arith, before, low))) in
    omega arith
