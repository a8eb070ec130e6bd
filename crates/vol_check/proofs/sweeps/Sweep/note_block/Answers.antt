use Rattle.std.proofs.Common.{◌≡◌, ◌∙◌, ◌+◌, ◌*◌, ◌<◌, ◌≤◌, sym, ap, false, refl, arith}
use Rattle.count_table.proofs.Totals.{below_more, below_none}
use Rattle.vol_layout.specs.Geometry.{in_zone}
use Rattle.vol_layout.specs.BlockPointers.{form_at, stored}
use Rattle.vol_layout.specs.Slot.{slot_at}
use Rattle.vol_layout.proofs.NameLaws.{zero_out}
use Rattle.vol_dir.specs.Entries.{entry_in, entry_at, slot_count}
use Rattle.vol_dir.proofs.ReadSlots.{entry_in_block, number_named, number_missing}
use Rattle.vol_check.specs.Slots.{slot_weight, slot_kept}
use Rattle.vol_check.proofs.Noted.{notes_none, notes_then, notes_as, marked_over, kept_over, blank_weight, blank_kept, over_blank, over_block, block_hole}
use Rattle.vol_check.proofs.sweeps.Sweep.note_block.Goals as goal

pub loop-s-init : goal.loop-s-init
loop-s-init c =
    let checker = c.args.self.now.checker in
    let g = c.args.geometry.now in
    let image = c.args.image.now in
    notes_none c.args.self.now.tally c.args.seat.now (marked_over checker g image c.args.d (32 * c.args.b) 0) (kept_over checker g image c.args.d (32 * c.args.b) 0)
    c.requires.own
    (λ weight. below_none (λ t. slot_weight checker g weight c.args.d (32 * c.args.b + t) (entry_at g image c.args.d (32 * c.args.b + t))))
    (λ weight. below_none (λ t. slot_kept checker weight c.args.d (32 * c.args.b + t) (entry_at g image c.args.d (32 * c.args.b + t))))

pub loop-s-preserved : goal.loop-s-preserved
loop-s-preserved c =
    let checker = c.args.self.now.checker in
    let g = c.args.geometry.now in
    let image = c.args.image.now in
    let d = c.args.d in
    let b = c.args.b in
    let s = c.loop-s.s in
    let k = c.in-Some.k in
    let slot = c.read-slot.result in
    let at : stored g image d (form_at g image d) b ≡ k = number_named (stored g image d (form_at g image d) b) k (sym c.in-Some.ensures) in
    let few : s < 32 = omega (arith, c.loop-s-test.true, c.min-s-end.ensures) in
    let within : 32 * b + s < slot_count g image d = omega (arith, c.loop-s-test.true, c.min-s-end.ensures, c.saturating_sub-count.ensures, c.slot_count.ensures) in
    let read = c.read-slot.ensures ∙ ap (λ xs. slot_at xs (512 * k + 16 * s)) c.as_bytes.ensures in
    let entry : entry_at g image d (32 * b + s) ≡ entry_in slot =
    entry_in_block g image d b s k c.requires.fits few within at (sym c.in_zone.ensures ∙ c.if-in_zone.true) ∙ sym (ap entry_in read) in
    notes_then c.args.self.now.tally c.args.seat.now c.loop-s.seat c.note_slot.new.seat
    (marked_over checker g image d (32 * b) s) (λ weight. slot_weight checker g weight d (32 * b + s) (entry_in slot)) (marked_over checker g image d (32 * b) (s + 1))
    (kept_over checker g image d (32 * b) s) (λ weight. slot_kept checker weight d (32 * b + s) (entry_in slot)) (kept_over checker g image d (32 * b) (s + 1))
    c.loop-s.invariant c.in_ok-note_slot-in-Some.ensures.ok
    (λ weight. below_more (λ t. slot_weight checker g weight d (32 * b + t) (entry_at g image d (32 * b + t))) s
    ∙ ap (λ e. marked_over checker g image d (32 * b) s weight + slot_weight checker g weight d (32 * b + s) e) entry)
    (λ weight. below_more (λ t. slot_kept checker weight d (32 * b + t) (entry_at g image d (32 * b + t))) s
    ∙ ap (λ e. kept_over checker g image d (32 * b) s weight + slot_kept checker weight d (32 * b + s) e) entry)

pub returns-after-loop-s-clause-ok : goal.returns-after-loop-s-clause-ok
returns-after-loop-s-clause-ok c =
    let checker = c.args.self.now.checker in
    let g = c.args.geometry.now in
    let image = c.args.image.now in
    let d = c.args.d in
    let b = c.args.b in
    let s = c.loop-s.s in
    let few : s ≤ 32 = omega (arith, c.loop-s.auto.s-end, c.min-s-end.ensures) in
    let short : s < 32 → slot_count g image d ≤ 32 * b + s =
    λ lt. omega (arith, lt, c.loop-s-test.false, c.min-s-end.ensures, c.saturating_sub-count.ensures, c.slot_count.ensures) in
    notes_as c.args.self.now.tally c.args.seat.now c.loop-s.seat (marked_over checker g image d (32 * b) s) (marked_over checker g image d (32 * b) 32)
    (kept_over checker g image d (32 * b) s) (kept_over checker g image d (32 * b) 32) c.loop-s.invariant
    (λ weight. over_block g image d (slot_weight checker g weight) (blank_weight checker g weight d) b s few short)
    (λ weight. over_block g image d (slot_kept checker weight) (blank_kept checker weight d) b s few short)

pub returns-in_default-clause-ok : goal.returns-in_default-clause-ok
returns-in_default-clause-ok c =
    let checker = c.args.self.now.checker in
    let g = c.args.geometry.now in
    let image = c.args.image.now in
    let d = c.args.d in
    let b = c.args.b in
    let at = stored g image d (form_at g image d) b in
    let outside : in_zone g at ≡ false = ap (in_zone g) (number_named at c.in-Some.k (sym c.in-Some.ensures)) ∙ (sym c.in_zone.ensures ∙ c.if-in_zone.false) in
    notes_none c.args.self.now.tally c.args.seat.now (marked_over checker g image d (32 * b) 32) (kept_over checker g image d (32 * b) 32) c.requires.own
    (λ weight. over_blank g image d (slot_weight checker g weight) (blank_weight checker g weight d) (32 * b) 32 (λ s low high. block_hole g image d b at s refl outside low high))
    (λ weight. over_blank g image d (slot_kept checker weight) (blank_kept checker weight d) (32 * b) 32 (λ s low high. block_hole g image d b at s refl outside low high))

pub returns-in_default-2-clause-ok : goal.returns-in_default-2-clause-ok
returns-in_default-2-clause-ok c =
    let checker = c.args.self.now.checker in
    let g = c.args.geometry.now in
    let image = c.args.image.now in
    let d = c.args.d in
    let b = c.args.b in
    let at = stored g image d (form_at g image d) b in
    let outside : in_zone g at ≡ false = ap (in_zone g) (number_missing at (sym c.in_default.ensures)) ∙ zero_out g image c.requires.fits in
    notes_none c.args.self.now.tally c.args.seat.now (marked_over checker g image d (32 * b) 32) (kept_over checker g image d (32 * b) 32) c.requires.own
    (λ weight. over_blank g image d (slot_weight checker g weight) (blank_weight checker g weight d) (32 * b) 32 (λ s low high. block_hole g image d b at s refl outside low high))
    (λ weight. over_blank g image d (slot_kept checker weight) (blank_kept checker weight d) (32 * b) 32 (λ s low high. block_hole g image d b at s refl outside low high))
