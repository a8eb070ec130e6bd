use Rattle.std.proofs.Common.{◌≡◌, ◌+◌, ◌-◌, ◌*◌, ◌/◌, ◌<◌, ◌≤◌, ◌∙◌, ap, sym, arith}
use Rattle.vol_layout.specs.BlockPointers.{form_at, stored}
use Rattle.vol_layout.specs.Slot.{slot_at}
use Rattle.vol_dir.specs.Entries.{slot_count}
use Rattle.vol_dir.proofs.ReadSlots.{number_named}
use Rattle.vol_judge.proofs.NotedEntries.{noted_at, noted_empty, next_here, holds_here, empty_here}
use Rattle.vol_judge.proofs.directories.entered.note_rest.Goals as goal
use Rattle.vol_judge.proofs.directories.entered.note_rest.Goals.{then-slot-ne0, else-slot-ne0}

pub overflow_add-b : goal.overflow_add-b
overflow_add-b c = omega (arith, c.requires.low)

pub loop-s-init : goal.loop-s-init
loop-s-init c = record { low = omega arith; notes = c.requires.notes }

pub overflow_sub-at : goal.overflow_sub-at
overflow_sub-at c = omega (arith, c.loop-s.invariant.low)

pub note-requires-clause-next : goal.note-requires-clause-next
note-requires-clause-next c =
    let g = c.args.geometry.now in
    let image = c.args.image.now in
    let d = c.args.from.directory in
    let b = c.args.from.slot / 32 in
    let s = c.loop-s.s in
    let k = c.in-Some.k in
    let slot = c.read-slot.result in
    let is = number_named (stored g image d (form_at g image d) b) k (sym c.in-Some.ensures) in
    let read : slot ≡ slot_at image (512 * k + 16 * (s - 32 * b)) = c.read-slot.ensures ∙ ap (λ xs. slot_at xs (512 * k + 16 * (s - 32 * b))) c.as_bytes.ensures in
    let within : s < slot_count g image d = omega (arith, c.loop-s-test.true, c.min-end.ensures, c.slot_count.ensures) in
    let low : 32 * b ≤ s = omega (arith, c.loop-s.invariant.low) in
    let high : s < 32 * b + 32 = omega (arith, c.loop-s-test.true, c.min-end.ensures) in
    next_here slot c.loop-s.invariant.notes c.requires.directory within
    (holds_here g image d b s k slot c.requires.fits low high within is
    (sym c.in_zone.ensures ∙ c.if-not-in_zone.false) read) c.if-slot-ne0.true

pub loop-s-preserved : goal.loop-s-preserved
loop-s-preserved c =
    let g = c.args.geometry.now in
    let image = c.args.image.now in
    let d = c.args.from.directory in
    let b = c.args.from.slot / 32 in
    let s = c.loop-s.s in
    let k = c.in-Some.k in
    let slot = c.read-slot.result in
    let is = number_named (stored g image d (form_at g image d) b) k (sym c.in-Some.ensures) in
    let read : slot ≡ slot_at image (512 * k + 16 * (s - 32 * b)) = c.read-slot.ensures ∙ ap (λ xs. slot_at xs (512 * k + 16 * (s - 32 * b))) c.as_bytes.ensures in
    let within : s < slot_count g image d = omega (arith, c.loop-s-test.true, c.min-end.ensures, c.slot_count.ensures) in
    let low : 32 * b ≤ s = omega (arith, c.loop-s.invariant.low) in
    let high : s < 32 * b + 32 = omega (arith, c.loop-s-test.true, c.min-end.ensures) in
    let holds = holds_here g image d b s k slot c.requires.fits low high within is
    (sym c.in_zone.ensures ∙ c.if-not-in_zone.false) read in
    record {
      low = let low = c.loop-s.invariant.low in omega (arith, low);
      notes = elim c.if-slot-ne0.branch [
        | then-slot-ne0 w ↦ rw w.found-is (noted_at w.note.ensures)
        | else-slot-ne0 w ↦ rw w.found-is (noted_empty c.loop-s.invariant.notes within (empty_here g image d s slot holds (omega (arith, w.if-slot-ne0.false))))
      ];
    }

pub returns-clause-order : goal.returns-clause-order
returns-clause-order c = c.loop-s.invariant.low

pub returns-clause-notes : goal.returns-clause-notes
returns-clause-notes c = c.loop-s.invariant.notes
