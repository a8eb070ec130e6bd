use Rattle.std.proofs.Common.{◌-◌, ◌*◌}
use Rattle.std.proofs.lemmas.Result.{IfOk-weaker, IfErr-weaker}
use Rattle.vol_check.specs.Slots.{slot_weight, slot_kept}
use Rattle.vol_check.specs.Notes.{Notes, Stays}
use Rattle.vol_check.proofs.Noted.{notes_then, notes_stay, marked_over, kept_over, blank_weight, blank_kept, over_two}
use Rattle.vol_check.proofs.sweeps.Sweep.note_range.Goals as goal

pub returns-clause-ok : goal.returns-clause-ok
returns-clause-ok c =
    let checker = c.args.self.now.checker in
    let g = c.args.geometry.now in
    let image = c.args.image.now in
    let d = c.args.d in
    let from = c.args.from in
    let end = c.args.end in
    let tally = c.args.self.now.tally in
    let rest = c.in_ok-rest.rest in
    let order = c.in_ok-rest.ensures.order in
    let a = c.args.seat.now in
    let b = c.count_whole.new.seat in
    let e = c.note_blocks.new.seat in
    IfOk-weaker c.note_blocks.result
    (λ x. Notes tally b e (marked_over checker g image d (32 * rest) (32 * (end - rest))) (kept_over checker g image d (32 * rest) (32 * (end - rest))))
    (λ x. Notes tally a e (marked_over checker g image d (32 * from) (32 * (end - from))) (kept_over checker g image d (32 * from) (32 * (end - from))))
    (λ x notes. notes_then tally a b e
    (marked_over checker g image d (32 * from) (32 * (rest - from))) (marked_over checker g image d (32 * rest) (32 * (end - rest))) (marked_over checker g image d (32 * from) (32 * (end - from)))
    (kept_over checker g image d (32 * from) (32 * (rest - from))) (kept_over checker g image d (32 * rest) (32 * (end - rest))) (kept_over checker g image d (32 * from) (32 * (end - from)))
    c.in_ok-rest.ensures.ok notes
    (λ weight. over_two g image d (slot_weight checker g weight) (blank_weight checker g weight d) from rest end order.0 order.1)
    (λ weight. over_two g image d (slot_kept checker weight) (blank_kept checker weight d) from rest end order.0 order.1))
    c.note_blocks.ensures.ok

pub returns-clause-err : goal.returns-clause-err
returns-clause-err c =
    let tally = c.args.self.now.tally in
    IfErr-weaker c.note_blocks.result (λ x. Stays tally c.count_whole.new.seat c.note_blocks.new.seat) (λ x. Stays tally c.args.seat.now c.note_blocks.new.seat)
    (λ x stays. notes_stay tally c.args.seat.now c.count_whole.new.seat c.note_blocks.new.seat _ _ c.in_ok-rest.ensures.ok stays)
    c.note_blocks.ensures.err
