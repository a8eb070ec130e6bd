use Rattle.std.proofs.Common.{◌-◌, ◌*◌, ◌≤◌, arith}
use Rattle.vol_check.specs.Slots.{slot_weight, slot_kept}
use Rattle.vol_check.proofs.Noted.{notes_none, notes_then, marked_over, kept_over, blank_weight, blank_kept, over_blank, over_next, entry_hole}
use Rattle.vol_check.proofs.sweeps.Sweep.note_blocks.Goals as goal

pub loop-b-init : goal.loop-b-init
loop-b-init c =
    let checker = c.args.self.now.checker in
    let g = c.args.geometry.now in
    let image = c.args.image.now in
    let d = c.args.d in
    let from = c.args.from in
    let b = c.next_block-b.result in
    let next = c.next_block-b.ensures in
    let low : from ≤ b = next.reached in
    record {
      low = low;
      high = next.within;
      notes = notes_none c.args.self.now.tally c.args.seat.now (marked_over checker g image d (32 * from) (32 * (b - from))) (kept_over checker g image d (32 * from) (32 * (b - from)))
          c.requires.own
          (λ weight. over_blank g image d (slot_weight checker g weight) (blank_weight checker g weight d) (32 * from) (32 * (b - from))
          (λ s at before. entry_hole g image d from b s c.requires.fits next.hole at (omega (arith, before, low))))
          (λ weight. over_blank g image d (slot_kept checker weight) (blank_kept checker weight d) (32 * from) (32 * (b - from))
          (λ s at before. entry_hole g image d from b s c.requires.fits next.hole at (omega (arith, before, low))));
    }

pub loop-b-preserved : goal.loop-b-preserved
loop-b-preserved c =
    let checker = c.args.self.now.checker in
    let g = c.args.geometry.now in
    let image = c.args.image.now in
    let d = c.args.d in
    let from = c.args.from in
    let b = c.loop-b.b in
    let inv = c.loop-b.invariant in
    let after = c.next_block-b-in-loop-b.result in
    let next = c.next_block-b-in-loop-b.ensures in
    record {
      low = omega (arith, inv.low, next.reached);
      high = next.within;
      notes = notes_then c.args.self.now.tally c.args.seat.now c.loop-b.seat c.note_block.new.seat
          (marked_over checker g image d (32 * from) (32 * (b - from))) (marked_over checker g image d (32 * b) 32) (marked_over checker g image d (32 * from) (32 * (after - from)))
          (kept_over checker g image d (32 * from) (32 * (b - from))) (kept_over checker g image d (32 * b) 32) (kept_over checker g image d (32 * from) (32 * (after - from)))
          inv.notes c.in_ok-note_block.ensures.ok
          (λ weight. over_next g image d (slot_weight checker g weight) (blank_weight checker g weight d) from b after c.requires.fits inv.low next.reached next.hole)
          (λ weight. over_next g image d (slot_kept checker weight) (blank_kept checker weight d) from b after c.requires.fits inv.low next.reached next.hole);
    }
