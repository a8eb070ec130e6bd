use Rattle.std.proofs.Common.{◌≡◌, ◌∙◌, ◌+◌, ◌-◌, ◌*◌, ◌<◌, ◌≤◌, sym, arith}
use Rattle.std.proofs.lemmas.Result.{IfOk-weaker}
use Rattle.vol_file.specs.Rules.{size_of}
use Rattle.vol_dir.specs.Entries.{slot_count}
use Rattle.vol_judge.proofs.CollectedNames.{count_low}
use Rattle.vol_check.specs.Slots.{slot_weight, slot_kept, part_sum}
use Rattle.vol_check.specs.Notes.{Notes}
use Rattle.vol_check.proofs.PartCounts.{directory_parts, few_parts}
use Rattle.vol_check.proofs.Noted.{notes_none, notes_as, marked_over, kept_over, blank_weight, blank_kept, part_none, part_over}
use Rattle.vol_check.proofs.sweeps.Sweep.note_part.Goals as goal

pub overflow_mul-from : goal.overflow_mul-from
overflow_mul-from c = let few = few_parts c.args.geometry.now c.args.image.now c.args.part.inode in omega (arith, few, c.requires.within)

pub overflow_add-from : goal.overflow_add-from
overflow_add-from c = let few = few_parts c.args.geometry.now c.args.image.now c.args.part.inode in omega (arith, few, c.requires.within)

pub note_range-requires-clause-order : goal.note_range-requires-clause-order
note_range-requires-clause-order c =
    let parts = directory_parts c.args.geometry.now c.args.image.now c.args.part.inode (sym c.in-Directory.ensures) in
    omega (arith, parts, c.requires.within, c.slot_count.ensures, c.div_ceil-blocks.ensures, c.min-end.ensures)

pub note_range-requires-clause-few : goal.note_range-requires-clause-few
note_range-requires-clause-few c =
    let most = count_low c.args.geometry.now.edition (size_of c.args.geometry.now c.args.image.now c.args.part.inode) in
    omega (arith, most, c.slot_count.ensures, c.div_ceil-blocks.ensures, c.min-end.ensures)

pub returns-in-Directory-clause-ok : goal.returns-in-Directory-clause-ok
returns-in-Directory-clause-ok c =
    let checker = c.args.self.now.checker in
    let g = c.args.geometry.now in
    let image = c.args.image.now in
    let d = c.args.part.inode in
    let k = c.args.part.index in
    let from = 64 * k in
    let end = c.min-end.result in
    let tally = c.args.self.now.tally in
    let at : 2048 * k ≡ 32 * from = omega arith in
    let few : 32 * (end - from) ≤ 2048 = omega (arith, c.min-end.ensures) in
    let parts = directory_parts g image d (sym c.in-Directory.ensures) in
    let short : 32 * (end - from) < 2048 → slot_count g image d ≤ 32 * from + 32 * (end - from) =
    λ lt. omega (arith, lt, parts, c.requires.within, c.slot_count.ensures, c.div_ceil-blocks.ensures, c.min-end.ensures) in
    IfOk-weaker c.note_range.result
    (λ x. Notes tally c.args.seat.now c.note_range.new.seat (marked_over checker g image d (32 * from) (32 * (end - from))) (kept_over checker g image d (32 * from) (32 * (end - from))))
    (λ x. Notes tally c.args.seat.now c.note_range.new.seat (λ weight. part_sum g image (slot_weight checker g weight) d k) (λ weight. part_sum g image (slot_kept checker weight) d k))
    (λ x notes. notes_as tally c.args.seat.now c.note_range.new.seat
    (marked_over checker g image d (32 * from) (32 * (end - from))) (λ weight. part_sum g image (slot_weight checker g weight) d k)
    (kept_over checker g image d (32 * from) (32 * (end - from))) (λ weight. part_sum g image (slot_kept checker weight) d k) notes
    (λ weight. part_over g image (slot_weight checker g weight) d k from (32 * (end - from)) (blank_weight checker g weight d) (sym c.in-Directory.ensures) at few short)
    (λ weight. part_over g image (slot_kept checker weight) d k from (32 * (end - from)) (blank_kept checker weight d) (sym c.in-Directory.ensures) at few short))
    c.note_range.ensures.ok

pub returns-in_default : goal.returns-in_default
returns-in_default c =
    let checker = c.args.self.now.checker in
    let g = c.args.geometry.now in
    let image = c.args.image.now in
    let d = c.args.part.inode in
    let k = c.args.part.index in
    record {
      ok = notes_none c.args.self.now.tally c.args.seat.now (λ weight. part_sum g image (slot_weight checker g weight) d k) (λ weight. part_sum g image (slot_kept checker weight) d k)
          c.requires.own
          (λ weight. part_none g image (slot_weight checker g weight) d k (λ e. c.in_default.not-Directory (c.kind.ensures ∙ e)))
          (λ weight. part_none g image (slot_kept checker weight) d k (λ e. c.in_default.not-Directory (c.kind.ensures ∙ e)));
      err = tt;
    }
