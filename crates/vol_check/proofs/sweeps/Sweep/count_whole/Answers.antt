use Rattle.std.proofs.Common.{◌∙◌, ◌-◌, ◌*◌, ◌+◌, ap, refl, arith}
use Rattle.vol_check.specs.declared.checker.Checker.{Checker}
use Rattle.vol_check.specs.declared.checker.Checker.TheVariants.{Entries}
use Rattle.vol_dir.specs.Entries.{entry_at}
use Rattle.vol_check.specs.Slots.{slot_weight, slot_kept}
use Rattle.vol_check.proofs.Sums.{below_zero, none_over}
use Rattle.vol_check.proofs.AddedMarks.{adds_as}
use Rattle.vol_check.proofs.Noted.{notes_none, notes_marks, marked_over, kept_over}
use Rattle.vol_check.proofs.sweeps.Sweep.count_whole.Goals as goal

pub returns-in_ok-count_blocks-in-Entries-clause-ok : goal.returns-in_ok-count_blocks-in-Entries-clause-ok
returns-in_ok-count_blocks-in-Entries-clause-ok c =
    let checker = c.args.self.now.checker in
    let g = c.args.geometry.now in
    let image = c.args.image.now in
    let d = c.args.d in
    let from = c.args.from in
    let n = 32 * (c.min-whole.result - from) in
    let tally = c.args.self.now.tally in
    let is = c.in-Entries.is in
    notes_marks tally c.args.seat.now _ (marked_over checker g image d (32 * from) n) (kept_over checker g image d (32 * from) n)
    (adds_as tally c.args.seat.now.seat c.count_blocks.new.seat (marked_over Entries g image d (32 * from) n) (marked_over checker g image d (32 * from) n)
    c.in_ok-count_blocks-in-Entries.ensures.ok
    (λ weight. ap (λ (k : Checker). marked_over k g image d (32 * from) n weight) is))
    refl refl refl refl
    (λ weight. ap (λ (k : Checker). kept_over k g image d (32 * from) n weight) is ∙ below_zero (λ t. 0) n (λ k lt. refl))

pub returns-in_default-clause-ok : goal.returns-in_default-clause-ok
returns-in_default-clause-ok c =
    let checker = c.args.self.now.checker in
    let g = c.args.geometry.now in
    let image = c.args.image.now in
    let d = c.args.d in
    let from = c.args.from in
    notes_none c.args.self.now.tally c.args.seat.now (marked_over checker g image d (32 * from) (32 * (from - from))) (kept_over checker g image d (32 * from) (32 * (from - from)))
    c.requires.own
    (λ weight. none_over (λ t. slot_weight checker g weight d (32 * from + t) (entry_at g image d (32 * from + t))) from)
    (λ weight. none_over (λ t. slot_kept checker weight d (32 * from + t) (entry_at g image d (32 * from + t))) from)

pub returns-in_default-2 : goal.returns-in_default-2
returns-in_default-2 c =
    let checker = c.args.self.now.checker in
    let g = c.args.geometry.now in
    let image = c.args.image.now in
    let d = c.args.d in
    let from = c.args.from in
    record {
      order = (omega arith, c.requires.order);
      ok = notes_none c.args.self.now.tally c.args.seat.now (marked_over checker g image d (32 * from) (32 * (from - from))) (kept_over checker g image d (32 * from) (32 * (from - from)))
          c.requires.own
          (λ weight. none_over (λ t. slot_weight checker g weight d (32 * from + t) (entry_at g image d (32 * from + t))) from)
          (λ weight. none_over (λ t. slot_kept checker weight d (32 * from + t) (entry_at g image d (32 * from + t))) from);
      err = tt;
    }
