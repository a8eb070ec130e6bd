use Rattle.std.proofs.Common.{◌≡◌, ◌∙◌, ◌-◌, ◌*◌, ◌≤◌, All, ap, sym, subst, arith}
use Rattle.std.specs.List.{sum_by}
use Rattle.std.proofs.lemmas.List.Elements.{All-nil}
use Rattle.vol_check.specs.Levels.{IsNamed, by_times}
use Rattle.vol_check.specs.Slots.{block_sum}
use Rattle.vol_check.proofs.Noted.{over_blank, over_two, entry_hole}
use Rattle.vol_check.proofs.EntryCounts.{slots_over, for_slots}
use Rattle.vol_check.proofs.entry_counts.stored_blocks.Goals as goal

pub loop-b-init : goal.loop-b-init
loop-b-init c =
    let g = c.args.geometry.now in
    let image = c.args.image.now in
    let d = c.args.d in
    let from = c.args.from in
    let b = c.next_block-b.result in
    let next = c.next_block-b.ensures in
    let low : from ≤ b = next.reached in
    record {
      numbers = c.of-numbers.ensures;
      low = low;
      high = next.within;
      named = subst (All (IsNamed g)) (sym c.in_ok-named.ensures.items) (All-nil (IsNamed g));
      same = λ weight blank.
          let none = ap (sum_by (by_times (block_sum image weight))) c.in_ok-named.ensures.items in
          let hole = over_blank g image d (for_slots weight) (λ s. blank) (32 * from) (32 * (b - from))
          (λ s at before. entry_hole g image d from b s c.requires.fits next.hole at (omega (arith, before, low))) in
          omega arith;
    }

pub loop-b-preserved : goal.loop-b-preserved
loop-b-preserved c =
    let g = c.args.geometry.now in
    let image = c.args.image.now in
    let inv = c.loop-b.invariant in
    let order = c.in_ok-b.ensures.order in
    record {
      numbers = c.in_ok-b.ensures.numbers;
      low = omega (arith, inv.low, order.0);
      high = order.1;
      named = c.in_ok-b.ensures.named;
      same = λ weight blank.
          let before = inv.same weight blank in
          let now = c.in_ok-b.ensures.same weight blank in
          let more = over_two g image c.args.d (for_slots weight) (λ s. blank) c.args.from c.loop-b.b c.in_ok-b.b
          inv.low (omega (arith, order.0)) in
          omega arith;
    }

pub returns-clause-same : goal.returns-clause-same
returns-clause-same c = λ weight blank.
    let g = c.args.geometry.now in
    let image = c.args.image.now in
    let end : c.loop-b.b ≡ c.args.end = omega (arith, c.loop-b-test.false, c.loop-b.invariant.high) in
    c.loop-b.invariant.same weight blank ∙ ap (λ b. slots_over g image c.args.d (32 * c.args.from) (32 * (b - c.args.from)) weight) end
