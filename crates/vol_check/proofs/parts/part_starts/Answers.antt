use Rattle.std.proofs.Common.{◌≡◌, ◌+◌, ◌-◌, ◌≤◌, ◌∙◌, sym, ap, slice_index, set, inl, inr, arith, rules, get_or-set_same, get_or-set_other}
use Rattle.std.proofs.lemmas.Bool.{cases_lt}
use Rattle.count_table.proofs.Totals.{below_more, below_none}
use Rattle.vol_check.specs.Parts.{part_count, parts_before}
use Rattle.vol_check.proofs.parts.part_starts.Goals as goal

pub loop-i-init : goal.loop-i-init
loop-i-init c =
    let none = below_none (λ k. part_count c.args.geometry.now c.args.image.now (k + 1)) in record {
      wide = search rules;
      sum = sym none;
      few = omega arith;
      done = λ n lt.
          let first : n ≡ 0 = omega arith in
          let zero-there : slice_index c.in_ok-starts.starts.items n ≡ 0 = search rules in
          zero-there ∙ sym (ap (parts_before c.args.geometry.now c.args.image.now) first ∙ none);
    }

pub loop-i-preserved : goal.loop-i-preserved
loop-i-preserved c =
    let g = c.args.geometry.now in
    let image = c.args.image.now in
    let i = c.loop-i.i in
    let inv = c.loop-i.invariant in
    let low : 1 ≤ i = omega arith in
    let more = below_more (λ k. part_count g image (k + 1)) (i - 1) in
    let back : i - 1 + 1 ≡ i = omega arith in
    let here = ap (part_count g image) back in
    let next = ap (parts_before g image) back in
    let same : i + 1 - 1 ≡ i = omega arith in
    let one : c.loop-i.before + c.part_count-before.result ≡ parts_before g image i =
    omega (arith, more, here, next, inv.sum, c.part_count-before.ensures.exact) in
    record {
      wide = inv.wide;
      sum = one ∙ sym (ap (parts_before g image) same);
      few = omega (arith, inv.few, c.part_count-before.ensures.few, low);
      done = λ n lt. elim (cases_lt n i) [
        | inl before ↦ get_or-set_other c.loop-i.starts.items i n (c.loop-i.before + c.part_count-before.result) 0 (λ e. omega (arith, before, e)) ∙ inv.done n before
        | inr from ↦
            let is : i ≡ n = omega arith in
            ap (slice_index (set c.loop-i.starts.items i (c.loop-i.before + c.part_count-before.result))) (sym is)
            ∙ (get_or-set_same c.loop-i.starts.items i (c.loop-i.before + c.part_count-before.result) 0 (omega (arith, inv.wide, c.loop-i-test.true, c.len-i-end.ensures, c.in_ok-starts.ensures.len))
            ∙ (one ∙ ap (parts_before g image) is))
      ];
    }
