use Rattle.std.proofs.Common.{◌≡◌, ◌+◌, ◌-◌, ◌*◌, ◌/◌, ◌%◌, ◌≤◌, ◌∙◌, ℕ, List, Option, sym, ap, arith}
use Rattle.vol_dir.specs.Entries.{entry_at, slot_count}
use Rattle.count_table.specs.Sums.{below}
use Rattle.count_table.proofs.Totals.{below_none}
use Rattle.vol_check.specs.LineCounts.{named_one}
use Rattle.vol_check.proofs.PieceSums.{below_split}
use Rattle.vol_check.proofs.LineCounts.{few_names}
use Rattle.vol_check.proofs.memory_check.count_directory.Goals as goal

pub loop-b-init : goal.loop-b-init
loop-b-init c = record {
  within = omega arith;
  sum = sym (below_none (λ s. named_one (entry_at c.args.geometry.now c.args.image.now c.args.d s)));
}

pub overflow_add-count : goal.overflow_add-count
overflow_add-count c =
    let slot : ℕ → Option (List ℕ × ℕ) = λ s. entry_at c.args.geometry.now c.args.image.now c.args.d s in
    let b = c.loop-b.b in
    let end = c.min-end.result in
    let before = few_names slot (32 * b) in
    let here = few_names (λ t. slot (32 * b + t)) (32 * (end - b)) in
    omega (arith, before, here, c.loop-b.invariant.sum, c.in_ok-count.ensures)

pub loop-b-preserved : goal.loop-b-preserved
loop-b-preserved c =
    let f : ℕ → ℕ = λ s. named_one (entry_at c.args.geometry.now c.args.image.now c.args.d s) in
    let b = c.loop-b.b in
    let end = c.min-end.result in
    let more : b ≤ end = omega (arith, c.min-end.ensures, c.loop-b-test.true) in
    let len : 32 * b + 32 * (end - b) ≡ 32 * end = omega (arith, more) in
    let split = below_split f (32 * b) (32 * (end - b)) in
    let all = ap (below f) len in
    record {
      within = omega (arith, c.min-end.ensures);
      sum = omega (arith, split, all, c.loop-b.invariant.sum, c.in_ok-count.ensures);
    }

pub overflow_add-result : goal.overflow_add-result
overflow_add-result c =
    let slot : ℕ → Option (List ℕ × ℕ) = λ s. entry_at c.args.geometry.now c.args.image.now c.args.d s in
    let whole = c.slot_count-slots.result / 32 in
    let before = few_names slot (32 * c.loop-b.b) in
    let rest = few_names (λ t. slot (32 * whole + t)) (c.slot_count-slots.result % 32) in
    omega (arith, before, rest, c.loop-b.invariant.sum, c.count_front.ensures)

pub returns-clause-exact : goal.returns-clause-exact
returns-clause-exact c =
    let f : ℕ → ℕ = λ s. named_one (entry_at c.args.geometry.now c.args.image.now c.args.d s) in
    let slots = c.slot_count-slots.result in
    let whole = slots / 32 in
    let end : c.loop-b.b ≡ whole = omega (arith, c.loop-b-test.false, c.loop-b.invariant.within) in
    let first = ap (λ b. below f (32 * b)) end in
    let split = below_split f (32 * whole) (slots % 32) in
    let len : 32 * whole + slots % 32 ≡ slots = omega arith in
    let all = ap (below f) (len ∙ c.slot_count-slots.ensures) in
    omega (arith, first, split, all, c.loop-b.invariant.sum, c.count_front.ensures)

pub returns-clause-few : goal.returns-clause-few
returns-clause-few c =
    let slot : ℕ → Option (List ℕ × ℕ) = λ s. entry_at c.args.geometry.now c.args.image.now c.args.d s in
    let slots = c.slot_count-slots.result in
    let whole = slots / 32 in
    let before = few_names slot (32 * c.loop-b.b) in
    let rest = few_names (λ t. slot (32 * whole + t)) (slots % 32) in
    omega (arith, before, rest, c.loop-b.invariant.sum, c.loop-b.invariant.within, c.count_front.ensures)
