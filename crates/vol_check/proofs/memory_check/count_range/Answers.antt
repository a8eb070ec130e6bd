use Rattle.std.proofs.Common.{◌≡◌, ◌+◌, ◌-◌, ◌*◌, ◌≤◌, ◌∙◌, ap, refl, arith}
use Rattle.std.specs.Prelude.{Some}
use Rattle.std.specs.List.{sum_by}
use Rattle.std.proofs.lemmas.List.Elements.{All-pop}
use Rattle.std.proofs.lemmas.List.Sums.{sum_by_push}
use Rattle.vol_dir.specs.Entries.{entry_at}
use Rattle.vol_check.specs.Levels.{IsNamed, by_times}
use Rattle.vol_check.specs.Slots.{block_sum}
use Rattle.vol_check.specs.LineCounts.{named_one}
use Rattle.vol_check.proofs.LineCounts.{few_names}
use Rattle.vol_check.proofs.memory_check.count_range.Goals as goal

pub loop-n-init : goal.loop-n-init
loop-n-init c =
    let all = c.in_ok-named.ensures.same named_one refl in
    let once = c.in_ok-once.ensures.same (block_sum c.args.image.now named_one) in
    record {
      named = c.in_ok-once.ensures.named c.args.geometry.now c.in_ok-named.ensures.named;
      sum = omega arith;
    }

pub count_slots-requires-clause-zone : goal.count_slots-requires-clause-zone
count_slots-requires-clause-zone c =
    let g = c.args.geometry.now in
    let parts = All-pop (IsNamed g) c.loop-n.once.items c.pop.new.self.items (Some c.in-Some.n) c.in-Some.ensures.items c.loop-n.invariant.named in
    parts.1.0

pub overflow_mul-count : goal.overflow_mul-count
overflow_mul-count c =
    let f = by_times (block_sum c.args.image.now named_one) in
    let all = few_names (λ t. entry_at c.args.geometry.now c.args.image.now c.args.d (32 * c.args.from + t)) (32 * (c.args.end - c.args.from)) in
    let push = ap (sum_by f) c.in-Some.ensures.items ∙ sum_by_push f c.pop.new.self.items c.in-Some.n in
    let here = ap (λ x. c.in-Some.n.times * x) c.count_slots.ensures in
    let sum = c.loop-n.invariant.sum in
    omega arith

pub overflow_add-count : goal.overflow_add-count
overflow_add-count c =
    let f = by_times (block_sum c.args.image.now named_one) in
    let all = few_names (λ t. entry_at c.args.geometry.now c.args.image.now c.args.d (32 * c.args.from + t)) (32 * (c.args.end - c.args.from)) in
    let push = ap (sum_by f) c.in-Some.ensures.items ∙ sum_by_push f c.pop.new.self.items c.in-Some.n in
    let here = ap (λ x. c.in-Some.n.times * x) c.count_slots.ensures in
    let sum = c.loop-n.invariant.sum in
    omega arith

pub loop-n-preserved : goal.loop-n-preserved
loop-n-preserved c =
    let g = c.args.geometry.now in
    let f = by_times (block_sum c.args.image.now named_one) in
    let parts = All-pop (IsNamed g) c.loop-n.once.items c.pop.new.self.items (Some c.in-Some.n) c.in-Some.ensures.items c.loop-n.invariant.named in
    let push = ap (sum_by f) c.in-Some.ensures.items ∙ sum_by_push f c.pop.new.self.items c.in-Some.n in
    let here = ap (λ x. c.in-Some.n.times * x) c.count_slots.ensures in
    let sum = c.loop-n.invariant.sum in
    record {
      named = parts.0;
      sum = omega arith;
    }
