use Rattle.std.proofs.Common.{◌≡◌, ◌+◌, ◌-◌, ◌*◌, ◌≤◌, ◌∙◌, ℕ, sym, ap, subst, arith}
use Rattle.count_table.specs.Sums.{below}
use Rattle.count_table.proofs.Totals.{below_none, below_more}
use Rattle.vol_check.specs.LineCounts.{HasLines, line_count, name_count}
use Rattle.vol_check.proofs.LineCounts.{all_names, has_lines}
use Rattle.vol_check.proofs.memory_check.try_room.Goals as goal

pub loop-d-init : goal.loop-d-init
loop-d-init c = record {
  sum = sym (below_none (λ k. name_count c.in-Ok.geometry c.args.image.now (k + 1)));
  few = omega arith;
}

pub try_lines-requires : goal.try_lines-requires
try_lines-requires c =
    let g = c.in-Ok.geometry in
    let image = c.args.image.now in
    let d = c.loop-d.d in
    let back : d - 1 + 1 ≡ d = omega (arith, c.loop-d.auto.d) in
    let names = c.in_ok-names.ensures.exact in
    let more = below_more (λ k. name_count g image (k + 1)) (d - 1) in
    let here = ap (name_count g image) back in
    let all = ap (below (λ k. name_count g image (k + 1))) back in
    let sum : below (λ k. name_count g image (k + 1)) d ≡ c.loop-d.count + c.in_ok-names.names = omega (arith, more, here, all, names, c.loop-d.invariant.sum) in
    record { lines = subst (HasLines c.args.edition image) sum (has_lines c.args.edition g image d (sym c.in-Ok.ensures.exact) (omega (arith, c.loop-d.auto.d-end, c.loop-d-test.true))) }

pub loop-d-preserved : goal.loop-d-preserved
loop-d-preserved c =
    let g = c.in-Ok.geometry in
    let image = c.args.image.now in
    let d = c.loop-d.d in
    let back : d - 1 + 1 ≡ d = omega (arith, c.loop-d.auto.d) in
    let names = c.in_ok-names.ensures.exact in
    let more = below_more (λ k. name_count g image (k + 1)) (d - 1) in
    let here = ap (name_count g image) back in
    let next : d + 1 - 1 ≡ d - 1 + 1 = omega (arith, back) in
    let all = ap (below (λ k. name_count g image (k + 1))) next in
    record {
      sum = omega (arith, more, here, all, names, c.loop-d.invariant.sum);
      few = omega (arith, back, c.in_ok-names.ensures.few, c.loop-d.invariant.few);
    }

pub returns-after-names-gt0-clause-counted : goal.returns-after-names-gt0-clause-counted
returns-after-names-gt0-clause-counted c =
    let g = c.in-Ok.geometry in
    let image = c.args.image.now in
    let d = c.loop-d.d in
    let back : d - 1 + 1 ≡ d = omega (arith, c.loop-d.auto.d) in
    let last : d ≡ g.last_inode = omega arith in
    let names = c.in_ok-names.ensures.exact in
    let more = below_more (λ k. name_count g image (k + 1)) (d - 1) in
    let here = ap (name_count g image) back in
    let all = ap (below (λ k. name_count g image (k + 1))) (back ∙ last) in
    let sum : c.loop-d.count + c.in_ok-names.names ≡ below (λ k. name_count g image (k + 1)) g.last_inode = omega (arith, more, here, all, names, c.loop-d.invariant.sum) in
    sum ∙ (sym (all_names g image) ∙ ap (λ r. line_count r image) c.in-Ok.ensures.exact)

pub returns-after-names-gt0-clause-lines : goal.returns-after-names-gt0-clause-lines
returns-after-names-gt0-clause-lines c =
    let g = c.in-Ok.geometry in
    let image = c.args.image.now in
    let d = c.loop-d.d in
    let back : d - 1 + 1 ≡ d = omega (arith, c.loop-d.auto.d) in
    let names = c.in_ok-names.ensures.exact in
    let more = below_more (λ k. name_count g image (k + 1)) (d - 1) in
    let here = ap (name_count g image) back in
    let all = ap (below (λ k. name_count g image (k + 1))) back in
    let sum : below (λ k. name_count g image (k + 1)) d ≡ c.loop-d.count + c.in_ok-names.names = omega (arith, more, here, all, names, c.loop-d.invariant.sum) in
    subst (HasLines c.args.edition image) sum (has_lines c.args.edition g image d (sym c.in-Ok.ensures.exact) (omega (arith, c.loop-d.auto.d-end, c.loop-d-test.true)))
