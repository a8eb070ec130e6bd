use Rattle.std.proofs.Common.{◌≡◌, ◌∙◌, ◌+◌, ◌-◌, suc, sym, ap, arith, true, false}
use Rattle.vol_fields.specs.Rows.{array_end, is_zero_item}
use Rattle.vol_fields.proofs.RowLaws.{array_ends, array_goes_on}
use Rattle.vol_fields.proofs.rows.array_end.Goals as goal

pub loop-k-preserved : goal.loop-k-preserved
loop-k-preserved c =
    let g = c.args.geometry.now in
    let t = c.args.roles.now in
    let image = c.args.image.now in
    let to = c.args.to in
    let left = to - c.args.n - c.loop-k.k in
    let some : left ≡ suc (to - c.args.n - (c.loop-k.k + 1)) = omega arith in
    let test : is_zero_item g t image to c.loop-k.end ≡ true = sym c.is_zero_item.ensures.exact ∙ c.if-not-is_zero_item.false in
    record {
      from = omega (arith, c.item_end-end.ensures.after);
      within = c.item_end-end.ensures.end;
      same = c.loop-k.invariant.same ∙ (ap (λ m. array_end g t image to m c.loop-k.end) some
          ∙ (array_goes_on g t image to (to - c.args.n - (c.loop-k.k + 1)) c.loop-k.end test
          ∙ ap (λ n. array_end g t image to (to - c.args.n - (c.loop-k.k + 1)) n) (sym c.item_end-end.ensures.exact)));
    }

pub returns-then-not-is_zero_item-clause-exact : goal.returns-then-not-is_zero_item-clause-exact
returns-then-not-is_zero_item-clause-exact c =
    let g = c.args.geometry.now in
    let t = c.args.roles.now in
    let image = c.args.image.now in
    let to = c.args.to in
    let some : to - c.args.n - c.loop-k.k ≡ suc (to - c.args.n - (c.loop-k.k + 1)) = omega arith in
    let test : is_zero_item g t image to c.loop-k.end ≡ false = sym c.is_zero_item.ensures.exact ∙ c.if-not-is_zero_item.true in
    sym (c.loop-k.invariant.same ∙ (ap (λ m. array_end g t image to m c.loop-k.end) some
    ∙ array_ends g t image to (to - c.args.n - (c.loop-k.k + 1)) c.loop-k.end test))

pub returns-clause-exact : goal.returns-clause-exact
unfolding array_end
returns-clause-exact c =
    let g = c.args.geometry.now in
    let t = c.args.roles.now in
    let image = c.args.image.now in
    let to = c.args.to in
    let none : to - c.args.n - c.loop-k.k ≡ 0 = omega arith in
    sym (c.loop-k.invariant.same ∙ ap (λ m. array_end g t image to m c.loop-k.end) none)
