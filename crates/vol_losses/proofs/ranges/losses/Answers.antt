use Rattle.std.proofs.Common.{◌+◌, ◌<◌, ◌∙◌, sym, ap, subst, suc, [], ◌∷◌, ◌++◌, arith, inl, inr}
use Rattle.std.proofs.lemmas.Bool.{cases_eq, cases_lt, true≢false}
use Rattle.vol_losses.specs.Losses.{is_unsure}
use Rattle.vol_losses.specs.Ranges.{is_in, AreApart}
use Rattle.vol_losses.proofs.RangeLists.{apart_push, apart_wider, in_push_outside, in_push_inside}
use Rattle.vol_losses.specs.declared.ranges.LostRange.{LostRange}
use Rattle.vol_losses.proofs.ranges.losses.Goals as goal

pub loop-first-preserved : goal.loop-first-preserved
loop-first-preserved c =
    let is = is_unsure c.args.geometry.now c.args.image.now c.args.lost.now c.args.i in
    let first = c.loop-first.first in
    let stop = c.next_block-stop.result in
    let next = c.next_block-first-in-loop-first.result in
    let end = c.args.end in
    let some : first < stop = elim (cases_eq first stop) [
      | inl same ↦ absurd (true≢false (sym (c.loop-first.invariant.next c.loop-first-test.true)
          ∙ (ap is same ∙ c.next_block-stop.ensures.here (subst (λ n. n < end) same c.loop-first-test.true))))
      | inr other ↦ omega (arith, c.next_block-stop.ensures.reached)
    ] in
    let range : LostRange = record { first = first; end = stop } in
    let pushed = apart_push 0 c.loop-first.ranges.items range (c.loop-first.invariant.apart c.loop-first-test.true) some in
    let items = c.in_ok-push.ensures.items in
    record {
      within = c.next_block-first-in-loop-first.ensures.within;
      right = λ b low. ap (λ ranges. is_in ranges b) items ∙ elim (cases_lt b first) [
        | inl below ↦ in_push_outside c.loop-first.ranges.items range b (inl below) ∙ c.loop-first.invariant.right b below
        | inr from ↦ elim (cases_lt b stop) [
          | inl inside ↦ in_push_inside c.loop-first.ranges.items range b from inside ∙ sym (c.next_block-stop.ensures.before b from inside)
          | inr past ↦ in_push_outside c.loop-first.ranges.items range b (inr past)
              ∙ (c.loop-first.invariant.after b from ∙ sym (c.next_block-first-in-loop-first.ensures.before b past low))
        ]
      ];
      after = λ b high. ap (λ ranges. is_in ranges b) items
          ∙ (in_push_outside c.loop-first.ranges.items range b (inr (omega (arith, c.next_block-first-in-loop-first.ensures.reached, high)))
          ∙ c.loop-first.invariant.after b (omega (arith, c.next_block-first-in-loop-first.ensures.reached, c.next_block-stop.ensures.reached, high)));
      next = c.next_block-first-in-loop-first.ensures.here;
      apart = λ low. elim (cases_eq stop next) [
        | inl same ↦ absurd (true≢false (sym (c.next_block-first-in-loop-first.ensures.here low)
            ∙ (ap is (sym same) ∙ c.next_block-stop.ensures.here (subst (λ n. n < end) (sym same) low))))
        | inr other ↦ subst (λ ranges. AreApart 0 ranges next) (sym items)
            (apart_wider 0 (c.loop-first.ranges.items ++ (range ∷ [])) (suc stop) next pushed (omega (arith, c.next_block-first-in-loop-first.ensures.reached)))
      ];
      all = subst (λ ranges. AreApart 0 ranges (end + 1)) (sym items)
          (apart_wider 0 (c.loop-first.ranges.items ++ (range ∷ [])) (suc stop) (end + 1) pushed (omega (arith, c.next_block-stop.ensures.within)));
    }
