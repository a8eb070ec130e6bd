use Rattle.std.proofs.Common.{◌≡◌, sym, ◌∙◌, ap, suc, length, arith}
use Rattle.logbook.specs.Pages.{nib, may_write}
use Rattle.vol_views.specs.LogRule.{no_entry}
use Rattle.vol_views.proofs.LogSteps.{compare_moves}
use Rattle.vol_views.proofs.ledger.Ledger.covers.Goals as goal

pub compare_exchange-requires : goal.compare_exchange-requires
compare_exchange-requires c =
    let h = c.self.invariant.0 in
    let offer = c.plain-offer.ensures in
    let len : length c.self.inside.seen.log ≡ suc c.self.inside.made = omega (arith, c.self.invariant.3) in
    let pen : c.self.inside.pen.nib ≡ nib may_write (suc c.self.inside.made) 0 = c.self.invariant.2 ∙ ap (λ k. nib may_write k 0) len in (
      ap (λ w. w.tracked) h,
      c.learn.ensures.0 ∙ (ap (λ s. s.book) c.again-both.ensures ∙ sym (ap (λ w. w.book) h)),
      c.self.invariant.1 ∙ sym (ap (λ w. w.book) h),
      offer.0,
      rw (ap (λ w. w.key) h, pen, offer.3) (compare_moves c.learn.new.self.log no_entry c.self.inside.made),
    )
