use Rattle.std.proofs.Common.{sym, ◌∙◌, ap}
use Rattle.vol_views.specs.LogRule.{no_entry}
use Rattle.vol_views.proofs.LogSteps.{add_moves}
use Rattle.vol_views.proofs.log_pens.new_pen.Goals as goal

pub compare_exchange-found-requires : goal.compare_exchange-found-requires
compare_exchange-found-requires c =
    let h = c.requires.head in
    let offer = c.plain-offer.ensures in
    let pen = c.no_pen-pen.ensures in (
      ap (λ w. w.tracked) h,
      ap (λ s. s.book) c.again-seen.ensures ∙ sym (ap (λ w. w.book) h),
      pen.0 ∙ (ap (λ s. s.book) c.again-seen.ensures ∙ sym (ap (λ w. w.book) h)),
      offer.0,
      rw (ap (λ w. w.key) h, pen.1, offer.3) (add_moves c.again-seen.result.log no_entry c.args.words),
    )
