use Rattle.std.proofs.Common.{◌≡◌, sym, ◌∙◌, ap, suc, length, arith}
use Rattle.logbook.specs.Pages.{nib, may_write}
use Rattle.vol_views.specs.declared.history.LogEntry.TheVariants.{Made}
use Rattle.vol_views.proofs.LogSteps.{append_moves}
use Rattle.vol_views.proofs.ledger.Ledger.append.Goals as goal

pub compare_exchange-requires : goal.compare_exchange-requires
compare_exchange-requires c =
    let h = c.self.invariant.0 in
    let offer = c.plain-offer.ensures in
    let len : length c.self.inside.seen.log ≡ suc c.self.inside.made = omega (arith, c.self.invariant.3) in
    let pen : c.self.inside.pen.nib ≡ nib may_write (suc c.self.inside.made) 0 = c.self.invariant.2 ∙ ap (λ k. nib may_write k 0) len in (
      ap (λ w. w.tracked) h,
      sym (ap (λ w. w.book) h),
      c.self.invariant.1 ∙ sym (ap (λ w. w.book) h),
      offer.0,
      rw (ap (λ w. w.key) h, pen, offer.1, offer.3) (append_moves c.self.inside.seen.log (Made c.args.made.now) c.self.inside.made len),
    )
