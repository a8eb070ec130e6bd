use Rattle.std.proofs.Common.{◌≤◌, ◌^◌, ◌∙◌, ◌++◌, List, length, sym, subst}
use Rattle.vol_losses.specs.LossTexts.{counts_text, ranges_text}
use Rattle.vol_losses.specs.declared.ranges.LostRange.{LostRange}
use Rattle.vol_losses.proofs.loss_texts.loss_text.Goals as goal

pub losses_text-requires : goal.losses_text-requires
losses_text-requires c = subst (λ (ranges : List LostRange). length ranges ≤ 2 ^ 32) (sym c.deref.ensures.value) c.in_ok-ranges.ensures.few

pub returns : goal.returns
returns c = (
  c.in_ok-ranges.ranges.items,
  c.in_ok-ranges.ensures.exact,
  c.in_ok-text.ensures ∙ (λ k. counts_text (c.body_size.ensures k) (c.deref.ensures.value k) ++ ranges_text (c.body_size.ensures k) (c.deref.ensures.value k)),
)
