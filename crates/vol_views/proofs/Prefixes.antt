-- Prefixes of logs.
use Rattle.std.proofs.Common.{◌≡◌, ap, sym, ◌∙◌, subst, inl, inr, ⊎_elim}
use mathlib.Core.List.{IsPrefix}
use Rattle.vol_views.specs.History.{Reached}
use Rattle.vol_views.proofs.Beginnings.{prefix_self, prefix_trans}
use Rattle.vol_views.specs.PublishedRule.{Begins}

-- a log prefix begins itself
pub begins_self : (prefix whole : Reached) → whole ≡ prefix → Begins prefix whole
begins_self prefix whole same = inr (ap (λ r. r.book) (sym same), subst (λ (r : Reached). IsPrefix r.log whole.log) same (prefix_self whole.log))

-- a log prefix that begins `whole` also begins every log prefix that extends `whole`
pub begins_on : (prefix whole longer : Reached) → whole.book ≡ longer.book → IsPrefix whole.log longer.log → Begins prefix whole → Begins prefix longer
begins_on prefix whole longer book goes_on begins =
    ⊎_elim (λ empty. inl empty) (λ t. inr (t.0 ∙ book, prefix_trans prefix.log whole.log longer.log t.1 goes_on)) begins
