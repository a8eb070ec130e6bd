use Rattle.std.proofs.Common.{◌≡◌, ◌∙◌, sym, ap, subst, IfSome}
use Rattle.logbook.specs.Pages.{Book}
use Rattle.vol_views.specs.Views.{Watched}
use Rattle.vol_views.proofs.Views.{all_agree_on}
use Rattle.vol_views.proofs.view.View.know.Goals as goal

pub invariant_of-self : goal.invariant_of-self
invariant_of-self c =
    let book = ap (λ (w : Watched). w.book) c.self.view_is ∙ sym c.requires.book in (
      c.self.invariant.0,
      subst (λ (b : Book). IfSome c.self.inside.subscriber (λ s. s.book ≡ b)) book c.self.invariant.1,
      all_agree_on c.self.inside.known.log c.args.reported.log c.self.inside.notes.log c.goes_on.ensures c.self.invariant.2,
    )
