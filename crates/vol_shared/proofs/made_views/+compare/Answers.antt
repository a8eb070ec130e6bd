use Rattle.std.proofs.Common.{◌≡◌, ◌∙◌, ◌<◌, length, sym, ap, subst, All, arith}
use Rattle.std.proofs.lemmas.List.Elements.{All-tail}
use Rattle.vol_views.specs.History.{Reached}
use Rattle.vol_views.specs.Views.{Watched}
use Rattle.vol_shared.proofs.made_views.+compare.Goals as goal

pub compare-requires : goal.compare-requires
compare-requires t c =
    let first = c.in-Some.ensures.cases in
    let P : Watched → Type 0 = λ v. v.book ≡ c.args.publisher.now.book in
    let own = subst (All P) first.0 c.requires in
    let measure = c.decreases in
    let fewer : length c.in-Some.rest.now < t = omega (arith, first.1, measure) in (
      fewer,
      λ k d lt. All-tail P c.in-Some.view.now c.in-Some.rest.now own k d lt ∙ sym (ap (λ (r : Reached). r.book) c.is_covered.ensures.same),
    )
