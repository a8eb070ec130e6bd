use Rattle.std.proofs.Common.{◌≡◌, All, Some, ap, subst}
use Rattle.vol_shared.proofs.Lists.{all_last}
use Rattle.vol_shared.specs.Sessions.{Known}
use Rattle.vol_views.specs.Views.{Watched}
use Rattle.volume_tests.proofs.views.open_one.Goals as goal

pub returns-clause-session : goal.returns-clause-session
returns-clause-session g c =
    let mine = λ (s : Known). s.of ≡ c.in-Ok.shared.of in
    all_last mine c.take_last-session.new.self.items c.take_last-session.result
    (subst (All mine) c.take_last-session.ensures.items (λ k d lt. ap (λ (s : Known). s.of) (c.in-Ok.ensures.fresh k d lt)))

pub returns-clause-view : goal.returns-clause-view
returns-clause-view g c =
    let book = λ (v : Watched). c.in-Ok.shared.of.book ≡ Some v.book in
    all_last book c.take_last-view.new.self.items c.take_last-view.result (subst (All book) c.take_last-view.ensures.items c.in-Ok.ensures.own_views)
