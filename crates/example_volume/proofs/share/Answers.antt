use Rattle.std.proofs.Common.{◌≡◌, ◌∙◌, [], ◌∷◌, All, Some, ap, subst, sym}
use Rattle.unix_volumes.proofs.Prefixes.{all_pushed}
use Rattle.unix_volumes.proofs.Lists.{all_prefix, all_last}
use Rattle.unix_volumes.specs.declared.Session.{Session}
use Rattle.unix_volumes.specs.declared.View.{View}
use Rattle.example_volume.proofs.share.Goals as goal

pub call-requires : goal.call-requires
call-requires g c =
    let mine = λ (s : Session). s.of ≡ c.in-Ok.opened.0.of in
    let all = subst (All mine) c.take_last-second.ensures.items (λ k d lt. ap (λ (s : Session). s.of) (c.in-Ok.ensures.fresh k d lt)) in
    let prefix = all_prefix mine c.take_last-second.new.self.items (c.take_last-second.result ∷ []) all in
    all_last mine c.take_last-first.new.self.items c.take_last-first.result (subst (All mine) c.take_last-first.ensures.items prefix)

pub ask-requires : goal.ask-requires
ask-requires g c =
    let mine = λ (s : Session). s.of ≡ c.in-Ok.opened.0.of in
    all_last mine c.take_last-second.new.self.items c.take_last-second.result
    (subst (All mine) c.take_last-second.ensures.items (λ k d lt. ap (λ (s : Session). s.of) (c.in-Ok.ensures.fresh k d lt)))

pub learn-requires : goal.learn-requires
learn-requires g c =
    let mine = λ (s : Session). s.of ≡ c.in-Ok.opened.0.of in
    let all = subst (All mine) c.take_last-second.ensures.items (λ k d lt. ap (λ (s : Session). s.of) (c.in-Ok.ensures.fresh k d lt)) in
    let prefix = all_prefix mine c.take_last-second.new.self.items (c.take_last-second.result ∷ []) all in
    let first = all_last mine c.take_last-first.new.self.items c.take_last-first.result (subst (All mine) c.take_last-first.ensures.items prefix) in
    let book = λ (v : View). c.in-Ok.opened.0.of.book ≡ Some v.book in
    ap (λ o. o.book) (c.call.ensures.same ∙ first)
    ∙ all_last book c.take_last-view.new.self.items c.take_last-view.result (subst (All book) c.take_last-view.ensures.items c.in-Ok.ensures.own_views)

pub close_with-closed-requires-clause-own : goal.close_with-closed-requires-clause-own
close_with-closed-requires-clause-own g c =
    let mine = λ (s : Session). s.of ≡ c.in-Ok.opened.0.of in
    let all = subst (All mine) c.take_last-second.ensures.items (λ k d lt. ap (λ (s : Session). s.of) (c.in-Ok.ensures.fresh k d lt)) in
    let second = all_last mine c.take_last-second.new.self.items c.take_last-second.result all in
    let both = subst (All mine) c.take_last-first.ensures.items (all_prefix mine c.take_last-second.new.self.items (c.take_last-second.result ∷ []) all) in
    let first = all_last mine c.take_last-first.new.self.items c.take_last-first.result both in
    let rest = all_prefix mine c.take_last-first.new.self.items (c.take_last-first.result ∷ []) both in
    let one = subst (All mine) (sym c.push_reserved.ensures.items)
    (all_pushed mine c.take_last-first.new.self.items c.learn.new.session rest (ap (λ (s : Session). s.of) c.learn.ensures.session ∙ c.call.ensures.same ∙ first)) in
    subst (All mine) (sym c.push_reserved-2.ensures.items)
    (all_pushed mine c.push_reserved.new.self.items c.ask.new.session one (c.ask.ensures.same ∙ second))

pub close_with-closed-requires-clause-own_views : goal.close_with-closed-requires-clause-own_views
close_with-closed-requires-clause-own_views g c =
    let book = λ (v : View). c.in-Ok.opened.0.of.book ≡ Some v.book in
    let all = subst (All book) c.take_last-view.ensures.items c.in-Ok.ensures.own_views in
    let prefix = all_prefix book c.take_last-view.new.self.items (c.take_last-view.result ∷ []) all in
    let seen = all_last book c.take_last-view.new.self.items c.take_last-view.result all in
    subst (All book) (sym c.push_reserved-3.ensures.items)
    (all_pushed book c.take_last-view.new.self.items c.ask-2.new.self prefix (seen ∙ sym (ap Some (c.ask-2.ensures.book ∙ c.learn.ensures.book))))
