use Rattle.std.proofs.Common.{◌≡◌, [], ◌∷◌, All, Some, subst, sym}
use Rattle.vol_shared.proofs.Prefixes.{all_pushed}
use Rattle.vol_shared.proofs.Lists.{all_prefix}
use Rattle.vol_shared.specs.declared.session.Session.{Session}
use Rattle.vol_shared.specs.declared.View.{View}
use Rattle.library_runs.proofs.sessions.watch_last.Goals as goal

pub returns-clause-own : goal.returns-clause-own
returns-clause-own g c =
    let mine = λ (s : Session). s.of ≡ c.args.shared.now.of in
    let all = subst (All mine) c.take_last-writer.ensures.items c.requires.own in
    let prefix = all_prefix mine c.take_last-writer.new.self.items (c.take_last-writer.result ∷ []) all in
    subst (All mine) (sym c.push_reserved-2.ensures.items)
    (all_pushed mine c.take_last-writer.new.self.items c.watch_beside-done.result.2 prefix c.watch_beside-done.ensures.writer)

pub returns-clause-own_views : goal.returns-clause-own_views
returns-clause-own_views g c =
    let mine = λ (v : View). c.args.shared.now.of.book ≡ Some v.book in
    let all = subst (All mine) c.take_last-view.ensures.items c.requires.own_views in
    let prefix = all_prefix mine c.take_last-view.new.self.items (c.take_last-view.result ∷ []) all in
    subst (All mine) (sym c.push_reserved.ensures.items)
    (all_pushed mine c.take_last-view.new.self.items c.watch_beside-done.result.1 prefix c.watch_beside-done.ensures.view)
