use Rattle.std.proofs.Common.{◌++◌, ◌∷◌, [], sym}
use Rattle.std.proofs.lemmas.List.Elements.{All-same}
use Rattle.vol_play.specs.Opened.{IsFreshView}
use Rattle.vol_play.proofs.ListLaws.{all_pushed}
use Rattle.vol_play.proofs.deal.seat.Goals as goal

pub returns-in-View-clause-fresh_views : goal.returns-in-View-clause-fresh_views
returns-in-View-clause-fresh_views c shared all =
    let left = c.take_last-in-View.new.self.items in
    let last = c.take_last-in-View.result in
    (all_pushed (IsFreshView shared) left last (All-same (IsFreshView shared) (left ++ last ∷ []) c.args.views.now.items (sym c.take_last-in-View.ensures.items) all)).0
