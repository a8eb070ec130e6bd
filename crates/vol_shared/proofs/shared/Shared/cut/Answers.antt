use Rattle.std.proofs.Common.{List, sym, subst}
use Rattle.vol_shared.specs.Sessions.{Known, known_by, knowledge_of, HasCut}
use Rattle.vol_shared.specs.declared.lock_rule.Knowledge.{Knowledge}
use Rattle.vol_shared.proofs.Calls.{has_cut}
use Rattle.vol_shared.proofs.shared.Shared.cut.Goals as goal

pub returns-clause-cut : goal.returns-clause-cut
returns-clause-cut g c =
    let session = c.session.inside in
    let badge = c.into_badge.result in
    let first = c.cut-stock.result.1 in
    let there = has_cut session.badge.views session.next session.count session.reported c.session.invariant c.lock_volume-place.result.0.me c.give_cut.result.me c.lock_volume-place.result.1 c.cut-stock.result.0 first
    c.lock_volume-place.ensures.took c.cut-stock.ensures.cut c.cut-stock.ensures.first c.give_cut.ensures.gave session.badge.table_id badge.table_id in
    subst (λ (k : Known). HasCut k (known_by badge.table_id first (knowledge_of badge.views)) first) c.session.view_is
    (subst (λ (vs : List Knowledge). HasCut (known_by session.badge.table_id session.next (knowledge_of session.badge.views)) (known_by badge.table_id first (knowledge_of vs)) first)
    (sym c.into_badge.ensures.2) there)
