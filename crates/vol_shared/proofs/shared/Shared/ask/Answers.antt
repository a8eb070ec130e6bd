use Rattle.std.proofs.Common.{List, sym, subst}
use Rattle.vol_shared.specs.Sessions.{Known, known_by, knowledge_of, Got}
use Rattle.vol_shared.specs.declared.lock_rule.Knowledge.{Knowledge}
use Rattle.vol_shared.proofs.Calls.{got}
use Rattle.vol_shared.proofs.shared.Shared.ask.Goals as goal

pub returns-in-Ok-clause-got : goal.returns-in-Ok-clause-got
returns-in-Ok-clause-got g c =
    let session = c.session.inside in
    let badge = c.into_badge.result in
    let stock = c.lock_volume-place.result.1 in
    let there = got session.badge.views session.next session.count session.reported c.session.invariant c.lock_volume-place.result.0.me c.give_answered.result.me stock stock c.in-Ok.receipt
    c.lock_volume-place.ensures.took c.in-Ok.ensures.answered c.give_answered.ensures.gave session.badge.table_id badge.table_id c.note.new.next c.note.ensures.next in
    subst (λ (k : Known). Got k (known_by badge.table_id c.note.new.next (knowledge_of badge.views)) c.in-Ok.receipt) c.session.view_is
    (subst (λ (vs : List Knowledge). Got (known_by session.badge.table_id session.next (knowledge_of session.badge.views)) (known_by badge.table_id c.note.new.next (knowledge_of vs)) c.in-Ok.receipt)
    (sym c.into_badge.ensures.2) there)
