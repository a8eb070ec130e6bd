use Rattle.std.proofs.Common.{◌≡◌, ◌<◌, [], ◌∷◌, ◌∙◌, sym, ap, true, Option, Some, None, subst, arith}
use Rattle.atomic_table.specs.Table.{Me, step, rest}
use Rattle.vol_shared.specs.Plays.{MayGive, gave}
use Rattle.vol_shared.specs.Stored.{Stored}
use Rattle.vol_shared.specs.declared.lock_rule.Knowledge.{Knowledge}
use Rattle.vol_shared.proofs.Steps.{gives_back, slot_is}
use Rattle.vol_shared.proofs.lock.give.Goals as goal

pub exchange-requires : goal.exchange-requires
exchange-requires g c = (c.requires.own, (None, c.requires.empty ∙ sym (ap (λ l. (0, None) ∷ rest l) c.requires.empty)))

pub expect_none-requires : goal.expect_none-requires
expect_none-requires g c = slot_is c.args.place.now.me.1 c.exchange.result None c.exchange.ensures.2 c.requires.empty

pub store-requires : goal.store-requires
store-requires g c =
    let changed = c.exchange.ensures in
    let lock = c.args.lock.now in
    let one = c.requires.words in
    let slot = c.requires.slots in
    let me = c.exchange.new.seat.me in
    let same = ap (λ (m : Me (Option Stored) Knowledge). m.0) (sym changed.3) in
    let held = ap (λ (m : Me (Option Stored) Knowledge). m.1) changed.3 ∙ ap (λ l. (0, Some c.args.stock) ∷ rest l) c.requires.empty in (
      changed.0 ∙ c.requires.own,
      omega arith,
      gives_back lock.key lock.table_id.slots c.exchange.new.seat.id me c.args.stock g.J.Telling.event (step lock.table_id.slots 0 0 0 mathlib.Core.Option.none) (omega arith)
          held (subst (λ (v : Knowledge). 0 < v.parts) same c.requires.parts) (subst (λ (v : Knowledge). v.holds ≡ true) same c.requires.holds)
          (subst (λ (v : Knowledge). MayGive v.found c.args.stock g.J.Telling.event) same c.requires.may),
    )

pub returns-clause-gave : goal.returns-clause-gave
returns-clause-gave g c =
    let changed = c.exchange.ensures in
    let same = ap (λ (m : Me (Option Stored) Knowledge). m.0) changed.3 in
    let held = ap (λ (m : Me (Option Stored) Knowledge). m.1) changed.3 ∙ ap (λ l. (0, Some c.args.stock) ∷ rest l) c.requires.empty in
    c.store.ensures.2 c.args.stock held ∙ ap (λ (v : Knowledge). (gave v c.args.stock g.J.Telling.event, [])) same
