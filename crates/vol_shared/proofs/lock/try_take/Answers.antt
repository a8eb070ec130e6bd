use Rattle.std.proofs.Common.{◌≡◌, ◌∷◌, ◌∙◌, sym, ap, Option, Some, None, IfSome, IfNone, subst, arith}
use Rattle.atomic_table.specs.Table.{step, rest}
use Rattle.vol_shared.specs.Plays.{Took}
use Rattle.vol_shared.specs.Stored.{Stored}
use Rattle.vol_shared.proofs.Steps.{tries, took_out}
use Rattle.vol_shared.proofs.lock.try_take.Goals as goal

pub compare_exchange-requires : goal.compare_exchange-requires
compare_exchange-requires c =
    let lock = c.args.lock.now in
    let me = c.args.place.now.me in
    let one = c.requires.words in
    let st = step lock.table_id.slots 0 0 1 mathlib.Core.Option.none in
    (c.requires.own, omega arith, tries lock.key lock.table_id.slots c.args.place.now.id me st c.requires.free c.requires.parts c.requires.holds)

pub exchange-requires : goal.exchange-requires
exchange-requires c =
    let reported = c.compare_exchange.ensures in
    let took = reported.2.0 c.if-compare_exchange-ne0.false in
    let e = took.1.2 in
    (reported.0 ∙ c.requires.own, (Some took.0, ap (λ m. m.1) e ∙ sym (ap (λ m. (0, Some took.0) ∷ rest m.1) e)))

pub returns : goal.returns
returns c =
    let reported = c.compare_exchange.ensures in
    let took = reported.2.0 c.if-compare_exchange-ne0.false in
    let changed = c.exchange.ensures in
    let out = took_out c.args.place.now.me c.compare_exchange.new.seat.me c.exchange.new.seat.me took.0 c.exchange.result took.1 changed.2 changed.3 in
    record {
      own = changed.0 ∙ reported.0;
      took = subst (λ (found : Option Stored). IfSome found (λ stock. Took c.args.place.now.me c.exchange.new.seat.me stock None)) (sym out.0) out.1;
      missed = subst (λ (found : Option Stored). IfNone found (c.exchange.new.seat.me ≡ c.args.place.now.me)) (sym out.0) tt;
    }
