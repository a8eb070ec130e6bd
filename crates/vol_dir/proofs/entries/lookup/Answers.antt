use Rattle.std.proofs.Common.{◌∙◌, sym, ap, subst, refl, arith, Err}
use Rattle.std.specs.Option.{is_none}
use Rattle.std.proofs.lemmas.Bool.{ne_eqb}
use Rattle.vol_dir.proofs.Searches.{IsLookedUp, empty_open, looked_past, looked_first, looked_on}
use Rattle.vol_dir.proofs.entries.lookup.Goals as goal

pub returns-in_default : goal.returns-in_default
returns-in_default c =
    let looked = subst (λ n. IsLookedUp c.args.geometry.now c.args.image.now c.args.dir c.args.name.now (Err n)) (sym c.slot_count.ensures)
    (looked_past c.args.geometry.now c.args.image.now c.args.name.now c.args.dir (λ t h. c.in_default.ensures t (omega arith) h)) in
    record { number = tt; slot = tt; missing = looked.missing; new_slot = looked.new_slot }

pub returns-then-found-ne0 : goal.returns-then-found-ne0
returns-then-found-ne0 c =
    let looked = looked_first c.args.geometry.now c.args.image.now c.args.name.now c.args.dir c.in-Some.slot c.in-Some.found c.args.name refl
    (ne_eqb c.in-Some.found.inode 0 c.if-found-ne0.true) c.in-Some.ensures in
    record { number = looked.number; slot = looked.slot; missing = tt; new_slot = tt }

pub returns : goal.returns
returns c =
    let geometry = c.args.geometry.now in
    let image = c.args.image.now in
    let first = c.in-Some.ensures in
    let looked = subst (IsLookedUp geometry image c.args.dir c.args.name.now) (sym c.ok_or.ensures.value)
    (looked_on geometry image c.args.name.now c.args.dir c.in-Some.slot c.first_entry.result first.within
    (ap is_none first.read ∙ empty_open c.in-Some.found c.if-found-ne0.false) (λ t h. first.before t (omega arith) h) c.first_entry.ensures) in
    record { number = looked.number; slot = looked.slot; missing = looked.missing; new_slot = looked.new_slot }
