use Rattle.std.proofs.Common.{◌-◌, ◌==◌, if◌then◌else◌, ◌∷◌, [], Some, refl, sym, ap, ◌∙◌, subst, arith}
use Rattle.vol_free.specs.FreeWalk.{Walked}
use Rattle.vol_free.specs.Walk.{StepFinds}
use Rattle.vol_free.proofs.FreeWalks.{met_most, met_one}
use Rattle.vol_inspect.specs.Owners.{holder, listed_in}
use Rattle.vol_inspect.specs.declared.owners.Owner.TheVariants as owners
use Rattle.vol_inspect.proofs.owners.listed.Goals as goal

pub walk-init : goal.walk-init
unfolding holder listed_in
walk-init c = ([], c.new-walk.ensures c.args.marks.now c.requires.marks c.requires.clear, refl, refl)

pub walk-smaller : goal.walk-smaller
walk-smaller c =
    let w = c.walk.invariant.1 in
    let next = met_one c.args.geometry.now c.args.image.now c.walk.marks c.next.new.marks c.walk.walk c.next.new.self c.in-Some-Ok.field-0-is c.in-Some-Ok.ensures w in
    omega (arith, met_most next, next.counted, w.counted)

pub walk-preserved : goal.walk-preserved
unfolding holder listed_in
walk-preserved c =
    let g = c.args.geometry.now in
    let image = c.args.image.now in
    let b = c.args.b in
    let met = c.walk.invariant.0 in
    let w = c.walk.invariant.1 in
    let m = c.in-Some-Ok.m in (
      m ∷ met,
      met_one g image c.walk.marks c.next.new.marks c.walk.walk c.next.new.self c.in-Some-Ok.field-0-is c.in-Some-Ok.ensures w,
      c.past-listing.ensures.found
          ∙ (λ i. if m == b then Some (owners.Free (c.walk.invariant.3 i) (w.left i - 1)) else c.walk.invariant.2 i),
      c.past-listing.ensures.link ∙ (λ i. if w.left i == 1 then m else c.walk.invariant.3 i),
    )

pub returns-in-Some-Err : goal.returns-in-Some-Err
returns-in-Some-Err c =
    let g = c.args.geometry.now in
    let image = c.args.image.now in
    let end = subst (λ r. StepFinds g image c.walk.marks c.next.new.marks c.walk.walk c.next.new.self (Some r)) c.in-Some-Err.field-0-is c.in-Some-Err.ensures in
    c.walk.invariant.2 ∙ sym (ap (λ (k : Walked). listed_in g image c.args.b k.met) (end.2 c.walk.invariant.0 c.walk.invariant.1))

pub returns-in-None : goal.returns-in-None
returns-in-None c =
    c.walk.invariant.2
    ∙ sym (ap (λ (k : Walked). listed_in c.args.geometry.now c.args.image.now c.args.b k.met) (c.in-None.ensures.2 c.walk.invariant.0 c.walk.invariant.1))
