use Rattle.std.proofs.Common.{◌≡◌, ℕ, Bool, List, Result, Ok, ◌∷◌, [], ◌<◌, if◌then◌else◌, Some, get_or, set, length, sym, ap, ◌∙◌, subst, arith, inl, inr, get_or-set_same, get_or-set_other, eq-eqb}
use Rattle.std.proofs.lemmas.Bool.{cases_eq, ne_eqb}
use Rattle.vol_layout.specs.declared.geometry.Geometry.{Geometry}
use Rattle.vol_free.specs.declared.free_walk.FreeFault.{FreeFault}
use Rattle.vol_free.specs.declared.free_walk.FreeWalk.{FreeWalk}
use Rattle.vol_free.specs.FreeWalk.{Walked}
use Rattle.vol_free.specs.Walk.{HasMet, StepFinds, left_after}
use Rattle.vol_free.proofs.FreeWalks.{met_most, zoned_last}
use Rattle.vol_free.proofs.Stacks.{zone_below}
use Rattle.vol_inspect.specs.FreeListStatus.{listed_in, listed_at}
use Rattle.vol_inspect.specs.declared.free_list.Listed.TheVariants.{Absent}
use Rattle.vol_inspect.proofs.free_list.list.Goals as goal

pub walk-init : goal.walk-init
unfolding listed_in
walk-init c = ([], c.new-walk.ensures c.args.marks.now c.requires.marks c.requires.clear, λ x low. c.requires.absent x)

-- after a step that finds a block, the walk has passed this block too
met_one : (g : Geometry) (image : List ℕ) (old new : List Bool) (walk next : FreeWalk) {found : Result ℕ (FreeFault × ℕ)} {b : ℕ} {met : List ℕ}
    → found ≡ Ok b → StepFinds g image old new walk next (Some found) → HasMet g image old walk met → HasMet g image new next (b ∷ met)
met_one g image old new walk next {met = met} is finds w = subst (λ r. StepFinds g image old new walk next (Some r)) is finds met w

pub bounds-listed-b : goal.bounds-listed-b
bounds-listed-b c =
    let g = c.args.geometry.now in
    let next = met_one g c.args.image.now c.walk.marks c.next.new.marks c.walk.walk c.next.new.self c.in-Some-Ok.field-0-is c.in-Some-Ok.ensures c.walk.invariant.1 in
    omega (arith, zone_below g c.in-Some-Ok.b (zoned_last next), c.requires.len, c.walk.auto.listed)

pub walk-smaller : goal.walk-smaller
walk-smaller c =
    let w = c.walk.invariant.1 in
    let next = met_one c.args.geometry.now c.args.image.now c.walk.marks c.next.new.marks c.walk.walk c.next.new.self c.in-Some-Ok.field-0-is c.in-Some-Ok.ensures w in
    omega (arith, met_most next, next.counted, w.counted)

pub walk-preserved : goal.walk-preserved
unfolding listed_in
walk-preserved c =
    let g = c.args.geometry.now in
    let image = c.args.image.now in
    let met = c.walk.invariant.0 in
    let w = c.walk.invariant.1 in
    let b = c.in-Some-Ok.b in
    let listed = c.walk.listed in
    let next = met_one g image c.walk.marks c.next.new.marks c.walk.walk c.next.new.self c.in-Some-Ok.field-0-is c.in-Some-Ok.ensures w in
    let near : b < length listed = omega (arith, zone_below g b (zoned_last next), c.requires.len, c.walk.auto.listed) in (
      b ∷ met,
      next,
      λ x low. elim (cases_eq b x) [
        | inl same ↦
            ap (λ n. get_or (set listed b c.listed_at-how.result) n Absent) (sym same)
            ∙ (get_or-set_same listed b c.listed_at-how.result Absent near
            ∙ (c.listed_at-how.ensures ∙ (ap listed_at w.left
            ∙ sym (ap (λ t. if t then listed_at (left_after g image met) else listed_in g image met x) (eq-eqb b x same)))))
        | inr other ↦
            get_or-set_other listed b x c.listed_at-how.result Absent (λ e. other (sym e))
            ∙ (c.walk.invariant.2 x low
            ∙ sym (ap (λ t. if t then listed_at (left_after g image met) else listed_in g image met x) (ne_eqb b x other)))
      ],
    )

pub returns-in-Some-Err : goal.returns-in-Some-Err
returns-in-Some-Err c = λ x low.
    let g = c.args.geometry.now in
    let image = c.args.image.now in
    let end = subst (λ r. StepFinds g image c.walk.marks c.next.new.marks c.walk.walk c.next.new.self (Some r)) c.in-Some-Err.field-0-is c.in-Some-Err.ensures in
    c.walk.invariant.2 x low ∙ sym (ap (λ (k : Walked). listed_in g image k.met x) (end.2 c.walk.invariant.0 c.walk.invariant.1))

pub returns-in-None : goal.returns-in-None
returns-in-None c = λ x low.
    c.walk.invariant.2 x low
    ∙ sym (ap (λ (k : Walked). listed_in c.args.geometry.now c.args.image.now k.met x) (c.in-None.ensures.2 c.walk.invariant.0 c.walk.invariant.1))
