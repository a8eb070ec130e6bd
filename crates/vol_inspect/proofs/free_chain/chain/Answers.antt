use Rattle.std.proofs.Common.{◌≡◌, ◌++◌, ◌∷◌, ℕ, [], List, map, refl, sym, ap, ◌∙◌, subst, arith, rules, Bool, false, Result, Ok, Some, zero, suc, get_or, replicate}
use Rattle.std.proofs.lemmas.List.{with_items_is}
use Rattle.vol_layout.specs.declared.geometry.Geometry.{Geometry}
use Rattle.vol_free.specs.declared.free_walk.FreeFault.{FreeFault}
use Rattle.vol_free.specs.declared.free_walk.FreeWalk.{FreeWalk}
use Rattle.vol_free.specs.Walk.{HasMet, StepFinds}
use Rattle.vol_free.proofs.FreeWalks.{met_most, met_one, zoned_last}
use Rattle.vol_inspect.specs.FreeChain.{link_of, links_met, shown_from, shown_link}
use Rattle.vol_inspect.proofs.free_chain.chain.Goals as goal

-- an element of a list of false is false
clear : (n b : ℕ) → get_or (replicate n false) b false ≡ false
clear zero b = refl
clear (suc n) zero = refl
clear (suc n) (suc b) = clear n b

pub walk-init : goal.walk-init
unfolding links_met
walk-init c =
    let blank : c.in_ok-marks.marks.items ≡ replicate c.args.geometry.now.zone_end false = search rules in (
      [],
      c.new-walk.ensures c.in_ok-marks.marks.items (search rules) (λ b. ap (λ ms. get_or ms b false) blank ∙ clear _ b),
      c.in_ok-push_link.ensures ∙ ap (λ ls. map shown_link ls ++ link_of c.args.geometry.now.edition c.args.image.now 1 ∷ []) c.new-links.ensures.items,
    )

-- after a step that finds a block, the walk has passed this block too
met_next : (g : Geometry) (image : List ℕ) (old seen new : List Bool) (walk next : FreeWalk) {found : Result ℕ (FreeFault × ℕ)} {b : ℕ} {met : List ℕ}
    → seen ≡ old → found ≡ Ok b → StepFinds g image seen new walk next (Some found) → HasMet g image old walk met → HasMet g image new next (b ∷ met)
met_next g image old seen new walk next {met = met} is block finds w =
    met_one g image seen new walk next block finds (subst (λ ms. HasMet g image ms walk met) (sym is) w)

pub push_met-requires-clause-zoned : goal.push_met-requires-clause-zoned
push_met-requires-clause-zoned c =
    zoned_last (met_next c.args.geometry.now c.args.image.now c.walk.marks.items c.deref_mut.result.now c.next.new.marks c.walk.walk c.next.new.self
    c.deref_mut.ensures.value c.in-Some-Ok.field-0-is c.in-Some-Ok.ensures c.walk.invariant.1)

pub walk-smaller : goal.walk-smaller
walk-smaller c =
    let w = c.walk.invariant.1 in
    let next = met_next c.args.geometry.now c.args.image.now c.walk.marks.items c.deref_mut.result.now c.next.new.marks c.walk.walk c.next.new.self
    c.deref_mut.ensures.value c.in-Some-Ok.field-0-is c.in-Some-Ok.ensures w in
    omega (arith, met_most next, next.counted, w.counted)

pub walk-preserved : goal.walk-preserved
unfolding links_met
walk-preserved c =
    let g = c.args.geometry.now in
    let image = c.args.image.now in
    let met = c.walk.invariant.0 in
    let b = c.in-Some-Ok.b in
    let w = c.walk.invariant.1 in
    let next = met_next g image c.walk.marks.items c.deref_mut.result.now c.next.new.marks c.walk.walk c.next.new.self c.deref_mut.ensures.value
    c.in-Some-Ok.field-0-is c.in-Some-Ok.ensures w in
    let same = with_items_is c.walk.marks c.next.new.marks (omega (arith, next.len, w.len)) in (
      b ∷ met,
      subst (λ ms. HasMet g image ms c.next.new.self (b ∷ met)) (sym same) next,
      c.in_ok-push_met-in-Some-Ok.ensures
          ∙ (ap (λ ls. ls ++ shown_from g image c.walk.walk.count b) c.walk.invariant.2 ∙ ap (λ n. links_met g image met ++ shown_from g image n b) w.left),
    )
