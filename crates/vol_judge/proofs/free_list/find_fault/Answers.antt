use Rattle.std.proofs.Common.{◌≡◌, ℕ, List, ◌∷◌, [], Some, None, length, reverse, sym, ap, ◌∙◌, subst, arith}
use Rattle.std.proofs.lemmas.List.{reverse-append, reverse-reverse, length-reverse}
use Rattle.vol_layout.specs.declared.geometry.Geometry.{Geometry}
use Rattle.vol_free.specs.FreeWalk.{Walked, free_walk}
use Rattle.vol_free.specs.Stack.{IsIn, IsFree}
use Rattle.vol_free.specs.Walk.{HasMet, StepFinds}
use Rattle.vol_free.proofs.FreeFaults.{in_any, any_in, in_reverse, fault_breaks, no_fault_free}
use Rattle.vol_free.proofs.FreeWalks.{met_most, met_one, zoned_last}
use Rattle.vol_free.proofs.Stacks.{IsFree_unique, zone_behind, zone_below}
use Rattle.vol_judge.proofs.NamedFree.{FindsMarked, clear_none, named_found}
use Rattle.vol_judge.proofs.free_list.find_fault.Goals as goal

pub walk-init : goal.walk-init
walk-init c = ([], c.new-walk.ensures c.args.free.now c.requires.free_room c.requires.clear, clear_none c.args.named.now)

-- the walk has met one more block
met_next : (c : goal.After-first_named-first) → HasMet c.args.geometry.now c.args.image.now c.next.new.marks c.next.new.self (c.in-Some-Ok.b ∷ c.walk.invariant.0)
met_next c =
    met_one c.args.geometry.now c.args.image.now c.walk.free c.next.new.marks c.walk.walk c.next.new.self c.in-Some-Ok.field-0-is c.in-Some-Ok.ensures
    c.walk.invariant.1

pub first_named-first-requires : goal.first_named-first-requires
first_named-first-requires c =
    let g = c.args.geometry.now in
    omega (
      arith,
      zone_below g c.in-Some-Ok.b (zoned_last (met_one g c.args.image.now c.walk.free c.next.new.marks c.walk.walk c.next.new.self c.in-Some-Ok.field-0-is
          c.in-Some-Ok.ensures c.walk.invariant.1)),
      c.requires.room,
    )

pub walk-smaller : goal.walk-smaller
walk-smaller c =
    let next = met_next c in
    let w = c.walk.invariant.1 in
    omega (arith, met_most next, next.counted, w.counted)

pub walk-preserved : goal.walk-preserved
walk-preserved c =
    let b = c.in-Some-Ok.b in
    let met = c.walk.invariant.0 in (
      b ∷ met,
      met_next c,
      subst (λ xs. FindsMarked c.args.named.now xs c.first_named-first.result) (sym (reverse-append (b ∷ []) met))
          (c.first_named-first.ensures (reverse met) c.walk.invariant.2),
    )

pub returns-in-Some-Err-clause-fault : goal.returns-in-Some-Err-clause-fault
returns-in-Some-Err-clause-fault c =
    let g = c.args.geometry.now in
    let image = c.args.image.now in
    let end = subst (λ r. StepFinds g image c.walk.free c.next.new.marks c.walk.walk c.next.new.self (Some r)) c.in-Some-Err.field-0-is c.in-Some-Err.ensures in
    let fault = ap (λ (k : Walked). k.fault) (end.2 c.walk.invariant.0 c.walk.invariant.1) in
    (fault, fault_breaks g image fault)

-- at the end of the free list, the blocks met are the free blocks
all_met : (g : Geometry) (image met : List ℕ) → free_walk g image ≡ record { met = met; fault = None } → IsFree g image (reverse met)
all_met g image met walk =
    no_fault_free g image (reverse met) (ap (λ (k : Walked). k.fault) walk) (reverse-reverse met ∙ sym (ap (λ (k : Walked). k.met) walk))

pub returns-in-None-clause-fault : goal.returns-in-None-clause-fault
returns-in-None-clause-fault c =
    let met = c.walk.invariant.0 in
    record { blocks = reverse met; free = all_met c.args.geometry.now c.args.image.now met (c.in-None.ensures.2 met c.walk.invariant.1) }

pub returns-in-None-clause-marked : goal.returns-in-None-clause-marked
returns-in-None-clause-marked c =
    let met = c.walk.invariant.0 in
    let w = c.walk.invariant.1 in
    rw c.in-None.ensures.0 (record {
      blocks = reverse met;
      free = all_met c.args.geometry.now c.args.image.now met (c.in-None.ensures.2 met w);
      marked = λ k set. in_reverse k met (any_in k met (sym (w.marked k) ∙ set));
      all = λ k among. w.marked k ∙ in_any k met (subst (IsIn k) (reverse-reverse met) (in_reverse k (reverse met) among));
    })

pub returns-in-None-clause-count : goal.returns-in-None-clause-count
returns-in-None-clause-count c = λ blocks free.
    let met = c.walk.invariant.0 in
    let w = c.walk.invariant.1 in
    let all = all_met c.args.geometry.now c.args.image.now met (c.in-None.ensures.2 met w) in
    let same : length (reverse met) ≡ length blocks = ap length (IsFree_unique (omega (arith, zone_behind c.requires.fits)) all free) in
    rw c.in-None.ensures.1 (omega (arith, w.counted, same, length-reverse met))

pub returns-in-None-clause-named : goal.returns-in-None-clause-named
returns-in-None-clause-named c = λ apart names.
    let g = c.args.geometry.now in
    let image = c.args.image.now in
    let met = c.walk.invariant.0 in
    rw c.used_and_free.ensures
    (named_found g image c.args.named.now (reverse met) c.requires.fits names (all_met g image met (c.in-None.ensures.2 met c.walk.invariant.1)) c.walk.first apart
    c.walk.invariant.2)
