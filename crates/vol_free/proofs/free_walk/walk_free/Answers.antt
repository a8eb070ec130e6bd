use Rattle.std.proofs.Common.{◌∷◌, [], reverse, sym, ap, ◌∙◌, subst, arith}
use Rattle.std.specs.Vec.{with_items}
use Rattle.std.proofs.lemmas.List.{reverse-append, with_items_is}
use Rattle.vol_free.specs.Walk.{HasMet, AreZoned}
use Rattle.vol_free.proofs.FreeWalks.{met_most, met_one, zoned_last, zoned_more}
use Rattle.vol_free.proofs.free_walk.walk_free.Goals as goal

-- after a block is appended to the list, the walk has visited the list
met_next : (c : goal.In_ok-push-in-Some-Ok) → HasMet c.args.geometry.now c.args.image.now c.next.new.marks c.next.new.self (c.in-Some-Ok.b ∷ reverse c.walk.met.items)
met_next c =
    let g = c.args.geometry.now in
    let image = c.args.image.now in
    met_one g image c.deref_mut.result.now c.next.new.marks c.walk.walk c.next.new.self c.in-Some-Ok.field-0-is c.in-Some-Ok.ensures
    (subst (λ ms. HasMet g image ms c.walk.walk (reverse c.walk.met.items)) (sym c.deref_mut.ensures.value) c.walk.invariant.walking)

pub walk-smaller : goal.walk-smaller
walk-smaller c =
    let next = met_next c in
    let w = c.walk.invariant.walking in
    omega (arith, met_most next, next.counted, w.counted)

pub walk-preserved : goal.walk-preserved
walk-preserved c =
    let g = c.args.geometry.now in
    let image = c.args.image.now in
    let met = c.walk.met.items in
    let b = c.in-Some-Ok.b in
    let w = c.walk.invariant.walking in
    let next = met_next c in
    let pushed = c.in_ok-push-in-Some-Ok.ensures.items in
    let same = with_items_is c.walk.marks c.next.new.marks (omega (arith, next.len, w.len)) in
    let turned = ap reverse pushed ∙ reverse-append met (b ∷ []) in
    record {
      walking = subst (λ xs. HasMet g image (with_items c.walk.marks c.next.new.marks).items c.next.new.self xs) (sym turned)
          (subst (λ ms. HasMet g image ms c.next.new.self (b ∷ reverse met)) (sym same) next);
      zoned = subst (AreZoned g) (sym pushed) (zoned_more g met b c.walk.invariant.zoned (zoned_last next));
    }
