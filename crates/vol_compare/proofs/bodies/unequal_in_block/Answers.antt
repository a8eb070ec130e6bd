use Rattle.std.proofs.Common.{◌≡◌, ◌<◌, ◌∙◌, ℕ, List, Option, None, Some, get_or, take, length, length-take, sym, arith}
use Rattle.std.proofs.lemmas.List.{get_or-replicate, get_or-take}
use Rattle.vol_compare.specs.Bodies.{IsFirstUnequal}
use Rattle.vol_compare.proofs.bodies.unequal_in_block.Goals as goal

-- the first byte that differs among the first bytes of two lists is the first of what they hold
first_of : (f g : ℕ → ℕ) (xs ys : List ℕ) (count to : ℕ) (found : Option ℕ) → to ≡ count
    → ((r : ℕ) → r < count → get_or xs r 0 ≡ f r) → ((r : ℕ) → r < count → get_or ys r 0 ≡ g r)
    → IsFirstUnequal (λ r. get_or (take count xs) r 0) (λ r. get_or (take count ys) r 0) to found → IsFirstUnequal f g count found
first_of f g xs ys count to None same old new is = λ n h.
    sym (get_or-take count xs n 0 h ∙ old n h) ∙ (is n (omega (arith, h, same)) ∙ (get_or-take count ys n 0 h ∙ new n h))
first_of f g xs ys count to (Some k) same old new is =
    let low : k < count = omega (arith, is.0, same) in (
      low,
      λ n h. let inside : n < count = omega (arith, h, low) in
          sym (get_or-take count xs n 0 inside ∙ old n inside) ∙ (is.1 n h ∙ (get_or-take count ys n 0 inside ∙ new n inside)),
      λ e. is.2 (get_or-take count xs k 0 low ∙ (old k low ∙ (e ∙ sym (get_or-take count ys k 0 low ∙ new k low)))),
    )

pub block_bytes-before-requires-clause-zeros : goal.block_bytes-before-requires-clause-zeros
block_bytes-before-requires-clause-zeros c = λ r h. get_or-replicate 512 r 0 0 h

pub block_bytes-after-requires-clause-zeros : goal.block_bytes-after-requires-clause-zeros
block_bytes-after-requires-clause-zeros c = λ r h. get_or-replicate 512 r 0 0 h

pub returns : goal.returns
returns c =
    let len : length (take c.args.count c.block_bytes-before.result.now) ≡ c.args.count = simp length-take (omega arith) in
    first_of _ _ c.block_bytes-before.result.now c.block_bytes-after.result.now c.args.count _ c.unequal_byte.result len
    (λ r h. c.block_bytes-before.ensures.bytes r (omega (arith, h)))
    (λ r h. c.block_bytes-after.ensures.bytes r (omega (arith, h)))
    c.unequal_byte.ensures
