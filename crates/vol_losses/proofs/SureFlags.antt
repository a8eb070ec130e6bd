-- Lemmas on the logical blocks that can all be trusted.
use Rattle.std.proofs.Common.{◌≡◌, ℕ, zero, suc, ◌<◌, ◌∙◌, ap, sym, not, ◌&&◌, Bool, true, false, nat_eq, List, refl, arith, inl, inr}
use Rattle.std.proofs.lemmas.Bool.{cases_eq, eq-eqb, ne_eqb, true≢false}
use Rattle.vol_losses.proofs.LostPaths.{and_false, none_unsure}
use Rattle.std.proofs.lemmas.Grind.{div_ceil_times}
use Rattle.vol_layout.specs.Body.{body_size}
use Rattle.vol_losses.specs.Losses.{is_lost, is_unsure, are_sure, is_whole, body_blocks, node_block, IsNext, IsWhole}
use Rattle.vol_layout.specs.declared.geometry.Geometry.{Geometry}

-- all can be trusted if each can
sure_all : (geometry : Geometry) (image : List ℕ) (lost : List Bool) (i n : ℕ) → ((b : ℕ) → b < n → is_unsure geometry image lost i b ≡ false)
    → are_sure geometry image lost i n ≡ true
unfolding are_sure
sure_all geometry image lost i zero each = refl
sure_all geometry image lost i (suc n) each =
    ap (λ u. not u && are_sure geometry image lost i n) (each n (omega arith))
    ∙ sure_all geometry image lost i n (λ b low. each b (omega (arith, low)))

-- not all can be trusted if one can't
sure_not : (geometry : Geometry) (image : List ℕ) (lost : List Bool) (i n b : ℕ) → b < n → is_unsure geometry image lost i b ≡ true
    → are_sure geometry image lost i n ≡ false
unfolding are_sure
sure_not geometry image lost i zero b low unsure = absurd (omega (arith, low))
sure_not geometry image lost i (suc n) b low unsure = elim (cases_eq b n) [
  | inl same ↦ ap (λ u. not u && are_sure geometry image lost i n) (ap (is_unsure geometry image lost i) (sym same) ∙ unsure)
  | inr other ↦ ap (λ t. not (is_unsure geometry image lost i n) && t) (sure_not geometry image lost i n b (omega (arith, low, other)) unsure)
      ∙ and_false (not (is_unsure geometry image lost i n))
]

-- all can be trusted exactly if none is found that can't
pub sure_flag : (geometry : Geometry) (image : List ℕ) (lost : List Bool) (i end b : ℕ) → IsNext geometry image lost i true 0 end b
    → nat_eq b end ≡ are_sure geometry image lost i end
sure_flag geometry image lost i end b next = elim (cases_eq b end) [
  | inl same ↦ eq-eqb b end same ∙ sym (sure_all geometry image lost i end (λ c low. next.before c (omega arith) (omega (arith, same, low))))
  | inr other ↦
      let low : b < end = omega (arith, other, next.within) in
      ne_eqb b end other ∙ sym (sure_not geometry image lost i end b low (next.here low))
]

-- each can be trusted if all can
sure_each : (geometry : Geometry) (image : List ℕ) (lost : List Bool) (i n b : ℕ) → are_sure geometry image lost i n ≡ true → b < n
    → is_unsure geometry image lost i b ≡ false
sure_each geometry image lost i n b all low = elim (is_unsure geometry image lost i b) as (λ u. is_unsure geometry image lost i b ≡ u → u ≡ false) [
  | true ↦ λ unsure. absurd (true≢false (sym all ∙ sure_not geometry image lost i n b low unsure))
  | false ↦ λ sure. refl
] refl

-- the two parts of a test for a whole file
whole_parts : (l s : Bool) → (not l && s) ≡ true → (l ≡ false) × (s ≡ true)
whole_parts true s e = absurd (true≢false (sym e))
whole_parts false s e = (refl, e)

-- a file for which the test is true is whole
pub whole_is : (geometry : Geometry) (image : List ℕ) (lost : List Bool) (i : ℕ) → is_whole geometry image lost i ≡ true → IsWhole geometry image lost i
whole_is geometry image lost i is =
    let parts = whole_parts (is_lost lost (node_block geometry.edition i)) (are_sure geometry image lost i (body_blocks geometry image i)) is in
    record {
      node = parts.0;
      blocks = λ b low.
          let up = div_ceil_times (body_size geometry image i) 512 (omega arith) in
          let inside : b < body_blocks geometry image i = omega (arith, up.0, low) in
          sure_each geometry image lost i (body_blocks geometry image i) b parts.1 inside;
    }

-- every file is whole if no block is lost
pub whole_unless : (geometry : Geometry) (image : List ℕ) (lost : List Bool) (i : ℕ) → ((k : ℕ) → is_lost lost k ≡ false) → is_whole geometry image lost i ≡ true
whole_unless geometry image lost i none =
    ap (λ l. not l && are_sure geometry image lost i (body_blocks geometry image i)) (none (node_block geometry.edition i))
    ∙ sure_all geometry image lost i (body_blocks geometry image i) (λ b low. none_unsure geometry image lost i b none)
