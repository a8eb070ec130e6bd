-- Rebuilding the free list, block by block.
use Rattle.std.proofs.Common.{◌≡◌, ℕ, zero, suc, ◌+◌, ◌-◌, ◌<◌, ◌≤◌, inl, inr, Bool, true, false, not, List, [], ◌∷◌, get_or, refl, ◌∙◌, arith}
use Rattle.std.specs.List.{filter, range_with_len}
use Rattle.std.proofs.lemmas.Bool.{both_ways, cases_Bool, cases_eq}
use Rattle.pdp_words.specs.Words.{SameOutside}
use Rattle.vol_layout.specs.Super.{free_head}
use Rattle.vol_layout.specs.declared.geometry.Geometry.{Geometry}
use Rattle.vol_free.specs.Stack.{IsIn, StaysBut}
use Rattle.vol_free.specs.Rebuild.{unused_from, KeepsUsed}
use Rattle.vol_free.proofs.Stacks.{head_end}
use Rattle.vol_free.proofs.Frames.{apart_blocks}

-- an unmarked block `b` is the first of the unused blocks at or after `b`
pub unused_given : (geometry : Geometry) (used : List Bool) (b c : ℕ) → b + 1 ≡ c → c ≤ geometry.zone_end → get_or used b false ≡ false
    → unused_from geometry used b ≡ b ∷ unused_from geometry used c
unfolding unused_from
unused_given geometry used b c next within clear =
    let count : geometry.zone_end - b ≡ suc (geometry.zone_end - c) = omega arith in
    rw (count, clear, next) refl

-- a marked block `b` is not one of the unused blocks at or after `b`
pub unused_kept : (geometry : Geometry) (used : List Bool) (b c : ℕ) → b + 1 ≡ c → c ≤ geometry.zone_end → get_or used b false ≡ true
    → unused_from geometry used b ≡ unused_from geometry used c
unfolding unused_from
unused_kept geometry used b c next within set =
    let count : geometry.zone_end - b ≡ suc (geometry.zone_end - c) = omega arith in
    rw (count, set, next) refl

-- no block after the data zone is unused
pub unused_end : (geometry : Geometry) (used : List Bool) (b : ℕ) → b ≡ geometry.zone_end → unused_from geometry used b ≡ []
unfolding unused_from
unused_end geometry used b end =
    let none : geometry.zone_end - b ≡ 0 = omega arith in rw none refl

-- a number that the filter keeps is in the range and unmarked
kept_in : (used : List Bool) (a n b : ℕ) → IsIn b (filter (λ k. not (get_or used k false)) (range_with_len a n))
    → (a ≤ b) × (b < a + n) × (get_or used b false ≡ false)
unfolding IsIn
kept_in used a zero b i = absurd i
kept_in used a (suc n) b i = elim (cases_Bool (get_or used a false)) [
  | inl set ↦
      let rest = kept_in used (a + 1) n b (rw set at i) in (omega (arith, rest.0), omega (arith, rest.1), rest.2)
  | inr clear ↦ elim (rw clear at i) [
    | inl first ↦ (omega arith, omega arith, rw first clear)
    | inr later ↦ let rest = kept_in used (a + 1) n b later in (omega (arith, rest.0), omega (arith, rest.1), rest.2)
  ]
]

-- each unused block at or after `b` is an unmarked block between `b` and the end of the data zone
pub unused_in : (geometry : Geometry) (used : List Bool) (b c : ℕ) → b ≤ geometry.zone_end → IsIn c (unused_from geometry used b)
    → (b ≤ c) × (c < geometry.zone_end) × (get_or used c false ≡ false)
unfolding unused_from
unused_in geometry used b c within i =
    let all = kept_in used b (geometry.zone_end - b) c i in (all.0, omega (arith, all.1), all.2)

-- the filter keeps each unmarked number of the range
kept_from : (used : List Bool) (a n b : ℕ) → a ≤ b → b < a + n → get_or used b false ≡ false
    → IsIn b (filter (λ k. not (get_or used k false)) (range_with_len a n))
unfolding IsIn
kept_from used a zero b low high clear = absurd (omega arith)
kept_from used a (suc n) b low high clear = elim (cases_eq b a) [
  | inl same ↦ let here = rw same at clear in rw here (inl same)
  | inr other ↦
      let later = kept_from used (a + 1) n b (omega arith) (omega arith) clear in
      elim (cases_Bool (get_or used a false)) [ inl set ↦ rw set later | inr free ↦ rw free (inr later) ]
]

-- each unmarked block between `b` and the end of the data zone is one of the unused blocks at or after `b`
pub in_unused : (geometry : Geometry) (used : List Bool) (b c : ℕ) → b ≤ c → c < geometry.zone_end → get_or used c false ≡ false
    → IsIn c (unused_from geometry used b)
unfolding unused_from
in_unused geometry used b c low high clear = kept_from used b (geometry.zone_end - b) c low (omega arith) clear

-- a write of the super-block's count changes nothing except the free list and unmarked data blocks
pub keeps_start : {geometry : Geometry} {used : List Bool} {old new : List ℕ} → 2 ≤ geometry.zone_start → geometry.zone_start ≤ geometry.zone_end
    → SameOutside old new (free_head geometry.edition) (free_head geometry.edition + 2) → KeepsUsed geometry used old new
keeps_start {geometry = geometry} two order s =
    let end : free_head geometry.edition + 202 ≤ 720 = head_end geometry.edition in
    record {
      len = s.len;
      below = s.below;
      between = λ k from less. s.above k (omega arith);
      marked = λ b k set low from less. s.above k (omega arith);
      above = λ k from. s.above k (omega arith);
    }

-- adding an unmarked data block to the free list changes nothing except the free list and unmarked data blocks
pub keeps_given : {geometry : Geometry} {used : List Bool} {old mid new : List ℕ} (b : ℕ) → 2 ≤ geometry.zone_start → geometry.zone_start ≤ b
    → b < geometry.zone_end → get_or used b false ≡ false → KeepsUsed geometry used old mid → StaysBut geometry mid new b 202
    → KeepsUsed geometry used old new
keeps_given {geometry = geometry} b two low high clear keeps s =
    let end : free_head geometry.edition + 202 ≤ 720 = head_end geometry.edition in
    record {
      len = s.len ∙ keeps.len;
      below = λ k less. s.below k less ∙ keeps.below k less;
      between = λ k from less. s.between k from (omega arith) ∙ keeps.between k from less;
      marked = λ c k set first from less.
          let differ : (b ≡ c → ⊥) = λ same. absurd (both_ways _ (rw same at clear) set) in
          elim (apart_blocks b c differ) [
            | inl before ↦ s.above k (omega arith) ∙ keeps.marked c k set first from less
            | inr behind ↦ s.between k (omega arith) (omega arith) ∙ keeps.marked c k set first from less
          ];
      above = λ k from. s.above k (omega arith) ∙ keeps.above k from;
    }
