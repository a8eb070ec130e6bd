-- Laws of the positions in the block map on the path to a position.
use Rattle.std.proofs.Common.{◌≡◌, ℕ, ◌+◌, ◌<◌, ◌≤◌, ◌⊎◌, ◌∙◌, sym, ap, subst, List, [], ◌∷◌, length, refl, arith, inl, inr}
use Rattle.std.proofs.lemmas.Bool.{cases_lt, cases_eq}
use Rattle.vol_layout.specs.Geometry.{in_zone, Fits}
use Rattle.vol_layout.specs.Laws.{IsFront}
use Rattle.vol_layout.specs.BlockPointers.{named}
use Rattle.vol_layout.specs.declared.geometry.Geometry.{Geometry}
use Rattle.vol_layout.proofs.NameLaws.{zero_out, named_past}
use Rattle.vol_layout.proofs.PlaceLaws.{front_above}
use Rattle.vol_file.specs.Clears.{IsUnder}

-- a position in the block map on the path to `p` has at most as many indexes as `p`
pub front_length : (p q : List ℕ) → IsFront q p → length q ≤ length p
front_length [] q front = absurd front
front_length (h ∷ p) q (inl e) = rw e (omega arith)
front_length (h ∷ p) q (inr front) = let less : length q ≤ length p = front_length p q front in omega arith

-- a position in the block map below `p` is not on the path to `p`
pub front_longer : (j : ℕ) (p : List ℕ) → IsFront (j ∷ p) p → ⊥
front_longer j p front = let less : length (j ∷ p) ≤ length p = front_length p (j ∷ p) front in omega arith

-- two lists are equal or not
pub same_or : (p q : List ℕ) → (p ≡ q) ⊎ (p ≡ q → ⊥)
same_or [] [] = inl refl
same_or [] (b ∷ q) = inr (λ e. cc)
same_or (a ∷ p) [] = inr (λ e. cc)
same_or (a ∷ p) (b ∷ q) =
    elim (cases_eq a b) [
      | inl e ↦ elim (same_or p q) [ inl f ↦ inl (cc) | inr differ ↦ inr (λ whole. let tail : p ≡ q = cc in differ tail) ]
      | inr differ ↦ inr (λ whole. let head : a ≡ b = cc in differ head)
    ]

-- a position in the block map is on the path to another or not
pub front_or : (q p : List ℕ) → IsFront q p ⊎ (IsFront q p → ⊥)
front_or q [] = inr (λ front. front)
front_or q (j ∷ p) =
    elim (same_or q (j ∷ p)) [
      | inl e ↦ inl (inl e)
      | inr differ ↦ elim (front_or q p) [
        | inl front ↦ inl (inr front)
        | inr none ↦ inr (λ h. elim h [ inl e ↦ differ e | inr front ↦ none front ])
      ]
    ]

-- two entries of the same block on the path to a position in the block map are the same entry
pub fronts_same : (p r : List ℕ) (x j : ℕ) → IsFront (x ∷ p) r → IsFront (j ∷ p) r → x ≡ j
fronts_same p [] x j f g = absurd f
fronts_same p (h ∷ r) x j (inl e) (inl f) = let whole : x ∷ p ≡ j ∷ p = e ∙ sym f in cc
fronts_same p (h ∷ r) x j (inl e) (inr g) =
    let tail : r ≡ p = cc in absurd (front_longer j p (subst (IsFront (j ∷ p)) tail g))
fronts_same p (h ∷ r) x j (inr f) (inl e) =
    let tail : r ≡ p = cc in absurd (front_longer x p (subst (IsFront (x ∷ p)) tail f))
fronts_same p (h ∷ r) x j (inr f) (inr g) = fronts_same p r x j f g

-- if `q` is on the path to `p`, `p` is `q` itself or below `q`
pub front_under : (q p : List ℕ) → IsFront q p → (p ≡ q) ⊎ IsUnder q 0 p
front_under q [] front = absurd front
front_under q (j ∷ p) (inl e) = inl (sym e)
front_under q (j ∷ p) (inr front) =
    elim (front_under q p front) [
      | inl e ↦ inr (record { index = j; from = omega arith; front = inl (ap (λ t. j ∷ t) (sym e)) })
      | inr under ↦ inr (record { index = under.index; from = omega arith; front = inr under.front })
    ]

-- if `q` is below `a ∷ p`, then `a ∷ p` is on the path to `q`
pub under_front : (a j : ℕ) (p q : List ℕ) → IsUnder (a ∷ p) j q → IsFront (a ∷ p) q
under_front a j p q under = front_above q p under.index a under.front

-- no position in the block map is below itself
pub under_longer : (p : List ℕ) (j : ℕ) → IsUnder p j p → ⊥
under_longer p j under = front_longer under.index p under.front

-- an entry is not below a later entry
pub under_later : (p : List ℕ) (j k : ℕ) → j < k → IsUnder p k (j ∷ p) → ⊥
under_later p j k less under = elim under.front [
  | inl e ↦ let same : under.index ≡ j = cc in let from : k ≤ under.index = under.from in omega arith
  | inr front ↦ front_longer under.index p front
]

-- a position in the block map at or below an entry is not below a later entry
pub under_apart : (p q : List ℕ) (j k : ℕ) → j < k → IsFront (j ∷ p) q → IsUnder p k q → ⊥
under_apart p q j k less front under =
    let same : under.index ≡ j = fronts_same p q under.index j under.front front in
    let from : k ≤ under.index = under.from in omega arith

-- a position in the block map below entry `k` or later is below entry `j` or later if `j` is at most `k`
pub under_more : (p q : List ℕ) (j k : ℕ) → j ≤ k → IsUnder p k q → IsUnder p j q
under_more p q j k less under =
    let from : k ≤ under.index = under.from in record { index = under.index; from = omega arith; front = under.front }

-- a position in the block map at or below entry `j` is below entry `j` or later
pub under_here : (p q : List ℕ) (j : ℕ) → IsFront (j ∷ p) q → IsUnder p j q
under_here p q j front = record { index = j; from = omega arith; front = front }

-- a position in the block map below entry `j` or later is at or below entry `j`, or below entry `j + 1` or later
pub under_split : (p q : List ℕ) (j k : ℕ) → k ≡ j + 1 → IsUnder p j q → IsUnder p k q ⊎ IsFront (j ∷ p) q
under_split p q j k next under =
    let from : j ≤ under.index = under.from in
    elim (cases_lt j under.index) [
      | inl less ↦ inl (record { index = under.index; from = omega arith; front = under.front })
      | inr more ↦ let same : under.index ≡ j = omega arith in inr (subst (λ x. IsFront (x ∷ p) q) same under.front)
    ]

-- no position in the block map below a position that points to no block points to a block
pub front_zero : (geometry : Geometry) (image : List ℕ) (i : ℕ) (q p : List ℕ) → Fits geometry image → named geometry image i q ≡ 0
    → IsFront q p → named geometry image i p ≡ 0
front_zero geometry image i q [] fits none front = refl
front_zero geometry image i q (j ∷ p) fits none (inl e) = subst (λ r. named geometry image i r ≡ 0) e none
front_zero geometry image i q (j ∷ p) fits none (inr front) =
    named_past geometry image i j p q fits front (ap (in_zone geometry) none ∙ zero_out geometry image fits)
