-- Laws of totals of weights over a list.
use Rattle.std.proofs.Common.{◌≡◌, ◌≢◌, ◌⊎◌, ℕ, zero, suc, ◌+◌, ◌<◌, ◌≤◌, List, [], ◌∷◌, ◌++◌, length, set, slice_index, sym, refl, ap, ◌∙◌, nat_lt, min, ◌*◌, replicate, ◌==◌, ◌&&◌, if◌then◌else◌, le_refl, inl, inr, arith}
use mathlib.Core.Option.{some, some-injective, some-ne-none}
use lib.ListN.{get_elem?}
use Rattle.count_table.specs.declared.rule.Mark.{Mark}
use Rattle.count_table.specs.Views.{mark}
use Rattle.count_table.specs.Sums.{total, below, past, least_at, amount_at}

module _ {A : Type 0} (weight : A → ℕ) where
  -- the total of an empty list is 0
  pub total_nil : total weight [] ≡ 0
  unfolding total
  total_nil = refl

  -- the total of `x ∷ xs` is the weight of `x` plus the total of `xs`
  pub total_cons : (x : A) (xs : List A) → total weight (x ∷ xs) ≡ weight x + total weight xs
  unfolding total
  total_cons x xs = refl

  -- the total of two joined lists is the sum of their totals
  pub total_append : (xs ys : List A) → total weight (xs ++ ys) ≡ total weight xs + total weight ys
  unfolding total
  total_append [] ys = omega arith
  total_append (x ∷ xs) ys = let h = total_append xs ys in omega arith

  -- appending an item adds its weight to the total
  pub total_push : (xs : List A) (x : A) → total weight (xs ++ x ∷ []) ≡ total weight xs + weight x
  total_push xs x = let h = total_append xs (x ∷ []) in let e = total_cons x [] in let n = total_nil in omega arith

  -- replacing item `x` by `y` changes the total by the difference of their weights
  pub total_set : (xs : List A) (i : ℕ) (x y : A) → get_elem? xs i ≡ some x → total weight (set xs i y) + weight x ≡ total weight xs + weight y
  unfolding total
  total_set [] i x y e = absurd (some-ne-none x (sym e))
  total_set (z ∷ xs) zero x y e = let s = ap weight (some-injective z x e) in omega arith
  total_set (z ∷ xs) (suc i) x y e = let h = total_set xs i x y e in omega arith

  -- the weight of an item is at most the total
  pub total_part : (xs : List A) (i : ℕ) (x : A) → get_elem? xs i ≡ some x → weight x ≤ total weight xs
  unfolding total
  total_part [] i x e = absurd (some-ne-none x (sym e))
  total_part (z ∷ xs) zero x e = let s = ap weight (some-injective z x e) in omega arith
  total_part (z ∷ xs) (suc i) x e = let h = total_part xs i x e in omega arith

  -- if all items have weight 0, the total is 0
  pub total_none : (xs : List A) → ((i : ℕ) (x : A) → get_elem? xs i ≡ some x → weight x ≡ 0) → total weight xs ≡ 0
  unfolding total
  total_none [] each = refl
  total_none (z ∷ xs) each = let h = total_none xs (λ i x e. each (suc i) x e) in let g = each 0 z refl in omega arith

-- the total of weights 1 is the length
pub total_ones : {A : Type 0} (xs : List A) → total (λ x. 1) xs ≡ length xs
unfolding total
total_ones [] = refl
total_ones (x ∷ xs) = let h = total_ones xs in omega arith

pub below_more : (weight : ℕ → ℕ) (n : ℕ) → below weight (n + 1) ≡ below weight n + weight n
unfolding below
below_more weight n = let s : n + 1 ≡ suc n = omega arith in ap (below weight) s

pub below_none : (weight : ℕ → ℕ) → below weight 0 ≡ 0
unfolding below
below_none weight = refl

pub below_ones : (n : ℕ) → below (λ k. 1) n ≡ n
unfolding below
below_ones zero = refl
below_ones (suc n) = let h = below_ones n in omega arith

-- if the weights are smaller or equal, so is their total
pub total_le : {A : Type 0} (f g : A → ℕ) (xs : List A) → ((x : A) → f x ≤ g x) → total f xs ≤ total g xs
unfolding total
total_le f g [] le = omega arith
total_le f g (x ∷ xs) le = let h = total_le f g xs le in let m = le x in omega arith

pub total_le_at : {A : Type 0} (f g : A → ℕ) (xs : List A) → ((i : ℕ) (x : A) → get_elem? xs i ≡ some x → f x ≤ g x) → total f xs ≤ total g xs
unfolding total
total_le_at f g [] le = omega arith
total_le_at f g (x ∷ xs) le = let h = total_le_at f g xs (λ i y e. le (suc i) y e) in let m = le 0 x refl in omega arith

-- a number is either at least a bound, and `past` is 1, or below it, and `past` is 0
past_cases : (bound n : ℕ) → ((bound ≤ n) × (past bound n ≡ 1)) ⊎ ((n < bound) × (past bound n ≡ 0))
past_cases bound n = grind arith

pub past_here : (bound n : ℕ) → bound ≤ n → past bound n ≡ 1
past_here bound n le = grind arith

pub past_short : (bound n : ℕ) → n < bound → past bound n ≡ 0
past_short bound n lt = grind arith

-- of the numbers below `n`, at least `n - bound` are past the bound
pub below_past : (bound n : ℕ) → n ≤ below (past bound) n + bound
unfolding below
below_past bound zero = omega arith
below_past bound (suc n) = let h = below_past bound n in elim (past_cases bound n) [
  | inl there ↦ let e = there.1 in omega arith
  | inr early ↦ let e = early.1 in let l = early.0 in omega arith
]

-- `past` is at most 1
pub past_one : (bound n : ℕ) → past bound n ≤ 1
past_one bound n = elim (past_cases bound n) [
  | inl there ↦ let e = there.1 in omega arith
  | inr early ↦ let e = early.1 in omega arith
]

-- no number below `n` is past the bound if `n` is at most the bound
pub below_early : (bound n : ℕ) → n ≤ bound → below (past bound) n ≡ 0
unfolding below
below_early bound zero le = refl
below_early bound (suc n) le = let h = below_early bound n (omega arith) in let e = past_short bound n (omega arith) in omega arith

-- word 0 is at most the bound plus the number of draws past it
pub word_bound : (bound n late : ℕ) → below (past bound) n ≤ late → n ≤ bound + late
word_bound bound n late le = let h = below_past bound n in omega arith

pub least_nil : (w : ℕ) → 18446744073709551615 ≡ least_at w []
unfolding least_at
least_nil w = refl

-- the amount of a mark for this word is its amount, and 0 for another word
pub amount_here : (w k : ℕ) → amount_at w (mark w k) ≡ k
amount_here w k = grind arith

pub amount_else : (v w k : ℕ) → w ≢ v → amount_at w (mark v k) ≡ 0
amount_else v w k ne = grind arith

-- 1 for a mark for this word with an amount below `k`, else 0
abbrev under : ℕ → ℕ → Mark → ℕ
under w k m = if (m.word == w) && nat_lt m.amount k then 1 else 0

under_cases : (w k : ℕ) (m : Mark) → ((m.word ≡ w) × (m.amount < k) × (under w k m ≡ 1)) ⊎ ((m.word ≡ w → k ≤ m.amount) × (under w k m ≡ 0))
under_cases w k m = grind arith

-- the minimum after one more mark is the smaller of the two if the mark is for this word, else unchanged
least_cases : (w : ℕ) (m : Mark) (ms : List Mark) → ((m.word ≡ w) × (least_at w (m ∷ ms) ≡ min m.amount (least_at w ms))) ⊎ ((m.word ≢ w) × (least_at w (m ∷ ms) ≡ least_at w ms))
unfolding least_at
least_cases w m ms = grind arith

least_top : (w : ℕ) (ms : List Mark) → least_at w ms ≤ 18446744073709551615
unfolding least_at
least_top w [] = omega arith
least_top w (m ∷ ms) = let h = least_top w ms in elim (least_cases w m ms) [
  | inl here ↦ let e = here.1 in omega arith
  | inr elsewhere ↦ let e = elsewhere.1 in omega arith
]

none_under : (w k : ℕ) (ms : List Mark) → k ≤ least_at w ms → total (under w k) ms ≡ 0
unfolding total
none_under w k [] le = refl
none_under w k (m ∷ ms) le = elim (least_cases w m ms) [
  | inl here ↦ let e = here.1 in let h = none_under w k ms (omega arith) in elim (under_cases w k m) [
    | inl less ↦ let l = less.1 in absurd (omega arith)
    | inr more ↦ let z = more.1 in omega arith
  ]
  | inr elsewhere ↦ let e = elsewhere.1 in let h = none_under w k ms (omega arith) in elim (under_cases w k m) [
    | inl less ↦ absurd (elsewhere.0 less.0)
    | inr more ↦ let z = more.1 in omega arith
  ]
]

under_none : (w k : ℕ) (ms : List Mark) → k ≤ 18446744073709551615 → total (under w k) ms ≡ 0 → k ≤ least_at w ms
unfolding total least_at
under_none w k [] le none = le
under_none w k (m ∷ ms) le none = let h = under_none w k ms le (omega arith) in elim (under_cases w k m) [
  | inl less ↦ let o = less.2 in absurd (omega arith)
  | inr more ↦ elim (least_cases w m ms) [
    | inl here ↦ let e = here.1 in let l = more.0 here.0 in omega arith
    | inr elsewhere ↦ let e = elsewhere.1 in omega arith
  ]
]

least_le : (w : ℕ) (xs ys : List Mark) → ((weight : Mark → ℕ) → total weight xs ≡ total weight ys) → least_at w xs ≤ least_at w ys
least_le w xs ys same =
    let k = least_at w xs in
    under_none w k ys (least_top w xs) (sym (same (under w k)) ∙ none_under w k xs (le_refl k))

-- two lists of marks with equal totals for all weights have the same minimum
pub least_same : (w : ℕ) (xs ys : List Mark) → ((weight : Mark → ℕ) → total weight xs ≡ total weight ys) → least_at w xs ≡ least_at w ys
least_same w xs ys same =
    let a = least_le w xs ys same in let b = least_le w ys xs (λ weight. sym (same weight)) in omega arith

-- the minimum after a mark for this word is the smaller of the two; a mark for another word does not change it
pub least_here : (w k : ℕ) (ms : List Mark) → least_at w (mark w k ∷ ms) ≡ min (least_at w ms) k
least_here w k ms = elim (least_cases w (mark w k) ms) [
  | inl here ↦ let e = here.1 in omega arith
  | inr elsewhere ↦ absurd (elsewhere.0 refl)
]

pub least_else : (v w k : ℕ) (ms : List Mark) → w ≢ v → least_at w (mark v k ∷ ms) ≡ least_at w ms
least_else v w k ms ne = elim (least_cases w (mark v k) ms) [
  | inl here ↦ absurd (ne (sym here.0))
  | inr elsewhere ↦ elsewhere.1
]

-- an item found in a list is the item at that index
pub read_at : (xs : List ℕ) (i x : ℕ) → get_elem? xs i ≡ some x → x ≡ slice_index xs i
read_at [] i x e = absurd (some-ne-none x (sym e))
read_at (y ∷ xs) zero x e = sym (some-injective y x e)
read_at (y ∷ xs) (suc i) x e = read_at xs i x e

-- the total of `n` equal items is `n` times the weight of one
pub total_replicate : {A : Type 0} (weight : A → ℕ) (n : ℕ) (x : A) → total weight (replicate n x) ≡ n * weight x
unfolding total
total_replicate weight zero x = grind arith
total_replicate weight (suc n) x = let h = total_replicate weight n x in let t : suc n * weight x ≡ n * weight x + weight x = grind arith in omega arith

-- `n` marks for another word do not change the minimum; for this word it is the smaller of the two if `n` is at least 1
pub least_elses : (v w k n : ℕ) (ms : List Mark) → w ≢ v → least_at w (replicate n (mark v k) ++ ms) ≡ least_at w ms
least_elses v w k zero ms ne = refl
least_elses v w k (suc n) ms ne = least_else v w k (replicate n (mark v k) ++ ms) ne ∙ least_elses v w k n ms ne

least_more : (w k n : ℕ) (ms : List Mark) → least_at w (replicate (suc n) (mark w k) ++ ms) ≡ min (least_at w ms) k
least_more w k zero ms = least_here w k ms
least_more w k (suc n) ms = let h = least_more w k n ms in let l = least_here w k (replicate (suc n) (mark w k) ++ ms) in grind arith

pub least_heres : (w k n : ℕ) (ms : List Mark) → 1 ≤ n → least_at w (replicate n (mark w k) ++ ms) ≡ min (least_at w ms) k
least_heres w k zero ms some-marks = absurd (omega arith)
least_heres w k (suc n) ms some-marks = least_more w k n ms
