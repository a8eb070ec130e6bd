-- Laws of prefixes, greatest elements and joined lists.
use Rattle.std.proofs.Common.{◌≡◌, ◌⊎◌, ℕ, zero, suc, ◌≤◌, List, [], ◌∷◌, ◌++◌, length, set, max, sym, refl, ap, ◌∙◌, subst, append_assoc, append-nil, length-append, inl, inr, arith, All}
use Rattle.std.specs.List.{flat_map}
use Rattle.std.proofs.lemmas.List.Elements.{All-cons, All-head, All-nil, All-tail}
use mathlib.Core.Option.{some, some-injective, some-ne-none}
use lib.ListN.{get_elem?}
use Rattle.count_table.specs.Sums.{total}
use Rattle.count_table.proofs.Totals.{total_nil, total_cons, total_append}
use Rattle.vol_shared.specs.Lists.{BeginsWith, longer, greatest}

module _ {A : Type 0} where
  pub begins_itself : (xs : List A) → BeginsWith xs xs
  begins_itself xs = ([], sym (append-nil xs))

  pub begins_same : (xs ys : List A) → xs ≡ ys → BeginsWith xs ys
  begins_same xs ys e = ([], e ∙ sym (append-nil ys))

  pub begins_on : (xs ys zs : List A) → BeginsWith zs ys → BeginsWith ys xs → BeginsWith zs xs
  begins_on xs ys zs b a = (a.0 ++ b.0, b.1 ∙ (ap (λ (l : List A). l ++ b.0) a.1 ∙ append_assoc xs a.0 b.0))

  -- of two prefixes of one list, the longer begins with the shorter
  begins_between : (xs ys zs : List A) → BeginsWith zs xs → BeginsWith zs ys → length xs ≤ length ys → BeginsWith ys xs
  begins_between [] ys zs a b le = (ys, refl)
  begins_between (x ∷ xs) [] zs a b le = absurd (omega arith)
  begins_between (x ∷ xs) (y ∷ ys) [] a b le = let e = a.1 in cc
  begins_between (x ∷ xs) (y ∷ ys) (z ∷ zs) a b le =
      let e = a.1 in let f = b.1 in
      let g : zs ≡ xs ++ a.0 = cc in let h : zs ≡ ys ++ b.0 = cc in let i : x ≡ y = cc in
      let r = begins_between xs ys zs (a.0, g) (b.0, h) (omega arith) in let k = r.1 in (r.0, cc)

  longer_cases : (xs ys : List A) → ((longer xs ys ≡ ys) × (length xs ≤ length ys)) ⊎ ((longer xs ys ≡ xs) × (length ys ≤ length xs))
  longer_cases xs ys = grind arith

  pub longer_first : (xs ys zs : List A) → BeginsWith zs xs → BeginsWith zs ys → BeginsWith (longer xs ys) xs
  longer_first xs ys zs a b = elim (longer_cases xs ys) [
    | inl second ↦ subst (λ (l : List A). BeginsWith l xs) (sym second.0) (begins_between xs ys zs a b second.1)
    | inr first ↦ subst (λ (l : List A). BeginsWith l xs) (sym first.0) (begins_itself xs)
  ]

  pub longer_second : (xs ys zs : List A) → BeginsWith zs xs → BeginsWith zs ys → BeginsWith (longer xs ys) ys
  longer_second xs ys zs a b = elim (longer_cases xs ys) [
    | inl second ↦ subst (λ (l : List A). BeginsWith l ys) (sym second.0) (begins_itself ys)
    | inr first ↦ subst (λ (l : List A). BeginsWith l ys) (sym first.0) (begins_between ys xs zs b a first.1)
  ]

  pub longer_prefix : (xs ys zs : List A) → BeginsWith zs xs → BeginsWith zs ys → BeginsWith zs (longer xs ys)
  longer_prefix xs ys zs a b = elim (longer_cases xs ys) [
    | inl second ↦ subst (λ (l : List A). BeginsWith zs l) (sym second.0) b
    | inr first ↦ subst (λ (l : List A). BeginsWith zs l) (sym first.0) a
  ]

  pub set_there : (xs : List A) (i : ℕ) (x y : A) → get_elem? xs i ≡ some x → get_elem? (set xs i y) i ≡ some y
  set_there [] i x y e = absurd (some-ne-none x (sym e))
  set_there (z ∷ xs) zero x y e = refl
  set_there (z ∷ xs) (suc i) x y e = set_there xs i x y e

module _ {A : Type 0} (weight : A → ℕ) where
  pub greatest_nil : greatest weight [] ≡ 0
  unfolding greatest
  greatest_nil = refl

  pub greatest_cons : (x : A) (xs : List A) → greatest weight (x ∷ xs) ≡ max (weight x) (greatest weight xs)
  unfolding greatest
  greatest_cons x xs = refl

  pub greatest_append : (xs ys : List A) → greatest weight (xs ++ ys) ≡ max (greatest weight xs) (greatest weight ys)
  unfolding greatest
  greatest_append [] ys = omega arith
  greatest_append (x ∷ xs) ys = let h = greatest_append xs ys in omega arith

  -- appending `x` makes the greatest weight the maximum of itself and the weight of `x`
  pub greatest_push : (xs : List A) (x : A) → greatest weight (xs ++ x ∷ []) ≡ max (greatest weight xs) (weight x)
  greatest_push xs x = let h = greatest_append xs (x ∷ []) in let c = greatest_cons x [] in let n = greatest_nil in omega arith

  -- replacing element `x` by `y`: the new greatest weight and the weight of `x` have the same maximum as the old greatest weight and the weight of
  -- `y`
  pub greatest_set : (xs : List A) (i : ℕ) (x y : A) → get_elem? xs i ≡ some x → max (greatest weight (set xs i y)) (weight x) ≡ max (greatest weight xs) (weight y)
  unfolding greatest
  greatest_set [] i x y e = absurd (some-ne-none x (sym e))
  greatest_set (z ∷ xs) zero x y e = let s = ap weight (some-injective z x e) in omega arith
  greatest_set (z ∷ xs) (suc i) x y e = let h = greatest_set xs i x y e in omega arith

  -- no element weighs more than the greatest weight
  pub greatest_part : (xs : List A) (i : ℕ) (x : A) → get_elem? xs i ≡ some x → weight x ≤ greatest weight xs
  unfolding greatest
  greatest_part [] i x e = absurd (some-ne-none x (sym e))
  greatest_part (z ∷ xs) zero x e = let s = ap weight (some-injective z x e) in omega arith
  greatest_part (z ∷ xs) (suc i) x e = let h = greatest_part xs i x e in omega arith

  -- a bound of all weights is a bound of the greatest weight
  pub greatest_all : (bound : ℕ) (xs : List A) → ((i : ℕ) (x : A) → get_elem? xs i ≡ some x → weight x ≤ bound) → greatest weight xs ≤ bound
  unfolding greatest
  greatest_all bound [] each = omega arith
  greatest_all bound (z ∷ xs) each = let h = greatest_all bound xs (λ i x e. each (suc i) x e) in let g = each 0 z refl in omega arith

module _ {A B : Type 0} (f : A → List B) where
  pub total_flat : (weight : B → ℕ) (xs : List A) → total weight (flat_map f xs) ≡ total (λ x. total weight (f x)) xs
  total_flat weight [] = let a = total_nil weight in let b = total_nil (λ (x : A). total weight (f x)) in omega arith
  total_flat weight (x ∷ xs) =
      let a = total_append weight (f x) (flat_map f xs) in let b = total_cons (λ (y : A). total weight (f y)) x xs in
      let h = total_flat weight xs in omega arith

  pub greatest_flat : (weight : B → ℕ) (xs : List A) → greatest weight (flat_map f xs) ≡ greatest (λ x. greatest weight (f x)) xs
  greatest_flat weight [] = let a = greatest_nil weight in let b = greatest_nil (λ (x : A). greatest weight (f x)) in omega arith
  greatest_flat weight (x ∷ xs) =
      let a = greatest_append weight (f x) (flat_map f xs) in let b = greatest_cons (λ (y : A). greatest weight (f y)) x xs in
      let h = greatest_flat weight xs in omega arith

module _ {A : Type 0} (P : A → Type 0) where
  -- if all elements have a property, the last one has it
  pub all_last : (xs : List A) (x : A) → All P (xs ++ x ∷ []) → P x
  all_last [] x h = h 0 x (omega arith)
  all_last (y ∷ xs) x h = all_last xs x (All-tail P y (xs ++ x ∷ []) h)

  -- if all elements of `xs ++ ys` have a property, all elements of `xs` have it
  pub all_prefix : (xs ys : List A) → All P (xs ++ ys) → All P xs
  all_prefix [] ys h = All-nil P
  all_prefix (x ∷ xs) ys h = All-cons P x xs (All-head P x (xs ++ ys) h) (all_prefix xs ys (All-tail P x (xs ++ ys) h))

  -- if all elements of `xs ++ ys` have a property, all elements of `ys` have it
  pub all_back : (xs ys : List A) → All P (xs ++ ys) → All P ys
  all_back [] ys h = h
  all_back (x ∷ xs) ys h = all_back xs ys (All-tail P x (xs ++ ys) h)

module _ {A B : Type 0} (f : A → List B) where
  pub length_flat : (xs : List A) → length (flat_map f xs) ≡ total (λ x. length (f x)) xs
  length_flat [] = sym (total_nil (λ (x : A). length (f x)))
  length_flat (x ∷ xs) =
      let a = length-append (f x) (flat_map f xs) in let c = total_cons (λ (y : A). length (f y)) x xs in let h = length_flat xs in omega arith

  pub flat_none : (xs : List A) → All (λ x. f x ≡ []) xs → flat_map f xs ≡ []
  flat_none [] h = refl
  flat_none (x ∷ xs) h =
      ap (λ (l : List B). l ++ flat_map f xs) (All-head (λ (y : A). f y ≡ []) x xs h) ∙ flat_none xs (All-tail (λ (y : A). f y ≡ []) x xs h)

  pub all_flat : (P : B → Type 0) (xs : List A) → All P (flat_map f xs) → All (λ x. All P (f x)) xs
  all_flat P [] h = All-nil (λ (x : A). All P (f x))
  all_flat P (x ∷ xs) h =
      All-cons (λ (y : A). All P (f y)) x xs (all_prefix P (f x) (flat_map f xs) h) (all_flat P xs (all_back P (f x) (flat_map f xs) h))

-- a list of length 0 is empty
pub no_length : {A : Type 0} (xs : List A) → length xs ≡ 0 → xs ≡ []
no_length [] e = refl
no_length (x ∷ xs) e = absurd (omega arith)
