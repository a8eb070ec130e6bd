-- Laws of `find`: the first item of a list, or of the lists of a range, that passes a test.
use Rattle.std.proofs.Common.{◌≡◌, ℕ, zero, suc, ◌+◌, ◌-◌, ◌<◌, ◌≤◌, ◌∙◌, sym, ap, subst, Bool, true, false, cond, inl, inr, List, ◌∷◌, ◌++◌, Option, None, Some, refl, arith}
use Rattle.std.proofs.lemmas.Bool.{cases_eq, cases_Bool}
use Rattle.std.proofs.lemmas.Option.{none-some}
use Rattle.std.proofs.lemmas.List.Folds.{find-append}
use Rattle.std.specs.List.{find, flat_map, range_with_len}
use Rattle.std.specs.Option.{option_or}
use Rattle.vol_judge.proofs.MarkLists.{flat_more}

-- if the first item passes the test, it is found
pub find_here : (p : ℕ → Bool) (x : ℕ) (xs : List ℕ) → p x ≡ true → find p (x ∷ xs) ≡ Some x
find_here p x xs passes = ap (λ t. cond t (Some x) (find p xs)) passes

-- if the first item doesn't pass the test, the search continues with the rest
pub find_past : (p : ℕ → Bool) (x : ℕ) (xs : List ℕ) → p x ≡ false → find p (x ∷ xs) ≡ find p xs
find_past p x xs fails = ap (λ t. cond t (Some x) (find p xs)) fails

-- if nothing is found, the first item doesn't pass the test, and nothing is found in the rest
pub find_none : (p : ℕ → Bool) (x : ℕ) (xs : List ℕ) → find p (x ∷ xs) ≡ None → (p x ≡ false) × (find p xs ≡ None)
find_none p x xs none = elim (cases_Bool (p x)) [
  | inl passes ↦ absurd (none-some x (sym none ∙ find_here p x xs passes))
  | inr fails ↦ (fails, sym (find_past p x xs fails) ∙ none)
]

-- if nothing is found in the first list, the second list is searched
pub find_second : (p : ℕ → Bool) (xs ys : List ℕ) → find p xs ≡ None → find p (xs ++ ys) ≡ find p ys
find_second p xs ys none = find-append p xs ys ∙ ap (λ o. option_or o (find p ys)) none

-- an item found in the first list is the result for both lists
pub find_first : (p : ℕ → Bool) (xs ys : List ℕ) (x : ℕ) → find p xs ≡ Some x → find p (xs ++ ys) ≡ Some x
find_first p xs ys x some = find-append p xs ys ∙ ap (λ o. option_or o (find p ys)) some

-- if nothing is found in two joined lists, nothing is found in either
pub find_neither : (p : ℕ → Bool) (xs ys : List ℕ) → find p (xs ++ ys) ≡ None → (find p xs ≡ None) × (find p ys ≡ None)
find_neither p xs ys none =
    elim (find p xs) as (λ o. find p xs ≡ o → (find p xs ≡ None) × (find p ys ≡ None)) [
      | None ↦ λ e. (e, sym (find_second p xs ys e) ∙ none)
      | Some x ↦ λ e. absurd (none-some x (sym none ∙ find_first p xs ys x e))
    ] refl

-- if nothing is found in the lists of n numbers, the result for n + 1 numbers is that for the last list
pub find_more : (p : ℕ → Bool) (f : ℕ → List ℕ) (a n j m : ℕ) (end : Option ℕ) → a + n ≡ j → m ≡ n + 1
    → find p (flat_map f (range_with_len a n)) ≡ None → find p (f j) ≡ end → find p (flat_map f (range_with_len a m)) ≡ end
find_more p f a n j m end at size none last =
    ap (find p) (flat_more f a n m j size at) ∙ (find_second p (flat_map f (range_with_len a n)) (f j) none ∙ last)

-- an item found in the lists of a range is the result for a longer range too
find_longer : (p : ℕ → Bool) (f : ℕ → List ℕ) (a n d x : ℕ) → find p (flat_map f (range_with_len a n)) ≡ Some x
    → find p (flat_map f (range_with_len a (n + d))) ≡ Some x
find_longer p f a n zero x some = let size : n + 0 ≡ n = omega arith in ap (λ m. find p (flat_map f (range_with_len a m))) size ∙ some
find_longer p f a n (suc d) x some =
    ap (find p) (flat_more f a (n + d) (n + suc d) (a + (n + d)) (omega arith) refl)
    ∙ find_first p (flat_map f (range_with_len a (n + d))) (f (a + (n + d))) x (find_longer p f a n d x some)

-- an item found in one list, and in none before it, is the result for the whole range
pub find_stops : (p : ℕ → Bool) (f : ℕ → List ℕ) (a n j count x : ℕ) → a + n ≡ j → n < count
    → find p (flat_map f (range_with_len a n)) ≡ None → find p (f j) ≡ Some x → find p (flat_map f (range_with_len a count)) ≡ Some x
find_stops p f a n j count x at less none some =
    let size : n + 1 + (count - (n + 1)) ≡ count = omega arith in
    ap (λ m. find p (flat_map f (range_with_len a m))) (sym size)
    ∙ find_longer p f a (n + 1) (count - (n + 1)) x (find_more p f a n j (n + 1) (Some x) at refl none some)

-- if nothing is found in the lists of a range, nothing is found in each list
pub find_each : (p : ℕ → Bool) (f : ℕ → List ℕ) (a n : ℕ) → find p (flat_map f (range_with_len a n)) ≡ None
    → (j : ℕ) → a ≤ j → j < a + n → find p (f j) ≡ None
find_each p f a zero none j low high = absurd (omega arith)
find_each p f a (suc n) none j low high =
    let parts = find_neither p (f a) (flat_map f (range_with_len (a + 1) n)) none in
    elim (cases_eq a j) [
      | inl same ↦ subst (λ x. find p (f x) ≡ None) same parts.0
      | inr other ↦ find_each p f (a + 1) n parts.1 j (omega arith) (omega arith)
    ]

-- if nothing is found in each list, nothing is found in the lists of the range
pub find_flat : (p : ℕ → Bool) (f : ℕ → List ℕ) (a n : ℕ) → ((j : ℕ) → a ≤ j → j < a + n → find p (f j) ≡ None)
    → find p (flat_map f (range_with_len a n)) ≡ None
find_flat p f a zero each = refl
find_flat p f a (suc n) each =
    find_second p (f a) (flat_map f (range_with_len (a + 1) n)) (each a (omega arith) (omega arith))
    ∙ find_flat p f (a + 1) n (λ j low high. each j (omega arith) (omega arith))
