-- Sums, greatest values and facts about lists, and pairs of elements of two lists.
use Rattle.std.proofs.Common.{◌≡◌, ℕ, suc, ◌<◌, List, [], ◌∷◌, ◌++◌, length, take, drop, All, refl, ap, ◌∙◌, sym, subst, append_assoc, append-nil, arith}
use Rattle.std.proofs.lemmas.List.Elements.{All-cons, All-head, All-nil, All-tail}
use Rattle.std.proofs.lemmas.List.Sums.{sum_by-cons}
use Rattle.std.specs.Prelude.{slice_index_or, Bool, ◌+◌, cond, count_by}
use Rattle.count_table.specs.Sums.{total}
use Rattle.vol_shared.specs.Lists.{greatest}
use Rattle.vol_play.specs.Players.{InPairs}

-- the count for `x ∷ xs` is 1 or 0 for `x` plus the count for `xs`
pub counted_first : {A : Type 0} (p : A → Bool) (x : A) (xs : List A) → count_by p (x ∷ xs) ≡ cond (p x) 1 0 + count_by p xs
counted_first p x xs = sum_by-cons (λ y. cond (p y) 1 0) x xs

-- a list of length 0 is empty
pub empty_of : {A : Type 0} (xs : List A) → length xs ≡ 0 → xs ≡ []
empty_of [] none = refl
empty_of (x ∷ xs) none = absurd (omega arith)

-- if a fact holds for all elements of `xs ++ ys`, it holds for all elements of `ys`
pub all_after : {A : Type 0} (P : A → Type 0) (xs ys : List A) → All P (xs ++ ys) → All P ys
all_after P [] ys all = all
all_after P (x ∷ xs) ys all = all_after P xs ys (All-tail P x (xs ++ ys) all)

module _ {A : Type 0} (weight : A → ℕ) where
  -- if all weights are 0, the sum is 0
  pub total_none : (xs : List A) → All (λ x. weight x ≡ 0) xs → total weight xs ≡ 0
  unfolding total
  total_none [] all = refl
  total_none (x ∷ xs) all =
      let one = All-head (λ (y : A). weight y ≡ 0) x xs all in let rest = total_none xs (All-tail (λ (y : A). weight y ≡ 0) x xs all) in omega arith

  -- if all weights are 0, the greatest weight is 0
  pub greatest_none : (xs : List A) → All (λ x. weight x ≡ 0) xs → greatest weight xs ≡ 0
  unfolding greatest
  greatest_none [] all = refl
  greatest_none (x ∷ xs) all =
      let one = All-head (λ (y : A). weight y ≡ 0) x xs all in let rest = greatest_none xs (All-tail (λ (y : A). weight y ≡ 0) x xs all) in omega arith

-- if two lists have the same length and their elements at each index are related, they are related in pairs
pub pairs_at : {A : Type 0} (related : A → A → Type 0) (xs ys : List A) → length ys ≡ length xs
    → ((k : ℕ) (d : A) → k < length xs → related (slice_index_or xs k d) (slice_index_or ys k d)) → InPairs related xs ys
pairs_at related [] [] same each = tt
pairs_at related [] (y ∷ ys) same each = absurd (omega arith)
pairs_at related (x ∷ xs) [] same each = absurd (omega arith)
pairs_at related (x ∷ xs) (y ∷ ys) same each =
    (each 0 x (omega arith), pairs_at related xs ys (omega arith) (λ k d lt. each (suc k) d (omega arith)))

-- if a fact holds for all elements of `xs ++ x ∷ []`, it holds for all elements of `xs` and for `x`
pub all_pushed : {A : Type 0} (P : A → Type 0) (xs : List A) (x : A) → All P (xs ++ x ∷ []) → All P xs × P x
all_pushed P [] x all = (All-nil P, All-head P x [] all)
all_pushed P (y ∷ ys) x all =
    let rest = all_pushed P ys x (All-tail P y (ys ++ x ∷ []) all) in
    (All-cons P y ys (All-head P y (ys ++ x ∷ []) all) rest.0, rest.1)

-- overwriting a list by one of the same length results in the second list
over : {A : Type 0} (xs ys : List A) → length ys ≡ length xs → take (length xs) (ys ++ drop (length ys) xs) ≡ ys
over [] [] same = refl
over [] (y ∷ ys) same = absurd (omega arith)
over (x ∷ xs) [] same = absurd (omega arith)
over (x ∷ xs) (y ∷ ys) same = ap (λ zs. y ∷ zs) (over xs ys (omega arith))

-- overwriting a list by one of the same length `n` results in the second list
pub written_over : {A : Type 0} (xs ys : List A) (n : ℕ) → length ys ≡ length xs → n ≡ length xs → take n (ys ++ drop (length ys) xs) ≡ ys
written_over xs ys n same is = ap (λ m. take m (ys ++ drop (length ys) xs)) is ∙ over xs ys same

module _ {A B : Type 0} (related : A → B → Type 0) (whole : List A) where
  -- if one more related pair is added to the pairs so far, the remaining elements complete them as before
  pub pairs_more : (x : A) (rest : List A) (y : B) (prefix now : List B) → now ≡ prefix ++ y ∷ [] → related x y
      → ((others : List B) → InPairs related (x ∷ rest) others → InPairs related whole (prefix ++ others))
      → (others : List B) → InPairs related rest others → InPairs related whole (now ++ others)
  pairs_more x rest y prefix now now_is one given others all =
      let joined : now ++ others ≡ prefix ++ y ∷ others = ap (λ (ys : List B). ys ++ others) now_is ∙ append_assoc prefix (y ∷ []) others in
      subst (InPairs related whole) (sym joined) (given (y ∷ others) (one, all))

  -- if no element of the first list is left, the pairs so far are all pairs
  pub pairs_end : (rest : List A) (prefix : List B) → length rest ≡ 0
      → ((others : List B) → InPairs related rest others → InPairs related whole (prefix ++ others)) → InPairs related whole prefix
  pairs_end [] prefix none given = subst (InPairs related whole) (append-nil prefix) (given [] tt)
  pairs_end (x ∷ rest) prefix none given = absurd (omega arith)
