-- Properties of each item of a list, of each pair, and of some item.
use Rattle.std.proofs.Common.{◌≡◌, ℕ, zero, suc, ◌<◌, ◌⊎◌, inl, inr, Bool, true, false, cond, List, [], ◌∷◌, ◌++◌, length, get_or, refl, sym, subst, arith}
use Rattle.std.specs.Prelude.{T, filter, All, AllPairs, Any}
use Rattle.std.proofs.lemmas.List.Kept.{AllPairs-cons}

-- each item of a list has a property
abbrev pub Each : {X : Type 0} → (X → Type 0) → List X → Type 0
Each P [] = T true
Each P (x ∷ xs) = P x × Each P xs

-- each item of a list is in a relation to each later one
abbrev pub Pairs : {X : Type 0} → (X → X → Type 0) → List X → Type 0
Pairs R [] = T true
Pairs R (x ∷ xs) = Each (R x) xs × Pairs R xs

pub each_map : {X : Type 0} (P Q : X → Type 0) → ((x : X) → P x → Q x) → (xs : List X) → Each P xs → Each Q xs
each_map P Q f [] h = tt
each_map P Q f (x ∷ xs) h = (f x h.0, each_map P Q f xs h.1)

pub each_append : {X : Type 0} (P : X → Type 0) (xs ys : List X) → Each P xs → Each P ys → Each P (xs ++ ys)
each_append P [] ys h k = k
each_append P (x ∷ xs) ys h k = (h.0, each_append P xs ys h.1 k)

pub pairs_append : {X : Type 0} (R : X → X → Type 0) (xs ys : List X) → Pairs R xs → Pairs R ys → Each (λ x. Each (R x) ys) xs → Pairs R (xs ++ ys)
pairs_append R [] ys h k across = k
pairs_append R (x ∷ xs) ys h k across = (each_append (R x) xs ys h.0 across.0, pairs_append R xs ys h.1 k across.1)

-- if the first item and all others have a property, all items have it
pub all_first : {X : Type 0} (P : X → Type 0) (x : X) (xs : List X) → P x → All P xs → All P (x ∷ xs)
all_first P x xs here rest zero d below = here
all_first P x xs here rest (suc k) d below = rest k d (omega arith)

-- if each item that passes a test has a property, all items that the test keeps have it
pub all_kept : {X : Type 0} (p : X → Bool) (P : X → Type 0) (xs : List X) → Each (λ x. p x ≡ true → P x) xs → All P (filter p xs)
all_kept p P [] h = λ k d below. absurd (omega arith)
all_kept p P (x ∷ xs) h =
    elim (p x) as (λ b. (b ≡ true → P x) → All P (cond b (x ∷ filter p xs) (filter p xs))) [
      | true ↦ λ here. all_first P x (filter p xs) (here refl) (all_kept p P xs h.1)
      | false ↦ λ here. all_kept p P xs h.1
    ] h.0

-- if each two items that pass a test are in a relation, so are all pairs that the test keeps
pub all_pairs_kept : {X : Type 0} (p : X → Bool) (R : X → X → Type 0) (xs : List X) → Pairs (λ x y. p x ≡ true → p y ≡ true → R x y) xs
    → AllPairs R (filter p xs)
all_pairs_kept p R [] h = λ i j d lt below. absurd (omega arith)
all_pairs_kept p R (x ∷ xs) h =
    elim (p x) as (λ b. (b ≡ true → Each (λ y. p y ≡ true → R x y) xs) → AllPairs R (cond b (x ∷ filter p xs) (filter p xs))) [
      | true ↦ λ here. AllPairs-cons R x (filter p xs) (all_kept p (R x) xs (here refl)) (all_pairs_kept p R xs h.1)
      | false ↦ λ here. all_pairs_kept p R xs h.1
    ] (λ e. each_map (λ y. p x ≡ true → p y ≡ true → R x y) (λ y. p y ≡ true → R x y) (λ y r. r e) xs h.0)

-- if each item has two properties, each item has both
pub each_both : {X : Type 0} (P Q : X → Type 0) (xs : List X) → Each P xs → Each Q xs → Each (λ x. P x × Q x) xs
each_both P Q [] h k = tt
each_both P Q (x ∷ xs) h k = ((h.0, k.0), each_both P Q xs h.1 k.1)

-- `Each` implies `All`
pub each_all : {X : Type 0} (P : X → Type 0) (xs : List X) → Each P xs → All P xs
each_all P [] h = λ k d within. absurd (omega arith)
each_all P (x ∷ xs) h = all_first P x xs h.0 (each_all P xs h.1)

-- if each item of `xs ++ ys` has a property, each item of `xs` has it
pub each_front : {X : Type 0} (P : X → Type 0) (xs ys : List X) → Each P (xs ++ ys) → Each P xs
each_front P [] ys h = tt
each_front P (x ∷ xs) ys h = (h.0, each_front P xs ys h.1)

-- if each item of `xs ++ ys` has a property, each item of `ys` has it
pub each_back : {X : Type 0} (P : X → Type 0) (xs ys : List X) → Each P (xs ++ ys) → Each P ys
each_back P [] ys h = h
each_back P (x ∷ xs) ys h = each_back P xs ys h.1

-- some item of a list has a property
abbrev pub Has : {X : Type 0} → (X → Type 0) → List X → Type 0
Has P [] = ⊥
Has P (x ∷ xs) = P x ⊎ Has P xs

pub has_map : {X : Type 0} (P Q : X → Type 0) → ((x : X) → P x → Q x) → (xs : List X) → Has P xs → Has Q xs
has_map P Q f [] h = absurd h
has_map P Q f (x ∷ xs) (inl p) = inl (f x p)
has_map P Q f (x ∷ xs) (inr h) = inr (has_map P Q f xs h)

pub has_behind : {X : Type 0} (P : X → Type 0) (xs ys : List X) → Has P ys → Has P (xs ++ ys)
has_behind P [] ys h = h
has_behind P (x ∷ xs) ys h = inr (has_behind P xs ys h)

pub has_front : {X : Type 0} (P : X → Type 0) (xs ys : List X) → Has P xs → Has P (xs ++ ys)
has_front P [] ys h = absurd h
has_front P (x ∷ xs) ys (inl p) = inl p
has_front P (x ∷ xs) ys (inr h) = inr (has_front P xs ys h)

-- if some item of `xs ++ ys` has a property, an item of `xs` or of `ys` has it
pub has_either : {X : Type 0} (P : X → Type 0) (xs ys : List X) → Has P (xs ++ ys) → Has P xs ⊎ Has P ys
has_either P [] ys h = inr h
has_either P (x ∷ xs) ys (inl p) = inl (inl p)
has_either P (x ∷ xs) ys (inr h) = elim (has_either P xs ys h) [ inl here ↦ inl (inr here) | inr later ↦ inr later ]

pub has_any : {X : Type 0} (P : X → Type 0) (xs : List X) → Has P xs → Any P xs
has_any P [] h = absurd h
has_any P (x ∷ xs) (inl p) = (0, x, omega arith, refl, p)
has_any P (x ∷ xs) (inr h) = let rest = has_any P xs h in (suc rest.0, rest.1, omega (arith, rest.2), rest.3, rest.4)

-- if the item at index `k` has a property, some item has it
pub has_at : {X : Type 0} (P : X → Type 0) (xs : List X) (k : ℕ) (d : X) → k < length xs → P (get_or xs k d) → Has P xs
has_at P [] k d within p = absurd (omega arith)
has_at P (x ∷ xs) zero d within p = inl p
has_at P (x ∷ xs) (suc k) d within p = inr (has_at P xs k d (omega arith) p)

-- if some item has `P` and each item has `Q`, an item has both
pub has_each : {X : Type 0} (P Q : X → Type 0) (R : Type 0) → ((x : X) → P x → Q x → R) → (xs : List X) → Has P xs → Each Q xs → R
has_each P Q R f [] h k = absurd h
has_each P Q R f (x ∷ xs) (inl p) k = f x p k.0
has_each P Q R f (x ∷ xs) (inr h) k = has_each P Q R f xs h k.1

-- if some item that passes a test has a property, so does an item that the test keeps
pub has_kept : {X : Type 0} (p : X → Bool) (P : X → Type 0) (xs : List X) → Has (λ x. (p x ≡ true) × P x) xs → Has P (filter p xs)
has_kept p P [] h = absurd h
has_kept p P (x ∷ xs) (inl here) = subst (λ b. Has P (cond b (x ∷ filter p xs) (filter p xs))) (sym here.0) (inl here.1)
has_kept p P (x ∷ xs) (inr h) =
    elim (p x) as (λ b. Has P (cond b (x ∷ filter p xs) (filter p xs))) [
      | true ↦ inr (has_kept p P xs h)
      | false ↦ has_kept p P xs h
    ]

-- `All` implies `Each`
pub each_of_all : {X : Type 0} (P : X → Type 0) (xs : List X) → All P xs → Each P xs
each_of_all P [] h = tt
each_of_all P (x ∷ xs) h = (h 0 x (omega arith), each_of_all P xs (λ k d within. h (suc k) d (omega arith)))

pub any_has : {X : Type 0} (P : X → Type 0) (xs : List X) → Any P xs → Has P xs
any_has P xs h = has_at P xs h.0 h.1 h.2 (subst P (sym h.3) h.4)

-- if some item has `P` and each item has `Q`, some item has both
pub has_both : {X : Type 0} (P Q : X → Type 0) (xs : List X) → Has P xs → Each Q xs → Has (λ x. P x × Q x) xs
has_both P Q [] h k = absurd h
has_both P Q (x ∷ xs) (inl p) k = inl (p, k.0)
has_both P Q (x ∷ xs) (inr h) k = inr (has_both P Q xs h k.1)
