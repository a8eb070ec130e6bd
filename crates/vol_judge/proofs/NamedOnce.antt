-- Rule 7 in terms of the list of all blocks that files use.
use Rattle.std.proofs.Common.{◌≡◌, ◌≢◌, ℕ, zero, suc, ◌+◌, ◌<◌, ◌≤◌, ◌⊎◌, ◌∙◌, sym, ap, subst, List, [], ◌∷◌, ◌++◌, refl, arith, inl, inr}
use Rattle.std.proofs.lemmas.Bool.{cases_eq}
use Rattle.std.specs.List.{count_by, flat_map, range_with_len}
use Rattle.std.specs.Str.{bytes_eq}
use Rattle.vol_layout.specs.BlockPointers.{named}
use Rattle.vol_layout.specs.declared.geometry.Geometry.{Geometry}
use Rattle.vol_free.specs.Stack.{IsIn, Once}
use Rattle.vol_file.specs.Clears.{blocks_at}
use Rattle.vol_file.specs.Laws.{IsAmong}
use Rattle.vol_file.proofs.BlockLists.{at_nil, at_zero, at_some}
use Rattle.vol_file.proofs.PlaceLists.{comes_same, counted_more, first_or_later}

-- an item of two joined lists is in one of them
pub in_append : (b : ℕ) (xs ys : List ℕ) → IsIn b (xs ++ ys) → IsIn b xs ⊎ IsIn b ys
unfolding IsIn
in_append b [] ys among = inr among
in_append b (x ∷ xs) ys (inl e) = inl (inl e)
in_append b (x ∷ xs) ys (inr later) = elim (in_append b xs ys later) [ inl l ↦ inl (inr l) | inr r ↦ inr r ]

-- an item of the first list is in the joined list
pub in_left : (b : ℕ) (xs ys : List ℕ) → IsIn b xs → IsIn b (xs ++ ys)
unfolding IsIn
in_left b [] ys among = absurd among
in_left b (x ∷ xs) ys (inl e) = inl e
in_left b (x ∷ xs) ys (inr later) = inr (in_left b xs ys later)

-- an item of the second list is in the joined list
pub in_right : (b : ℕ) (xs ys : List ℕ) → IsIn b ys → IsIn b (xs ++ ys)
unfolding IsIn
in_right b [] ys among = among
in_right b (x ∷ xs) ys among = inr (in_right b xs ys among)

-- if nothing occurs twice in two joined lists, nothing occurs twice in either, and they have no item in common
once_parts : (xs ys : List ℕ) → Once (xs ++ ys) → Once xs × Once ys × ((b : ℕ) → IsIn b xs → IsIn b ys → ⊥)
unfolding IsIn Once
once_parts [] ys once = (tt, once, λ b none among. none)
once_parts (x ∷ xs) ys once =
    let rest = once_parts xs ys once.1 in (
      (λ again. once.0 (in_left x xs ys again), rest.0),
      rest.1,
      λ b left right. elim left [
        | inl e ↦ once.0 (in_right x xs ys (subst (λ y. IsIn y ys) e right))
        | inr later ↦ rest.2 b later right
      ],
    )

-- if nothing occurs twice in either of two lists, and they have no item in common, nothing occurs twice in the joined list
pub once_append : (xs ys : List ℕ) → Once xs → Once ys → ((b : ℕ) → IsIn b xs → IsIn b ys → ⊥) → Once (xs ++ ys)
unfolding IsIn Once
once_append [] ys left right apart = right
once_append (x ∷ xs) ys left right apart = (
  λ again. elim (in_append x xs ys again) [ inl l ↦ left.0 l | inr r ↦ apart x (inl refl) r ],
  once_append xs ys left.1 right (λ b l r. apart b (inr l) r),
)

-- an item in the joined lists of a range is in the list of some number of the range
pub in_flat : (f : ℕ → List ℕ) (b a n : ℕ) → IsIn b (flat_map f (range_with_len a n)) → (j : ℕ) × (a ≤ j) × (j < a + n) × IsIn b (f j)
unfolding IsIn
in_flat f b a zero among = absurd among
in_flat f b a (suc n) among =
    elim (in_append b (f a) (flat_map f (range_with_len (a + 1) n)) among) [
      | inl here ↦ (a, omega arith, omega arith, here)
      | inr later ↦
          let found = in_flat f b (a + 1) n later in
          (found.0, omega (arith, found.1), omega (arith, found.2), found.3)
    ]

-- an item in the list of a number of the range is in the joined lists
pub flat_in : (f : ℕ → List ℕ) (b a n j : ℕ) → a ≤ j → j < a + n → IsIn b (f j) → IsIn b (flat_map f (range_with_len a n))
flat_in f b a zero j low high among = absurd (omega arith)
flat_in f b a (suc n) j low high among =
    elim (first_or_later a j low) [
      | inl e ↦ in_left b (f a) (flat_map f (range_with_len (a + 1) n)) (subst (λ x. IsIn b (f x)) (sym e) among)
      | inr later ↦ in_right b (f a) (flat_map f (range_with_len (a + 1) n)) (flat_in f b (a + 1) n j later (omega arith) among)
    ]

-- if nothing occurs twice in the joined lists, nothing occurs twice in each list
pub once_each : (f : ℕ → List ℕ) (a n j : ℕ) → a ≤ j → j < a + n → Once (flat_map f (range_with_len a n)) → Once (f j)
once_each f a zero j low high once = absurd (omega arith)
once_each f a (suc n) j low high once =
    let parts = once_parts (f a) (flat_map f (range_with_len (a + 1) n)) once in
    elim (first_or_later a j low) [
      | inl e ↦ subst (λ x. Once (f x)) e parts.0
      | inr later ↦ once_each f (a + 1) n j later (omega arith) parts.1
    ]

-- if nothing occurs twice in the joined lists, no two of the lists have an item in common
pub once_same : (f : ℕ → List ℕ) (b a n j k : ℕ) → a ≤ j → j < a + n → a ≤ k → k < a + n → Once (flat_map f (range_with_len a n))
    → IsIn b (f j) → IsIn b (f k) → j ≡ k
once_same f b a zero j k low high low' high' once here there = absurd (omega arith)
once_same f b a (suc n) j k low high low' high' once here there =
    let rest = flat_map f (range_with_len (a + 1) n) in
    let parts = once_parts (f a) rest once in
    elim (first_or_later a j low) [
      | inl e ↦ elim (first_or_later a k low') [
        | inl e' ↦ sym e ∙ e'
        | inr later ↦ absurd (parts.2 b (subst (λ x. IsIn b (f x)) (sym e) here) (flat_in f b (a + 1) n k later (omega arith) there))
      ]
      | inr later ↦ elim (first_or_later a k low') [
        | inl e' ↦ absurd (parts.2 b (subst (λ x. IsIn b (f x)) (sym e') there) (flat_in f b (a + 1) n j later (omega arith) here))
        | inr later' ↦ once_same f b (a + 1) n j k later (omega arith) later' (omega arith) parts.1 here there
      ]
    ]

-- if nothing occurs twice in each list, and no two of the lists have an item in common, nothing occurs twice in the joined lists
pub once_flat : (f : ℕ → List ℕ) (a n : ℕ) → ((j : ℕ) → a ≤ j → j < a + n → Once (f j))
    → ((b j k : ℕ) → a ≤ j → j < a + n → a ≤ k → k < a + n → IsIn b (f j) → IsIn b (f k) → j ≡ k)
    → Once (flat_map f (range_with_len a n))
unfolding Once
once_flat f a zero each apart = tt
once_flat f a (suc n) each apart =
    once_append (f a) (flat_map f (range_with_len (a + 1) n)) (each a (omega arith) (omega arith))
    (once_flat f (a + 1) n (λ j low high. each j (omega arith) (omega arith))
    (λ b j k low high low' high' here there. apart b j k (omega arith) (omega arith) (omega arith) (omega arith) here there))
    (λ b here later.
    let found = in_flat f b (a + 1) n later in
    let same : a ≡ found.0 =
    apart b a found.0 (omega arith) (omega arith) (omega (arith, found.1)) (omega (arith, found.2)) here found.3 in
    omega (arith, same, found.1))

-- a block at some positions of a block map is at one of them, and isn't 0
pub in_at : (geometry : Geometry) (image : List ℕ) (i b : ℕ) (ps : List (List ℕ)) → IsIn b (blocks_at geometry image i ps)
    → (p : List ℕ) × IsAmong p ps × (named geometry image i p ≡ b) × (b ≢ 0)
unfolding IsIn
in_at geometry image i b [] among = absurd (subst (IsIn b) (at_nil geometry image i) among)
in_at geometry image i b (p ∷ ps) among =
    elim (cases_eq (named geometry image i p) 0) [
      | inl none ↦
          let found = in_at geometry image i b ps (subst (IsIn b) (at_zero geometry image i p ps none) among) in
          (found.0, inr found.1, found.2, found.3)
      | inr some ↦
          let list : IsIn b (named geometry image i p ∷ blocks_at geometry image i ps) =
          subst (IsIn b) (at_some geometry image i (named geometry image i p) p ps refl some) among in
          elim list [
            | inl e ↦ (p, inl refl, sym e, λ none. some (sym e ∙ none))
            | inr later ↦ let found = in_at geometry image i b ps later in (found.0, inr found.1, found.2, found.3)
          ]
    ]

-- an address that isn't 0, at one of some positions, is among the blocks at these positions
pub at_in : (geometry : Geometry) (image : List ℕ) (i : ℕ) (p : List ℕ) (ps : List (List ℕ)) → IsAmong p ps → named geometry image i p ≢ 0
    → IsIn (named geometry image i p) (blocks_at geometry image i ps)
unfolding IsIn
at_in geometry image i p [] among some = absurd among
at_in geometry image i p (q ∷ ps) (inl e) some =
    let there : named geometry image i q ≢ 0 = λ none. some (ap (named geometry image i) e ∙ none) in
    subst (IsIn (named geometry image i p)) (sym (at_some geometry image i (named geometry image i q) q ps refl there)) (inl (ap (named geometry image i) e))
at_in geometry image i p (q ∷ ps) (inr later) some =
    let rest = at_in geometry image i p ps later some in
    elim (cases_eq (named geometry image i q) 0) [
      | inl none ↦ subst (IsIn (named geometry image i p)) (sym (at_zero geometry image i q ps none)) rest
      | inr there ↦ subst (IsIn (named geometry image i p)) (sym (at_some geometry image i (named geometry image i q) q ps refl there)) (inr rest)
    ]

-- if no block occurs twice at some positions, no two of these positions have the same address
pub at_same_place : (geometry : Geometry) (image : List ℕ) (i : ℕ) (p q : List ℕ) (ps : List (List ℕ)) → Once (blocks_at geometry image i ps)
    → IsAmong p ps → IsAmong q ps → named geometry image i p ≢ 0 → named geometry image i p ≡ named geometry image i q → p ≡ q
unfolding Once
at_same_place geometry image i p q [] once here there some same = absurd here
at_same_place geometry image i p q (r ∷ rs) once here there some same =
    let some_q : named geometry image i q ≢ 0 = λ none. some (same ∙ none) in
    elim (cases_eq (named geometry image i r) 0) [
      | inl none ↦
          let rest : Once (blocks_at geometry image i rs) = subst Once (at_zero geometry image i r rs none) once in
          elim here [
            | inl e ↦ absurd (some (ap (named geometry image i) e ∙ none))
            | inr later ↦ elim there [
              | inl e ↦ absurd (some_q (ap (named geometry image i) e ∙ none))
              | inr later' ↦ at_same_place geometry image i p q rs rest later later' some same
            ]
          ]
      | inr first ↦
          let list : Once (named geometry image i r ∷ blocks_at geometry image i rs) =
          subst Once (at_some geometry image i (named geometry image i r) r rs refl first) once in
          elim here [
            | inl e ↦ elim there [
              | inl e' ↦ e ∙ sym e'
              | inr later ↦ absurd (list.0 (subst (λ b. IsIn b (blocks_at geometry image i rs)) (sym same ∙ ap (named geometry image i) e) (at_in geometry image i q rs later some_q)))
            ]
            | inr later ↦ elim there [
              | inl e ↦ absurd (list.0 (subst (λ b. IsIn b (blocks_at geometry image i rs)) (same ∙ ap (named geometry image i) e) (at_in geometry image i p rs later some)))
              | inr later' ↦ at_same_place geometry image i p q rs list.1 later later' some same
            ]
          ]
    ]

-- a position that is in a list occurs in it at least once
counted_among : (p : List ℕ) (qs : List (List ℕ)) → IsAmong p qs → 1 ≤ count_by (bytes_eq p) qs
counted_among p [] among = absurd among
counted_among p (q ∷ qs) (inl e) = omega (arith, counted_more p q qs, comes_same p q e)
counted_among p (q ∷ qs) (inr later) = omega (arith, counted_more p q qs, counted_among p qs later)

-- if no two of some positions have the same address, and no position is listed twice, no block occurs twice at these positions
pub once_at : (geometry : Geometry) (image : List ℕ) (i : ℕ) (ps : List (List ℕ)) → ((p : List ℕ) → IsAmong p ps → count_by (bytes_eq p) ps ≤ 1)
    → ((p q : List ℕ) → IsAmong p ps → IsAmong q ps → named geometry image i p ≢ 0 → named geometry image i p ≡ named geometry image i q → p ≡ q)
    → Once (blocks_at geometry image i ps)
unfolding Once
once_at geometry image i [] listed apart = subst Once (sym (at_nil geometry image i)) tt
once_at geometry image i (r ∷ rs) listed apart =
    let rest : Once (blocks_at geometry image i rs) =
    once_at geometry image i rs (λ p among. let all = listed p (inr among) in omega (arith, all, counted_more p r rs))
    (λ p q here there some same. apart p q (inr here) (inr there) some same) in
    elim (cases_eq (named geometry image i r) 0) [
      | inl none ↦ subst Once (sym (at_zero geometry image i r rs none)) rest
      | inr some ↦
          subst Once (sym (at_some geometry image i (named geometry image i r) r rs refl some)) (
            λ again.
                let found = in_at geometry image i (named geometry image i r) rs again in
                let same : r ≡ found.0 = apart r found.0 (inl refl) (inr found.1) some (sym found.2) in
                let later : IsAmong r rs = subst (λ x. IsAmong x rs) (sym same) found.1 in
                let one = listed r (inl refl) in
                let first = comes_same r r refl in
                omega (arith, counted_more r r rs, counted_among r rs later, one, first),
            rest,
          )
    ]
