-- Laws of the list of all positions in a block map: it contains each position once, and nothing else.
use Rattle.std.proofs.Common.{◌≡◌, ◌≢◌, ℕ, zero, suc, ◌+◌, ◌<◌, ◌≤◌, ◌⊎◌, ◌∙◌, sym, ap, subst, List, [], ◌∷◌, ◌++◌, length, true, false, Bool, cond, refl, arith, inl, inr}
use Rattle.std.specs.List.{count_by, sum_by, flat_map, range_with_len}
use Rattle.std.specs.Str.{bytes_eq}
use Rattle.std.proofs.lemmas.List.Sums.{sum_by-cons, sum_by-append}
use Rattle.std.proofs.lemmas.Slice.Eq.{bytes_eq-Decides}
use Rattle.vol_layout.specs.BlockMaps.{first_count, pointer_count, levels, levels_below, IsPlace, places_from, places}
use Rattle.vol_layout.specs.Laws.{IsFront}
use Rattle.vol_layout.specs.declared.block_map.BlockMap.{BlockMap}
use Rattle.vol_layout.proofs.PlaceLaws.{place_front, front_above}
use Rattle.vol_file.specs.Laws.{IsAmong}
use Rattle.vol_file.proofs.Fronts.{front_length, fronts_same}

-- equal lists pass the test `bytes_eq`
pub bytes_same : (p q : List ℕ) → p ≡ q → bytes_eq p q ≡ true
bytes_same p q e = (bytes_eq-Decides p q).1 e

-- different lists fail the test `bytes_eq`
pub other_place : (p q : List ℕ) → p ≢ q → bytes_eq p q ≡ false
other_place p q ne =
    elim (bytes_eq p q) as (λ t. bytes_eq p q ≡ t → t ≡ false)
    [ false ↦ λ e. refl | true ↦ λ e. absurd (ne ((bytes_eq-Decides p q).0 e)) ] refl

-- lists that pass the test `bytes_eq` are equal
pub same_bytes : (p q : List ℕ) → bytes_eq p q ≡ true → p ≡ q
same_bytes p q e = (bytes_eq-Decides p q).0 e

-- 1 if `q` is `p`, else 0
abbrev pub comes : List ℕ → List ℕ → ℕ
comes p q = cond (bytes_eq p q) 1 0

-- an equal position in the block map counts 1
pub comes_same : (p q : List ℕ) → p ≡ q → comes p q ≡ 1
comes_same p q e = ap (λ t. cond t 1 0) (bytes_same p q e)

-- another position in the block map counts 0
pub comes_other : (p q : List ℕ) → p ≢ q → comes p q ≡ 0
comes_other p q ne = ap (λ t. cond t 1 0) (other_place p q ne)

-- the number of occurrences in a list with one more item
pub counted_more : (p q : List ℕ) (qs : List (List ℕ)) → count_by (bytes_eq p) (q ∷ qs) ≡ comes p q + count_by (bytes_eq p) qs
counted_more p q qs = sum_by-cons (comes p) q qs

-- two tests that agree on the items of a list have the same count
pub count_among : (f g : List ℕ → Bool) (qs : List (List ℕ)) → ((p : List ℕ) → IsAmong p qs → f p ≡ g p) → count_by f qs ≡ count_by g qs
count_among f g [] same = refl
count_among f g (q ∷ qs) same =
    let rest : count_by f qs ≡ count_by g qs = count_among f g qs (λ p among. same p (inr among)) in
    let first : ◌≡◌ {A = ℕ} (cond (f q) 1 0) (cond (g q) 1 0) = ap (λ t. cond t 1 0) (same q (inl refl)) in
    let split_f : count_by f (q ∷ qs) ≡ cond (f q) 1 0 + count_by f qs = sum_by-cons (λ x. cond (f x) 1 0) q qs in
    let split_g : count_by g (q ∷ qs) ≡ cond (g q) 1 0 + count_by g qs = sum_by-cons (λ x. cond (g x) 1 0) q qs in
    omega (arith, rest, first, split_f, split_g)

-- two tests that agree everywhere have the same count
pub count_same : (s t : List ℕ → Bool) (qs : List (List ℕ)) → ((q : List ℕ) → s q ≡ t q) → count_by s qs ≡ count_by t qs
count_same s t qs h = count_among s t qs (λ q among. h q)

-- a test that nothing passes has the count 0
pub count_none : (t : List ℕ → Bool) (qs : List (List ℕ)) → ((q : List ℕ) → t q ≡ false) → count_by t qs ≡ 0
count_none t [] h = refl
count_none t (q ∷ qs) h =
    let here : ◌≡◌ {A = ℕ} (cond (t q) 1 0) 0 = ap (λ x. cond x 1 0) (h q) in
    let rest : count_by t qs ≡ 0 = count_none t qs h in
    let split : count_by t (q ∷ qs) ≡ cond (t q) 1 0 + count_by t qs = sum_by-cons (λ x. cond (t x) 1 0) q qs in
    omega (arith, here, rest, split)

-- an item of two joined lists is in one of them
pub among_append : (p : List ℕ) (qs rs : List (List ℕ)) → IsAmong p (qs ++ rs) → IsAmong p qs ⊎ IsAmong p rs
among_append p [] rs h = inr h
among_append p (q ∷ qs) rs (inl e) = inl (inl e)
among_append p (q ∷ qs) rs (inr h) = elim (among_append p qs rs h) [ inl l ↦ inl (inr l) | inr r ↦ inr r ]

-- an item of the joined lists `f j` is in one of the lists
pub among_flat : (f : ℕ → List (List ℕ)) (p : List ℕ) (a n : ℕ) → IsAmong p (flat_map f (range_with_len a n))
    → (j : ℕ) × (a ≤ j) × (j < a + n) × IsAmong p (f j)
among_flat f p a zero h = absurd h
among_flat f p a (suc n) h =
    elim (among_append p (f a) (flat_map f (range_with_len (a + 1) n)) h) [
      | inl here ↦ (a, omega arith, omega arith, here)
      | inr later ↦
          let found = among_flat f p (a + 1) n later in
          (found.0, omega (arith, found.1), omega (arith, found.2), found.3)
    ]

-- a position in the block map that is counted at least once is in the list
pub among_counted : (p : List ℕ) (qs : List (List ℕ)) → 1 ≤ count_by (bytes_eq p) qs → IsAmong p qs
among_counted p [] h = absurd (omega arith)
among_counted p (q ∷ qs) h =
    elim (bytes_eq p q) as (λ t. bytes_eq p q ≡ t → IsAmong p (q ∷ qs)) [
      | true ↦ λ e. inl ((bytes_eq-Decides p q).0 e)
      | false ↦ λ e.
          let none : comes p q ≡ 0 = ap (λ t. cond t 1 0) e in
          inr (among_counted p qs (omega (arith, h, counted_more p q qs, none)))
    ] refl

-- a position in the block map that isn't in the list is counted 0 times
pub counted_none : (p : List ℕ) (qs : List (List ℕ)) → (IsAmong p qs → ⊥) → count_by (bytes_eq p) qs ≡ 0
counted_none p qs h =
    elim (count_by (bytes_eq p) qs) as (λ n. count_by (bytes_eq p) qs ≡ n → n ≡ 0)
    [ zero ↦ λ e. refl | suc n ↦ λ e. absurd (h (among_counted p qs (omega (arith, e)))) ] refl

-- the count over joined lists is the sum of the counts
pub counted_flat : (t : List ℕ → Bool) (f : ℕ → List (List ℕ)) (js : List ℕ)
    → count_by t (flat_map f js) ≡ sum_by (λ j. count_by t (f j)) js
counted_flat t f [] = refl
counted_flat t f (j ∷ js) =
    sum_by-append (λ x. cond (t x) 1 0) (f j) (flat_map f js)
    ∙ (ap (λ n. count_by t (f j) + n) (counted_flat t f js) ∙ sym (sum_by-cons (λ k. count_by t (f k)) j js))

-- a sum of zeros is 0
pub sum_none : (f : ℕ → ℕ) (a n : ℕ) → ((j : ℕ) → a ≤ j → j < a + n → f j ≡ 0) → sum_by f (range_with_len a n) ≡ 0
sum_none f a zero h = refl
sum_none f a (suc n) h =
    let here : f a ≡ 0 = h a (omega arith) (omega arith) in
    let rest : sum_by f (range_with_len (a + 1) n) ≡ 0 = sum_none f (a + 1) n (λ j l u. h j (omega arith) (omega arith)) in
    sum_by-cons f a (range_with_len (a + 1) n) ∙ omega (arith, here, rest)

-- a number at least `a` is `a`, or at least `a + 1`
pub first_or_later : (a j : ℕ) → a ≤ j → (a ≡ j) ⊎ (a + 1 ≤ j)
first_or_later a j h = grind arith

-- a sum in which one term is 1 and the others are 0 is 1
pub sum_one : (f : ℕ → ℕ) (a n j : ℕ) → a ≤ j → j < a + n → f j ≡ 1 → ((k : ℕ) → k ≢ j → f k ≡ 0) → sum_by f (range_with_len a n) ≡ 1
sum_one f a zero j low high one none = absurd (omega arith)
sum_one f a (suc n) j low high one none =
    let step : sum_by f (range_with_len a (suc n)) ≡ f a + sum_by f (range_with_len (a + 1) n) = sum_by-cons f a (range_with_len (a + 1) n) in
    elim (first_or_later a j low) [
      | inl here ↦
          let now : f a ≡ 1 = ap f here ∙ one in
          let rest : sum_by f (range_with_len (a + 1) n) ≡ 0 = sum_none f (a + 1) n (λ k l u. none k (λ e. omega arith)) in
          step ∙ omega (arith, now, rest)
      | inr later ↦
          let now : f a ≡ 0 = none a (λ e. omega arith) in
          let rest : sum_by f (range_with_len (a + 1) n) ≡ 1 = sum_one f (a + 1) n j later (omega arith) one none in
          step ∙ omega (arith, now, rest)
    ]

-- if `p` is on the path to `q`, then `q` is `p`, or an entry below `p` is on the path to `q`
pub front_next : (p q : List ℕ) → IsFront p q → (q ≡ p) ⊎ ((j : ℕ) × IsFront (j ∷ p) q)
front_next p [] front = absurd front
front_next p (h ∷ q) (inl e) = inl (sym e)
front_next p (h ∷ q) (inr deeper) =
    elim (front_next p q deeper) [
      | inl e ↦ inr (h, inl (ap (λ x. h ∷ x) (sym e)))
      | inr (j, front) ↦ inr (j, inr front)
    ]

-- each item of `places_from` is at or below the position in the block map with which the list starts
pub from_front : (n j : ℕ) (p : List ℕ) (d : ℕ) (q : List ℕ) → IsAmong q (places_from n (j ∷ p) d) → IsFront (j ∷ p) q
from_front n j p zero q (inl e) = subst (IsFront (j ∷ p)) (sym e) (inl refl)
from_front n j p zero q (inr none) = absurd none
from_front n j p (suc d) q (inl e) = subst (IsFront (j ∷ p)) (sym e) (inl refl)
from_front n j p (suc d) q (inr below) =
    let found = among_flat (λ k. places_from n (k ∷ (j ∷ p)) d) q 0 n below in
    front_above q p found.0 j (from_front n found.0 (j ∷ p) d q found.3)

-- each item of `places_from` is a position in the block map if the list goes no further down than the levels below its first position
pub from_place : (form : BlockMap) (j : ℕ) (p : List ℕ) (d : ℕ) (q : List ℕ) → IsPlace form (j ∷ p) → d ≤ levels_below form (j ∷ p)
    → IsAmong q (places_from (pointer_count form) (j ∷ p) d) → IsPlace form q
from_place form j p zero q place deep (inl e) = subst (IsPlace form) (sym e) place
from_place form j p zero q place deep (inr none) = absurd none
from_place form j p (suc d) q place deep (inl e) = subst (IsPlace form) (sym e) place
from_place form j p (suc d) q place deep (inr below) =
    let found = among_flat (λ k. places_from (pointer_count form) (k ∷ (j ∷ p)) d) q 0 (pointer_count form) below in
    from_place form found.0 (j ∷ p) d q (omega (arith, found.2), omega (arith, deep), place) (omega (arith, deep)) found.3

-- `places_from` contains each position in the block map at or below its first position once if it goes down all levels
pub from_once : (form : BlockMap) (j : ℕ) (p : List ℕ) (d : ℕ) (q : List ℕ) → IsPlace form q → IsFront (j ∷ p) q → d ≡ levels_below form (j ∷ p)
    → count_by (bytes_eq q) (places_from (pointer_count form) (j ∷ p) d) ≡ 1
from_once form j p zero q place front deep =
    elim (front_next (j ∷ p) q front) [
      | inl e ↦
          let now : comes q (j ∷ p) ≡ 1 = comes_same q (j ∷ p) e in
          counted_more q (j ∷ p) [] ∙ omega (arith, now)
      | inr (k, lower) ↦ let above : IsPlace form (k ∷ (j ∷ p)) = place_front form q (k ∷ (j ∷ p)) place lower in absurd (omega (arith, above.1, deep))
    ]
from_once form j p (suc d) q place front deep =
    let f : ℕ → List (List ℕ) = λ k. places_from (pointer_count form) (k ∷ (j ∷ p)) d in
    let n = pointer_count form in
    let step : count_by (bytes_eq q) (places_from n (j ∷ p) (suc d)) ≡ comes q (j ∷ p) + count_by (bytes_eq q) (flat_map f (range_with_len 0 n)) =
    counted_more q (j ∷ p) (flat_map f (range_with_len 0 n)) in
    let parts : count_by (bytes_eq q) (flat_map f (range_with_len 0 n)) ≡ sum_by (λ k. count_by (bytes_eq q) (f k)) (range_with_len 0 n) =
    counted_flat (bytes_eq q) f (range_with_len 0 n) in
    elim (front_next (j ∷ p) q front) [
      | inl e ↦
          let now : comes q (j ∷ p) ≡ 1 = comes_same q (j ∷ p) e in
          let len : length q ≡ length (j ∷ p) = ap length e in
          let rest : sum_by (λ k. count_by (bytes_eq q) (f k)) (range_with_len 0 n) ≡ 0 =
          sum_none (λ k. count_by (bytes_eq q) (f k)) 0 n
          (λ k low high. counted_none q (f k) (λ among.
          let longer : length (k ∷ (j ∷ p)) ≤ length q = front_length q (k ∷ (j ∷ p)) (from_front n k (j ∷ p) d q among) in
          omega (arith, longer, len))) in
          step ∙ omega (arith, now, parts, rest)
      | inr (k, lower) ↦
          let above : IsPlace form (k ∷ (j ∷ p)) = place_front form q (k ∷ (j ∷ p)) place lower in
          let longer : length (k ∷ (j ∷ p)) ≤ length q = front_length q (k ∷ (j ∷ p)) lower in
          let now : comes q (j ∷ p) ≡ 0 =
          comes_other q (j ∷ p) (λ e. let len : length q ≡ length (j ∷ p) = ap length e in omega (arith, longer, len)) in
          let one : sum_by (λ k. count_by (bytes_eq q) (f k)) (range_with_len 0 n) ≡ 1 =
          sum_one (λ k. count_by (bytes_eq q) (f k)) 0 n k (omega arith) (omega (arith, above.0))
          (from_once form k (j ∷ p) d q place lower (omega (arith, deep)))
          (λ m other. counted_none q (f m) (λ among. other (fronts_same (j ∷ p) q m k (from_front n m (j ∷ p) d q among) lower))) in
          step ∙ omega (arith, now, parts, one)
    ]

-- an address is on the path to each position in the block map
pub front_first : (form : BlockMap) (p : List ℕ) → IsPlace form p → (k : ℕ) × (k < first_count form) × IsFront (k ∷ []) p
front_first form [] place = absurd place
front_first form (k ∷ []) place = (k, place, inl refl)
front_first form (j ∷ (a ∷ p)) place = let found = front_first form (a ∷ p) place.2 in (found.0, found.1, inr found.2)

-- the list `places` contains each position in the block map once
pub places_once : (form : BlockMap) (p : List ℕ) → IsPlace form p → count_by (bytes_eq p) (places form) ≡ 1
unfolding places
places_once form p place =
    let f : ℕ → List (List ℕ) = λ k. places_from (pointer_count form) (k ∷ []) (levels form k) in
    let first = front_first form p place in
    counted_flat (bytes_eq p) f (range_with_len 0 (first_count form))
    ∙ sum_one (λ k. count_by (bytes_eq p) (f k)) 0 (first_count form) first.0 (omega arith) (omega (arith, first.1))
    (from_once form first.0 [] (levels form first.0) p place first.2 refl)
    (λ m other. counted_none p (f m) (λ among.
    other (fronts_same [] p m first.0 (from_front (pointer_count form) m [] (levels form m) p among) first.2)))

-- the list `places` contains each position in the block map
pub places_among : (form : BlockMap) (p : List ℕ) → IsPlace form p → IsAmong p (places form)
places_among form p place = let once : count_by (bytes_eq p) (places form) ≡ 1 = places_once form p place in among_counted p (places form) (omega (arith, once))

-- the list `places` contains only positions in the block map
pub among_places : (form : BlockMap) (p : List ℕ) → IsAmong p (places form) → IsPlace form p
unfolding places
among_places form p among =
    let found = among_flat (λ k. places_from (pointer_count form) (k ∷ []) (levels form k)) p 0 (first_count form) among in
    from_place form found.0 [] (levels form found.0) p (omega (arith, found.2)) (omega arith) found.3
