-- The number of entries for an i-number in a graph, and its change when a slot changes.
use Rattle.std.proofs.Common.{◌≡◌, ◌≢◌, ◌∙◌, sym, ap, refl, ℕ, zero, suc, ◌+◌, ◌-◌, ◌/◌, ◌<◌, ◌≤◌, cond, ◌==◌, List, [], ◌∷◌, map, Option, None, Some, inl, inr, arith}
use Rattle.std.specs.List.{sum_by, range_with_len}
use Rattle.std.proofs.lemmas.Bool.{cases_eq, ne_eqb, eq-eqb}
use Rattle.std.proofs.lemmas.List.Sums.{sum_by-cons}
use Rattle.vol_judge.specs.Directories.{is_for}
use Rattle.vol_judge.specs.Graph.{Graph, IsGraphWithin, counted_in, counted}

-- sums of equal terms are equal
pub sum_same : (f g : ℕ → ℕ) (a n : ℕ) → ((x : ℕ) → a ≤ x → x < a + n → f x ≡ g x)
    → sum_by f (range_with_len a n) ≡ sum_by g (range_with_len a n)
sum_same f g a zero same = refl
sum_same f g a (suc n) same =
    let first : f a ≡ g a = same a (omega arith) (omega arith) in
    let rest = sum_same f g (a + 1) n (λ x low high. same x (omega arith) (omega arith)) in
    let split_f = sum_by-cons f a (range_with_len (a + 1) n) in
    let split_g = sum_by-cons g a (range_with_len (a + 1) n) in
    omega (arith, first, rest, split_f, split_g)

-- if only term k differs, the sums differ by the difference of these terms
pub sum_but : (f g : ℕ → ℕ) (a n k : ℕ) → a ≤ k → k < a + n → ((x : ℕ) → x ≢ k → f x ≡ g x)
    → sum_by f (range_with_len a n) + g k ≡ sum_by g (range_with_len a n) + f k
sum_but f g a zero k low high same = absurd (omega (arith, low, high))
sum_but f g a (suc n) k low high same =
    let split_f = sum_by-cons f a (range_with_len (a + 1) n) in
    let split_g = sum_by-cons g a (range_with_len (a + 1) n) in
    elim (cases_eq a k) [
      | inl here ↦
          let rest = sum_same f g (a + 1) n (λ x from to. same x (λ e. omega (arith, e, from, here))) in
          let first : f a ≡ f k = ap f here in
          let second : g a ≡ g k = ap g here in
          omega (arith, first, second, rest, split_f, split_g)
      | inr other ↦
          let rest = sum_but f g (a + 1) n k (omega (arith, low, other)) (omega (arith, high)) same in
          let first : f a ≡ g a = same a other in
          omega (arith, first, rest, split_f, split_g)
    ]

-- if only terms j and k differ, the sums differ by the differences of these terms
sum_but_two : (f g : ℕ → ℕ) (a n j k : ℕ) → j ≢ k → a ≤ j → j < a + n → a ≤ k → k < a + n
    → ((x : ℕ) → x ≢ j → x ≢ k → f x ≡ g x)
    → sum_by f (range_with_len a n) + g j + g k ≡ sum_by g (range_with_len a n) + f j + f k
sum_but_two f g a n j k apart low_j high_j low_k high_k same =
    let h : ℕ → ℕ = λ x. cond (x == j) (f x) (g x) in
    let at : h j ≡ f j = ap (λ b. cond b (f j) (g j)) (eq-eqb j j refl) in
    let away : (x : ℕ) → x ≢ j → h x ≡ g x = λ x other. ap (λ b. cond b (f x) (g x)) (ne_eqb x j other) in
    let first = sum_but f h a n k low_k high_k (λ x other. elim (cases_eq x j) [
      | inl here ↦ sym (ap (λ b. cond b (f x) (g x)) (eq-eqb x j here))
      | inr there ↦ same x there other ∙ sym (away x there)
    ]) in
    let second = sum_but h g a n j low_j high_j away in
    let beside : h k ≡ g k = away k (λ e. apart (sym e)) in
    omega (arith, at, beside, first, second)

-- 1 for a slot with an entry for i, else 0
abbrev pub one_for : ℕ → Option (List ℕ × ℕ) → ℕ
one_for i slot = cond (is_for i slot) 1 0

-- an entry for i counts 1
pub one_here : (i : ℕ) (name : List ℕ) → one_for i (Some (name, i)) ≡ 1
one_here i name = ap (λ b. cond b 1 0) (eq-eqb i i refl)

-- an entry for another i-number counts 0
pub one_else : (i j : ℕ) (name : List ℕ) → j ≢ i → one_for i (Some (name, j)) ≡ 0
one_else i j name other = ap (λ b. cond b 1 0) (ne_eqb j i other)

-- a slot without an entry for i counts 0
not_one : (i : ℕ) (slot : Option (List ℕ × ℕ)) → ((name : List ℕ) → slot ≡ Some (name, i) → ⊥) → one_for i slot ≡ 0
not_one i None none = refl
not_one i (Some entry) none = one_else i entry.1 entry.0 (λ e. none entry.0 (ap (λ n. Some (entry.0, n)) e))

-- a sum of zeros is 0
sum_zero : (a n : ℕ) → sum_by (λ x. 0) (range_with_len a n) ≡ 0
sum_zero a zero = refl
sum_zero a (suc n) =
    let rest = sum_zero (a + 1) n in
    let split = sum_by-cons (λ (x : ℕ). 0) a (range_with_len (a + 1) n) in omega (arith, rest, split)

-- the number of entries for i in the first n slots
abbrev pub count_to : (ℕ → Option (List ℕ × ℕ)) → ℕ → ℕ → ℕ
count_to entry i n = sum_by (λ s. one_for i (entry s)) (range_with_len 0 n)

-- a sum over a mapped list is a sum of composed terms
sum_map : {X : Type 0} (f : X → ℕ) (g : ℕ → X) (xs : List ℕ) → sum_by f (map g xs) ≡ sum_by (λ x. f (g x)) xs
sum_map f g [] = refl
sum_map {X} f g (x ∷ xs) =
    let rest = sum_map f g xs in
    let left = sum_by-cons {X = X} f (g x) (map g xs) in
    let right = sum_by-cons (λ y. f (g y)) x xs in
    omega (arith, rest, left, right)

-- counting more slots, all of them empty, doesn't change the sum
count_more : (entry : ℕ → Option (List ℕ × ℕ)) (i a n m k : ℕ) → n + k ≡ m → ((s : ℕ) → a + n ≤ s → entry s ≡ None)
    → sum_by (λ s. one_for i (entry s)) (range_with_len a m) ≡ sum_by (λ s. one_for i (entry s)) (range_with_len a n)
count_more entry i a zero zero k e none = refl
count_more entry i a zero (suc m) k e none =
    let rest = count_more entry i (a + 1) zero m m (omega arith) (λ s low. none s (omega (arith, low))) in
    let split = sum_by-cons (λ s. one_for i (entry s)) a (range_with_len (a + 1) m) in
    let first : one_for i (entry a) ≡ 0 = ap (one_for i) (none a (omega arith)) in
    omega (arith, rest, split, first)
count_more entry i a (suc n) zero k e none = absurd (omega (arith, e))
count_more entry i a (suc n) (suc m) k e none =
    let rest = count_more entry i (a + 1) n m k (omega (arith, e)) (λ s low. none s (omega (arith, low))) in
    let left = sum_by-cons (λ s. one_for i (entry s)) a (range_with_len (a + 1) m) in
    let right = sum_by-cons (λ s. one_for i (entry s)) a (range_with_len (a + 1) n) in
    omega (arith, rest, left, right)

-- counting the slots of d past its size doesn't change the number of entries for i in d
pub counted_to : (graph : Graph) (last i d n : ℕ) → IsGraphWithin graph last → graph.size d / 16 ≤ n → counted_in graph i d ≡ count_to (graph.entry d) i n
counted_to graph last i d n within far =
    sum_map (one_for i) (graph.entry d) (range_with_len 0 (graph.size d / 16))
    ∙ sym (count_more (graph.entry d) i 0 (graph.size d / 16) n (n - graph.size d / 16) (omega (arith, far)) (λ s low. within.slots d s (omega (arith, low))))

-- if only slot s of d changes, the number of entries for i in d changes by the entries in that slot
pub slot_changed : (old new : Graph) (last i d s : ℕ) → IsGraphWithin old last → IsGraphWithin new last
    → ((t : ℕ) → t ≢ s → new.entry d t ≡ old.entry d t)
    → counted_in new i d + one_for i (old.entry d s) ≡ counted_in old i d + one_for i (new.entry d s)
slot_changed old new last i d s before after same =
    let n = old.size d / 16 + new.size d / 16 + s + 1 in
    let left = counted_to new last i d n after (omega arith) in
    let right = counted_to old last i d n before (omega arith) in
    let change = sum_but (λ t. one_for i (new.entry d t)) (λ t. one_for i (old.entry d t)) 0 n s (omega arith) (omega arith) (λ t other. ap (one_for i) (same t other)) in
    omega (arith, left, right, change)

-- if no slot of d changes, the number of entries for i in d doesn't change
pub slots_same : (old new : Graph) (last i d : ℕ) → IsGraphWithin old last → IsGraphWithin new last
    → ((t : ℕ) → new.entry d t ≡ old.entry d t) → counted_in new i d ≡ counted_in old i d
slots_same old new last i d before after same =
    let change = slot_changed old new last i d 0 before after (λ t other. same t) in
    let first : one_for i (new.entry d 0) ≡ one_for i (old.entry d 0) = ap (one_for i) (same 0) in
    omega (arith, change, first)

-- if d has no entry for i, the number of entries for i in d is 0
pub slots_none : (graph : Graph) (i d : ℕ) → ((t : ℕ) (name : List ℕ) → graph.entry d t ≡ Some (name, i) → ⊥) → counted_in graph i d ≡ 0
slots_none graph i d none =
    sum_map (one_for i) (graph.entry d) (range_with_len 0 (graph.size d / 16))
    ∙ (sum_same (λ t. one_for i (graph.entry d t)) (λ t. 0) 0 (graph.size d / 16) (λ t low high. not_one i (graph.entry d t) (none t))
    ∙ sum_zero 0 (graph.size d / 16))

-- if d has a single entry for i, the number of entries for i in d is 1
pub slots_one : (graph : Graph) (last i d s : ℕ) (name : List ℕ) → IsGraphWithin graph last → graph.entry d s ≡ Some (name, i)
    → ((t : ℕ) (word : List ℕ) → t ≢ s → graph.entry d t ≡ Some (word, i) → ⊥) → counted_in graph i d ≡ 1
slots_one graph last i d s name within here none =
    let n = graph.size d / 16 + s + 1 in
    let all = counted_to graph last i d n within (omega arith) in
    let zeros = sum_zero 0 n in
    let alone : ℕ → ℕ = λ t. cond (t == s) 1 0 in
    let self : alone s ≡ 1 = ap (λ b. cond b 1 0) (eq-eqb s s refl) in
    let change = sum_but (λ t. one_for i (graph.entry d t)) (λ t. 0) 0 n s (omega arith) (omega arith) (λ t other. not_one i (graph.entry d t) (λ word. none t word other)) in
    let first : one_for i (graph.entry d s) ≡ 1 = ap (one_for i) here ∙ one_here i name in
    omega (arith, all, zeros, change, first)

-- if the number of entries for i changes in no directory, the total doesn't change
pub counted_same : (old new : Graph) (last i : ℕ) → ((x : ℕ) → counted_in new i x ≡ counted_in old i x) → counted new last i ≡ counted old last i
unfolding counted
counted_same old new last i same = sum_same (counted_in new i) (counted_in old i) 1 last (λ x low high. same x)

-- if no entry is for i, the total is 0
pub counted_none : (graph : Graph) (last i : ℕ) → ((d t : ℕ) (name : List ℕ) → graph.entry d t ≡ Some (name, i) → ⊥) → counted graph last i ≡ 0
unfolding counted
counted_none graph last i none =
    sum_same (counted_in graph i) (λ x. 0) 1 last (λ x low high. slots_none graph i x (none x)) ∙ sum_zero 1 last

-- if the number of entries for i changes only in directory d, the total changes by that difference
pub counted_but : (old new : Graph) (last i d : ℕ) → 1 ≤ d → d ≤ last → ((x : ℕ) → x ≢ d → counted_in new i x ≡ counted_in old i x)
    → counted new last i + counted_in old i d ≡ counted old last i + counted_in new i d
unfolding counted
counted_but old new last i d low high same = sum_but (counted_in new i) (counted_in old i) 1 last d low (omega (arith, high)) same

-- if the number of entries for i changes only in directories d and e, the total changes by these differences
pub counted_but_two : (old new : Graph) (last i d e : ℕ) → d ≢ e → 1 ≤ d → d ≤ last → 1 ≤ e → e ≤ last
    → ((x : ℕ) → x ≢ d → x ≢ e → counted_in new i x ≡ counted_in old i x)
    → counted new last i + counted_in old i d + counted_in old i e ≡ counted old last i + counted_in new i d + counted_in new i e
unfolding counted
counted_but_two old new last i d e apart low_d high_d low_e high_e same =
    sum_but_two (counted_in new i) (counted_in old i) 1 last d e apart low_d (omega (arith, high_d)) low_e (omega (arith, high_e)) same

-- a term is at most the sum
term_within : (f : ℕ → ℕ) (a n k : ℕ) → a ≤ k → k < a + n → f k ≤ sum_by f (range_with_len a n)
term_within f a n k low high =
    let rest : ℕ → ℕ = λ x. cond (x == k) 0 (f x) in
    let gone : rest k ≡ 0 = ap (λ b. cond b 0 (f k)) (eq-eqb k k refl) in
    let change = sum_but f rest a n k low high (λ x other. sym (ap (λ b. cond b 0 (f x)) (ne_eqb x k other))) in
    omega (arith, gone, change)

-- if an entry is for i, the total is at least 1
pub counted_some : (graph : Graph) (last i d s : ℕ) (name : List ℕ) → IsGraphWithin graph last → 1 ≤ d → d ≤ last
    → graph.entry d s ≡ Some (name, i) → 1 ≤ counted graph last i
unfolding counted
counted_some graph last i d s name within low high here =
    let n = graph.size d / 16 + s + 1 in
    let all = counted_to graph last i d n within (omega arith) in
    let slot = term_within (λ t. one_for i (graph.entry d t)) 0 n s (omega arith) (omega arith) in
    let first : one_for i (graph.entry d s) ≡ 1 = ap (one_for i) here ∙ one_here i name in
    let directory = term_within (counted_in graph i) 1 last d low (omega (arith, high)) in
    omega (arith, all, slot, first, directory)
