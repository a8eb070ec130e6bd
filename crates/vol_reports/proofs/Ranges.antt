-- Lists and counts over ranges.
use Rattle.std.proofs.Common.{◌≡◌, ℕ, zero, suc, inl, inr, subst, length, get_or, ◌+◌, ◌<◌, ◌≤◌, Bool, true, false, cond, List, [], ◌∷◌, ◌++◌, refl, sym, ap, ◌∙◌, arith, append_assoc, append-nil}
use Rattle.std.proofs.lemmas.List.{get_or_append_left, get_or_push}
use Rattle.std.proofs.lemmas.Bool.{cases_lt}
use mir.Val.{bool_byte}
use Rattle.std.specs.List.{flat_map, range_with_len, count_by}
use Rattle.std.proofs.lemmas.List.Concat.{flat_map-append}
use Rattle.std.proofs.lemmas.List.Sums.{sum_by-append, count_by-le-length}
use Rattle.std.proofs.lemmas.List.FromFn.{length-range_with_len}
use Rattle.vol_layout.proofs.WayOrder.{range_more as range_joined}

-- a range of `m` numbers, if `m` is `n` + 1, is a range of `n` numbers followed by `j`
pub range_more : (a n m j : ℕ) → m ≡ n + 1 → a + n ≡ j → range_with_len a m ≡ range_with_len a n ++ j ∷ []
range_more a n m j e f =
    ap (range_with_len a) e ∙ (range_joined a n 1 ∙ ap (λ k. range_with_len a n ++ k ∷ []) f)

-- concatenating lists over a range of one more number appends one more list
pub flat_more : {A : Type 0} (f : ℕ → List A) (a n m j : ℕ) → m ≡ n + 1 → a + n ≡ j
    → flat_map f (range_with_len a m) ≡ flat_map f (range_with_len a n) ++ f j
flat_more f a n m j e g =
    ap (flat_map f) (range_more a n m j e g) ∙ (flat_map-append f (range_with_len a n) (j ∷ []) ∙ ap (λ xs. flat_map f (range_with_len a n) ++ xs) (append-nil (f j)))

-- a loop's step: after the list of one more number is appended, the lists of all numbers so far are appended
pub appended_more : {A : Type 0} (f : ℕ → List A) (old now new : List A) (a n m j : ℕ) → m ≡ n + 1 → a + n ≡ j
    → now ≡ old ++ flat_map f (range_with_len a n) → new ≡ now ++ f j → new ≡ old ++ flat_map f (range_with_len a m)
appended_more f old now new a n m j e g was is =
    is ∙ (ap (λ xs. xs ++ f j) was ∙ (append_assoc old (flat_map f (range_with_len a n)) (f j) ∙ ap (λ xs. old ++ xs) (sym (flat_more f a n m j e g))))

-- at most `n` numbers of a range of length `n` pass a test
pub count_few : (t : ℕ → Bool) (a n : ℕ) → count_by t (range_with_len a n) ≤ n
count_few t a n = let e = length-range_with_len a n in let h = count_by-le-length t (range_with_len a n) in omega arith

-- a first number adds 1 to a count if it passes the test
count_cons : (t : ℕ → Bool) (j : ℕ) (xs : List ℕ) → count_by t (j ∷ xs) ≡ cond (t j) 1 0 + count_by t xs
count_cons t j xs = sum_by-append (λ k. cond (t k) 1 0) (j ∷ []) xs ∙ ap (λ n. n + count_by t xs) (omega arith)

-- a last number adds 1 to a count if it passes the test
count_append : (t : ℕ → Bool) (xs : List ℕ) (j : ℕ) → count_by t (xs ++ j ∷ []) ≡ count_by t xs + cond (t j) 1 0
count_append t xs j = sum_by-append (λ k. cond (t k) 1 0) xs (j ∷ []) ∙ ap (λ n. count_by t xs + n) (omega arith)

-- `bool_byte` of a truth value is 1 for true and 0 for false
byte_of : (b : Bool) → bool_byte b ≡ cond b 1 0
byte_of true = refl
byte_of false = refl

-- a count over fewer than 2^32 numbers doesn't overflow when one more is counted
pub room_more : (t : ℕ → Bool) (a n now x : ℕ) (b : Bool) → now ≡ count_by t (range_with_len a n) → x ≡ bool_byte b → n + 1 < 4294967296
    → now + x < 4294967296
room_more t a n now x b was is low =
    let few = count_few t a n in
    let one : x ≤ 1 = elim b as (λ v. x ≡ bool_byte v → x ≤ 1) [ true ↦ λ e. omega (arith, e) | false ↦ λ e. omega (arith, e) ] is in
    omega arith

-- a loop's step: the count includes one more number if it passes the test
pub counted_more : (t : ℕ → Bool) (a n m j now x : ℕ) (b : Bool) → m ≡ n + 1 → a + n ≡ j → now ≡ count_by t (range_with_len a n)
    → x ≡ bool_byte b → b ≡ t j → now + x ≡ count_by t (range_with_len a m)
counted_more t a n m j now x b e g was is passes =
    let h = count_append t (range_with_len a n) j in
    let k = ap (count_by t) (range_more a n m j e g) in
    let y : x ≡ cond (t j) 1 0 = is ∙ (byte_of b ∙ ap (λ v. cond v 1 0) passes) in omega arith

-- concatenations over a range are equal if all lists are equal
pub flat_same : {A : Type 0} (f g : ℕ → List A) (a n : ℕ) → ((j : ℕ) → a ≤ j → j < a + n → f j ≡ g j)
    → flat_map f (range_with_len a n) ≡ flat_map g (range_with_len a n)
flat_same f g a zero same = refl
flat_same f g a (suc n) same =
    ap (λ xs. xs ++ flat_map f (range_with_len (a + 1) n)) (same a (omega arith) (omega arith))
    ∙ ap (λ xs. g a ++ xs) (flat_same f g (a + 1) n (λ j low high. same j (omega arith) (omega arith)))

-- counts over a range are equal if both tests agree on each number
pub count_same : (s t : ℕ → Bool) (a n : ℕ) → ((j : ℕ) → a ≤ j → j < a + n → s j ≡ t j)
    → count_by s (range_with_len a n) ≡ count_by t (range_with_len a n)
count_same s t a zero same = refl
count_same s t a (suc n) same =
    count_cons s a (range_with_len (a + 1) n)
    ∙ (ap (λ b. cond b 1 0 + count_by s (range_with_len (a + 1) n)) (same a (omega arith) (omega arith))
    ∙ (ap (λ k. cond (t a) 1 0 + k) (count_same s t (a + 1) n (λ j low high. same j (omega arith) (omega arith)))
    ∙ sym (count_cons t a (range_with_len (a + 1) n))))

-- a loop's step: a property of each item still holds after an item with the property is appended
pub pushed_more : {A : Type 0} (P : ℕ → A → Type 0) (xs ys : List A) (x : A) (n : ℕ) → ys ≡ xs ++ x ∷ [] → length xs ≡ n
    → ((k : ℕ) (d : A) → k < n → P k (get_or xs k d)) → P n x → (k : ℕ) (d : A) → k < n + 1 → P k (get_or ys k d)
pushed_more {A} P xs ys x n is wide each last k d low =
    elim (cases_lt k n) [
      | inl below ↦ subst (P k) (sym (ap (λ zs. get_or zs k d) is ∙ get_or_append_left xs (x ∷ []) d k (omega (arith, below, wide)))) (each k d below)
      | inr above ↦
          let e : n ≡ k = omega arith in
          subst (λ j. P j (get_or ys j d)) e (subst (P n) (sym (ap (λ zs. get_or zs n d) is ∙ get_or_push xs x d n wide)) last)
    ]
