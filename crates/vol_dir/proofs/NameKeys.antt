-- The numbers of names are in the order of the names.
use Rattle.std.proofs.Common.{◌≡◌, ◌∙◌, sym, ap, subst, refl, eq-eqb, ℕ, zero, suc, ◌+◌, ◌*◌, ◌^◌, ◌==◌, ◌<◌, ◌≤◌, true, false, List, [], ◌∷◌, length, take, drop, get_or, inl, inr, arith}
use Rattle.std.specs.Cmp.{nat_cmp_is}
use Rattle.std.specs.Cmp.Lexicographic.{slice_cmp}
use Rattle.std.specs.List.{position_or_len}
use Rattle.std.specs.Ordering.{nat_cmp, ordering_then}
use Rattle.std.specs.declared.cmp.Ordering.TheVariants.{Less, Equal, Greater}
use Rattle.std.proofs.lemmas.Bool.{cases_eq, cases_lt, ne_eqb}
use Rattle.std.proofs.lemmas.List.{drop_more}
use Rattle.std.proofs.lemmas.Map.Lookups.{exact_bytes}
use Rattle.std.proofs.Math.ListN.{drop_of_length-le}
use Rattle.std.proofs.Math.Nat.{pow-le-pow_right, pow-suc}
use Rattle.vol_layout.specs.Slot.{name_of}
use Rattle.vol_dir.specs.NameKeys.{digits, key_of, HasBytes, IsSlotName}

-- the less of two numbers stays the less, whatever digits follow
digits_less : (n a b : ℕ) (xs ys : List ℕ) → HasBytes xs → HasBytes ys → a < b → digits a n xs < digits b n ys
digits_less zero a b xs ys hx hy low = low
digits_less (suc n) a b [] [] hx hy low = digits_less n (256 * a) (256 * b) [] [] hx hy (omega (arith, low))
digits_less (suc n) a b [] (y ∷ ys) hx hy low = digits_less n (256 * a) (256 * b + y) [] ys hx hy.2 (omega (arith, low))
digits_less (suc n) a b (x ∷ xs) [] hx hy low = digits_less n (256 * a + x) (256 * b) xs [] hx.2 hy (omega (arith, low, hx.1))
digits_less (suc n) a b (x ∷ xs) (y ∷ ys) hx hy low = digits_less n (256 * a + x) (256 * b + y) xs ys hx.2 hy.2 (omega (arith, low, hx.1))

-- numbers that go on with the digits of two names are in the order of the names
digits_cmp : (n a : ℕ) (xs ys : List ℕ) → length xs ≤ n → length ys ≤ n → HasBytes xs → HasBytes ys
    → nat_cmp (digits a n xs) (digits a n ys) ≡ slice_cmp nat_cmp xs ys
digits_cmp n a [] [] fx fy hx hy = sym (nat_cmp_is (digits a n []) (digits a n []) Equal refl)
digits_cmp zero a [] (y ∷ ys) fx fy hx hy = absurd (omega (arith, fy))
digits_cmp zero a (x ∷ xs) ys fx fy hx hy = absurd (omega (arith, fx))
digits_cmp (suc n) a [] (y ∷ ys) fx fy hx hy =
    sym (nat_cmp_is (digits (256 * a) n []) (digits (256 * a + y) n ys) Less (digits_less n (256 * a) (256 * a + y) [] ys hx hy.2 (omega (arith, hy.0))))
digits_cmp (suc n) a (x ∷ xs) [] fx fy hx hy =
    sym (nat_cmp_is (digits (256 * a + x) n xs) (digits (256 * a) n []) Greater (digits_less n (256 * a) (256 * a + x) [] xs hy hx.2 (omega (arith, hx.0))))
digits_cmp (suc n) a (x ∷ xs) (y ∷ ys) fx fy hx hy =
    elim (cases_lt x y) [
      | inl low ↦
          sym (nat_cmp_is (digits (256 * a + x) n xs) (digits (256 * a + y) n ys) Less (digits_less n (256 * a + x) (256 * a + y) xs ys hx.2 hy.2 (omega (arith, low))))
          ∙ ap (λ o. ordering_then o (slice_cmp nat_cmp xs ys)) (nat_cmp_is x y Less low)
      | inr over ↦ elim (cases_eq x y) [
        | inl same ↦
            ap (λ k. nat_cmp (digits (256 * a + x) n xs) (digits (256 * a + k) n ys)) (sym same)
            ∙ (digits_cmp n (256 * a + x) xs ys (omega (arith, fx)) (omega (arith, fy)) hx.2 hy.2
            ∙ ap (λ o. ordering_then o (slice_cmp nat_cmp xs ys)) (nat_cmp_is x y Equal same))
        | inr apart ↦
            let high : y < x = omega (arith, over, apart) in
            sym (nat_cmp_is (digits (256 * a + x) n xs) (digits (256 * a + y) n ys) Greater (digits_less n (256 * a + y) (256 * a + x) ys xs hy.2 hx.2 (omega (arith, high))))
            ∙ ap (λ o. ordering_then o (slice_cmp nat_cmp xs ys)) (nat_cmp_is x y Greater high)
      ]
    ]

-- the numbers of two names are in the order of the names
pub key_cmp : (xs ys : List ℕ) → IsSlotName xs → IsSlotName ys → nat_cmp (key_of xs) (key_of ys) ≡ slice_cmp nat_cmp xs ys
unfolding key_of
key_cmp xs ys x y = digits_cmp 14 0 xs ys x.few y.few x.bytes y.bytes

-- names with the same number are the same
pub key_same : (xs ys : List ℕ) → IsSlotName xs → IsSlotName ys → key_of xs ≡ key_of ys → xs ≡ ys
key_same xs ys x y same = exact_bytes xs ys (sym (key_cmp xs ys x y) ∙ sym (nat_cmp_is (key_of xs) (key_of ys) Equal same))

-- numbers that compare as equal are the same
pub exact_nat : (x y : ℕ) → nat_cmp x y ≡ Equal → x ≡ y
exact_nat x y equal =
    elim (cases_lt x y) [
      | inl low ↦ absurd (less_equal (nat_cmp_is x y Less low ∙ equal))
      | inr over ↦ elim (cases_eq x y) [
        | inl same ↦ same
        | inr apart ↦ absurd (greater_equal (nat_cmp_is x y Greater (let high : y < x = omega (arith, over, apart) in high) ∙ equal))
      ]
    ]
  where
    less_equal : Less ≡ Equal → ⊥
    less_equal e = cc

    greater_equal : Greater ≡ Equal → ⊥
    greater_equal e = cc

-- a first byte that isn't zero belongs to the name
name_more : (x : ℕ) (xs : List ℕ) → (x == 0) ≡ false → name_of (x ∷ xs) ≡ x ∷ name_of xs
name_more x xs e =
    let more : position_or_len (λ c. c == 0) (x ∷ xs) ≡ suc (position_or_len (λ c. c == 0) xs) = rw e (omega arith) in
    ap (λ n. take n (x ∷ xs)) more

-- a zero byte ends the name
name_end : (x : ℕ) (xs : List ℕ) → (x == 0) ≡ true → name_of (x ∷ xs) ≡ []
name_end x xs e = rw e

-- the bytes before the first zero are a name's
name_bytes : (xs : List ℕ) → ((k : ℕ) → get_or (name_of xs) k 0 < 256) → HasBytes (name_of xs)
name_bytes [] small = tt
name_bytes (x ∷ xs) small =
    elim (cases_eq x 0) [
      | inl none ↦ subst HasBytes (sym (name_end x xs (eq-eqb x 0 none))) tt
      | inr some ↦
          let more = name_more x xs (ne_eqb x 0 some) in
          let next : (k : ℕ) → get_or (x ∷ name_of xs) k 0 < 256 = λ k. subst (λ ys. get_or ys k 0 < 256) more (small k) in
          subst HasBytes (sym more) (omega (arith, some), next 0, name_bytes xs (λ k. next (suc k)))
    ]

-- the name in a slot is one that a slot can have
pub slot_name : (xs : List ℕ) → length (name_of xs) ≤ 14 → ((k : ℕ) → get_or (name_of xs) k 0 < 256) → IsSlotName (name_of xs)
slot_name xs few small = record { few = few; bytes = name_bytes xs small }

-- a byte of the name is the next digit
pub digits_byte : (number m k : ℕ) (name : List ℕ) → k < length name → digits number (suc m) (drop k name) ≡ digits (256 * number + get_or name k 0) m (drop (k + 1) name)
digits_byte number m k name low = ap (digits number (suc m)) (drop_more name k 0 low)

-- a zero is the next digit behind the name
pub digits_zero : (number m k : ℕ) (name : List ℕ) → length name ≤ k → digits number (suc m) (drop k name) ≡ digits (256 * number + 0) m (drop (k + 1) name)
digits_zero number m k name past =
    let sum : 256 * number ≡ 256 * number + 0 = omega arith in
    ap (digits number (suc m)) (drop_of_length-le name past)
    ∙ (ap (λ n. digits n m []) sum ∙ ap (digits (256 * number + 0) m) (sym (drop_of_length-le name (let e : length name ≤ k + 1 = omega (arith, past) in e))))

-- a number of fewer than 14 digits has room for one more
pub room : (number k : ℕ) → k < 14 → number < 256 ^ k → number < 20282409603651670423947251286016
room number k few low =
    let most : 256 ^ k ≤ 256 ^ 13 = pow-le-pow_right {n = 256} (omega arith) {i = k} {j = 13} (omega (arith, few)) in omega (arith, low, most)

-- one more digit
pub one_more : (number k c : ℕ) → number < 256 ^ k → c < 256 → 256 * number + c < 256 ^ (k + 1)
one_more number k c low small =
    let more : 256 ^ suc k ≡ 256 ^ k * 256 = pow-suc 256 k in
    let same : 256 ^ (k + 1) ≡ 256 ^ suc k = ap (λ n. 256 ^ n) (let e : k + 1 ≡ suc k = omega arith in e) in
    omega (arith, low, small, more, same)
