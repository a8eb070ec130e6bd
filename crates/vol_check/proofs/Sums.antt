-- Sums over ranges and over lists made of lists.
use Rattle.std.proofs.Common.{◌≡◌, ℕ, zero, suc, ◌+◌, ◌-◌, ◌*◌, ◌<◌, List, [], ◌∷◌, refl, ap, ◌∙◌, arith}
use Rattle.std.specs.List.{flat_map, range_with_len}
use Rattle.count_table.specs.Sums.{total, below}
use Rattle.count_table.proofs.Totals.{total_append}

-- the sum over concatenated lists is the sum of the lists' sums
pub total_flat : {A B : Type 0} (weight : B → ℕ) (f : A → List B) (xs : List A) → total weight (flat_map f xs) ≡ total (λ x. total weight (f x)) xs
unfolding total
total_flat weight f [] = refl
total_flat weight f (x ∷ xs) = let h = total_flat weight f xs in let a = total_append weight (f x) (flat_map f xs) in omega arith

-- the sum below `n` + 1 is the weight of 0 plus the sum over the other numbers
pub below_front : (f : ℕ → ℕ) (n : ℕ) → below f (suc n) ≡ f 0 + below (λ k. f (k + 1)) n
unfolding below
below_front f zero = omega arith
below_front f (suc n) = let h = below_front f n in let e : suc n ≡ n + 1 = omega arith in let s = ap f e in omega arith

-- sums below `n` with equal weights are equal
pub below_same : (f g : ℕ → ℕ) (n : ℕ) → ((k : ℕ) → k < n → f k ≡ g k) → below f n ≡ below g n
unfolding below
below_same f g zero same = refl
below_same f g (suc n) same = let h = below_same f g n (λ k lt. same k (omega arith)) in let e = same n (omega arith) in omega arith

-- the sum over a range is the sum below its length, with shifted weights
pub total_range : (f : ℕ → ℕ) (a n : ℕ) → total f (range_with_len a n) ≡ below (λ k. f (a + k)) n
unfolding total below
total_range f a zero = refl
total_range f a (suc n) =
    let h = total_range f (a + 1) n in
    let b = below_front (λ k. f (a + k)) n in
    let z : a + 0 ≡ a = omega arith in
    let e = ap f z in
    let s = below_same (λ k. f (a + 1 + k)) (λ k. f (a + (k + 1))) n (λ k lt. ap f (omega arith)) in
    omega arith

-- the sum over a range starting with 0 is the sum below its length
pub total_start : (f : ℕ → ℕ) (n : ℕ) → total f (range_with_len 0 n) ≡ below f n
total_start f n = total_range f 0 n ∙ below_same (λ k. f (0 + k)) f n (λ k lt. ap f (omega arith))

-- a sum of zeros below `n` is 0
pub below_zero : (f : ℕ → ℕ) (n : ℕ) → ((k : ℕ) → k < n → f k ≡ 0) → below f n ≡ 0
unfolding below
below_zero f zero none = refl
below_zero f (suc n) none = let h = below_zero f n (λ k lt. none k (omega arith)) in let e = none n (omega arith) in omega arith

-- the sum over the slots of no blocks is 0
pub none_over : (f : ℕ → ℕ) (n : ℕ) → below f (32 * (n - n)) ≡ 0
none_over f n = below_zero f (32 * (n - n)) (λ k lt. absurd (omega arith))
