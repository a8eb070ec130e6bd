-- Sums over draws when all pieces are drawn, each once.
use Rattle.std.proofs.Common.{◌≡◌, ℕ, zero, suc, ◌+◌, ◌-◌, ◌*◌, ◌<◌, ◌≤◌, ◌∙◌, sym, ap, List, [], ◌∷◌, inl, inr, arith}
use Rattle.std.proofs.lemmas.Bool.{cases_lt}
use Rattle.std.proofs.lemmas.List.Sums.{sum_by-cons}
use Rattle.std.specs.List.{sum_by, range_with_len}
use Rattle.count_table.specs.Sums.{total, below, late, past}
use Rattle.count_table.proofs.Totals.{total_cons, total_nil, below_more, below_none, below_early}
use Rattle.vol_check.proofs.Sums.{total_range, below_same, below_zero}

-- the sum below `b` + `d` is the sum below `b` if all numbers at or above `b` weigh 0
pub below_stops : (f : ℕ → ℕ) (b d : ℕ) → ((k : ℕ) → b ≤ k → f k ≡ 0) → below f (b + d) ≡ below f b
below_stops f b zero none = ap (below f) (omega arith)
below_stops f b (suc d) none =
    let s : b + suc d ≡ (b + d) + 1 = omega arith in
    let h = below_stops f b d none in
    let z = none (b + d) (omega arith) in
    let m = below_more f (b + d) in ap (below f) s ∙ omega arith

-- if the draws are the numbers below `n`, each once, and one of them is past the last piece, the sum over them is the sum over all pieces
pub each_once : (pieces n : ℕ) (draws : List ℕ) (weight : ℕ → ℕ) → ((f : ℕ → ℕ) → total f draws ≡ below f n) → 1 ≤ late pieces draws
    → ((p : ℕ) → pieces ≤ p → weight p ≡ 0) → total weight draws ≡ below weight pieces
each_once pieces n draws weight drawn some none = elim (cases_lt pieces n) [
  | inr le ↦ let d = drawn (past pieces) in let z = below_early pieces n le in absurd (omega arith)
  | inl lt ↦
      let s : n ≡ pieces + (n - pieces) = omega arith in
      drawn weight ∙ (ap (below weight) s ∙ below_stops weight pieces (n - pieces) none)
]

-- `total` and `sum_by` are equal
pub total_by : {A : Type 0} (f : A → ℕ) (xs : List A) → total f xs ≡ sum_by f xs
total_by f [] = total_nil f
total_by f (x ∷ xs) = let h = total_by f xs in let t = total_cons f x xs in let s = sum_by-cons f x xs in omega arith

-- sums with equal weights are equal
pub total_same : {A : Type 0} (f g : A → ℕ) (xs : List A) → ((x : A) → f x ≡ g x) → total f xs ≡ total g xs
total_same f g [] same = total_nil f ∙ sym (total_nil g)
total_same f g (x ∷ xs) same =
    let h = total_same f g xs same in let a = total_cons f x xs in let b = total_cons g x xs in let e = same x in omega arith

-- a sum below `last` of shifted weights is the sum over the i-numbers from 1 to `last`
pub over_inodes : (f : ℕ → ℕ) (last : ℕ) → below (λ k. f (k + 1)) last ≡ sum_by f (range_with_len 1 last)
over_inodes f last =
    below_same (λ k. f (k + 1)) (λ k. f (1 + k)) last (λ k lt. ap f (omega arith)) ∙ (sym (total_range f 1 last) ∙ total_by f (range_with_len 1 last))

-- if no number below `n` weighs more than `m`, their sum is at most `n` times `m`
pub below_at_most : (f : ℕ → ℕ) (m n : ℕ) → ((k : ℕ) → k < n → f k ≤ m) → below f n ≤ n * m
below_at_most f m zero most = let z = below_none f in omega arith
below_at_most f m (suc n) most =
    let h = below_at_most f m n (λ k lt. most k (omega arith)) in
    let l = most n (omega arith) in
    let b = below_more f n in
    let s : suc n ≡ n + 1 = omega arith in
    let e = ap (below f) s in
    let t : suc n * m ≡ n * m + m = grind arith in omega arith

-- if all numbers below `n` except `i` weigh 0, their sum is the weight of `i`
pub below_alone : (f : ℕ → ℕ) (i n : ℕ) → i < n → ((k : ℕ) → k < n → (k ≡ i → ⊥) → f k ≡ 0) → below f n ≡ f i
below_alone f i zero lt none = absurd (omega arith)
below_alone f i (suc n) lt none =
    let b = below_more f n in
    let s : suc n ≡ n + 1 = omega arith in
    let e = ap (below f) s in
    elim (cases_lt i n) [
      | inr le ↦
          let same : n ≡ i = omega arith in
          let z = below_zero f n (λ k less. none k (omega arith) (λ q. omega arith)) in
          let h = ap f same in omega arith
      | inl less ↦
          let h = below_alone f i n less (λ k low. none k (omega arith)) in
          let z = none n (omega arith) (λ q. omega arith) in omega arith
    ]
