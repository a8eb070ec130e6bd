-- Sums over the pieces of directories.
use Rattle.std.proofs.Common.{◌≡◌, ℕ, zero, suc, ◌+◌, ◌-◌, ◌*◌, ◌<◌, ◌≤◌, ◌∙◌, sym, ap, if◌then◌else◌, refl, arith}
use Rattle.std.proofs.lemmas.Bool.{lt-ltb, le-ltb}
use Rattle.count_table.specs.Sums.{below}
use Rattle.count_table.proofs.Totals.{below_more, below_none}
use Rattle.vol_check.specs.Parts.{piece_value}
use Rattle.vol_check.proofs.Sums.{below_front, below_same}

-- a sum below `a` + `b` is the sum below `a` plus the sum of the other `b` numbers
pub below_split : (f : ℕ → ℕ) (a b : ℕ) → below f (a + b) ≡ below f a + below (λ k. f (a + k)) b
below_split f a zero =
    let z : a + 0 ≡ a = omega arith in
    let e = ap (below f) z in
    let n = below_none (λ k. f (a + k)) in omega arith
below_split f a (suc b) =
    let s : a + suc b ≡ (a + b) + 1 = omega arith in
    let e = ap (below f) s in
    let h = below_split f a b in
    let m = below_more f (a + b) in
    let t : suc b ≡ b + 1 = omega arith in
    let u = ap (below (λ k. f (a + k))) t in
    let v = below_more (λ k. f (a + k)) b in omega arith

-- a sum below `m` times `n` is a sum over `n` rows of `m` numbers
pub below_rows : (f : ℕ → ℕ) (m n : ℕ) → below (λ k. below (λ t. f (m * k + t)) m) n ≡ below f (m * n)
below_rows f m zero =
    let z : m * 0 ≡ 0 = omega arith in
    let e = ap (below f) z in
    let a = below_none (λ k. below (λ t. f (m * k + t)) m) in
    let b = below_none f in omega arith
below_rows f m (suc n) =
    let t : suc n ≡ n + 1 = omega arith in
    let u = ap (below (λ k. below (λ t. f (m * k + t)) m)) t in
    let v = below_more (λ k. below (λ t. f (m * k + t)) m) n in
    let h = below_rows f m n in
    let s : m * suc n ≡ m * n + m = grind arith in
    let e = ap (below f) s in
    let w = below_split f (m * n) m in omega arith

module _ (count : ℕ → ℕ) (weight : ℕ → ℕ → ℕ) where
  value_here : (i n p : ℕ) → p < count i → piece_value count weight i (suc n) p ≡ weight i p
  unfolding piece_value
  value_here i n p lt = ap (λ t. if t then weight i p else piece_value count weight (i + 1) n (p - count i)) (lt-ltb p (count i) lt)

  value_there : (i n p : ℕ) → count i ≤ p → piece_value count weight i (suc n) p ≡ piece_value count weight (i + 1) n (p - count i)
  unfolding piece_value
  value_there i n p le = ap (λ t. if t then weight i p else piece_value count weight (i + 1) n (p - count i)) (le-ltb p (count i) le)

  value_none : (i p : ℕ) → piece_value count weight i zero p ≡ 0
  unfolding piece_value
  value_none i p = refl

  counts_front : (i n : ℕ) → below (λ k. count (i + k)) (suc n) ≡ count i + below (λ k. count (i + 1 + k)) n
  counts_front i n =
      let f = below_front (λ k. count (i + k)) n in
      let z : i + 0 ≡ i = omega arith in
      let e = ap count z in
      let s = below_same (λ k. count (i + (k + 1))) (λ k. count (i + 1 + k)) n (λ k lt. ap count (omega arith)) in omega arith

  -- the sum over all pieces is the sum over the parts of each i-number
  pub all_pieces : (i n : ℕ) → below (piece_value count weight i n) (below (λ k. count (i + k)) n) ≡ below (λ k. below (weight (i + k)) (count (i + k))) n
  all_pieces i zero =
      let z = ap (below (piece_value count weight i 0)) (below_none (λ k. count (i + k))) in
      let a = below_none (piece_value count weight i 0) in
      let b = below_none (λ k. below (weight (i + k)) (count (i + k))) in omega arith
  all_pieces i (suc n) =
      let f = counts_front i n in
      let e = ap (below (piece_value count weight i (suc n))) f in
      let s = below_split (piece_value count weight i (suc n)) (count i) (below (λ k. count (i + 1 + k)) n) in
      let one = below_same (piece_value count weight i (suc n)) (weight i) (count i) (λ p lt. value_here i n p lt) in
      let two = below_same (λ k. piece_value count weight i (suc n) (count i + k)) (piece_value count weight (i + 1) n) (below (λ k. count (i + 1 + k)) n)
      (λ k lt. let d : count i + k - count i ≡ k = omega arith in
      value_there i n (count i + k) (omega arith) ∙ ap (piece_value count weight (i + 1) n) d) in
      let h = all_pieces (i + 1) n in
      let r = below_front (λ k. below (weight (i + k)) (count (i + k))) n in
      let z : i + 0 ≡ i = omega arith in
      let g = ap (λ j. below (weight j) (count j)) z in
      let t = below_same (λ k. below (weight (i + (k + 1))) (count (i + (k + 1)))) (λ k. below (weight (i + 1 + k)) (count (i + 1 + k))) n
      (λ k lt. ap (λ j. below (weight j) (count j)) (omega arith)) in
      omega arith

  -- a piece has the weight of its i-number's part: `p` is part `k` of the `j`-th i-number
  pub value_at : (i n j k p : ℕ) → j < n → k < count (i + j) → p ≡ below (λ x. count (i + x)) j + k → piece_value count weight i n p ≡ weight (i + j) k
  value_at i zero j k p lt few is = absurd (omega arith)
  value_at i (suc n) zero k p lt few is =
      let b = below_none (λ x. count (i + x)) in
      let z : i + 0 ≡ i = omega arith in
      let c = ap count z in
      let q : p ≡ k = omega arith in
      ap (piece_value count weight i (suc n)) q ∙ (value_here i n k (omega arith) ∙ ap (λ j. weight j k) (sym z))
  value_at i (suc n) (suc j) k p lt few is =
      let f = counts_front i j in
      let z : i + suc j ≡ i + 1 + j = omega arith in
      let c = ap count z in
      value_there i n p (omega arith) ∙ (value_at (i + 1) n j k (p - count i) (omega arith) (omega arith) (omega arith) ∙ ap (λ x. weight x k) (sym z))

  -- a piece past the last has weight 0
  pub value_past : (i n p : ℕ) → below (λ x. count (i + x)) n ≤ p → piece_value count weight i n p ≡ 0
  value_past i zero p le = value_none i p
  value_past i (suc n) p le =
      let f = counts_front i n in
      value_there i n p (omega arith) ∙ value_past (i + 1) n (p - count i) (omega arith)
