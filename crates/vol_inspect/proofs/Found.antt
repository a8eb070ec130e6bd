-- The number of times that a block is found below a block number.
use Rattle.std.proofs.Common.{◌≡◌, ◌≢◌, ℕ, zero, suc, ◌+◌, ◌-◌, ◌<◌, ◌≤◌, ◌∙◌, ◌==◌, ◌&&◌, sym, ap, subst, true, false, List, [], ◌∷◌, refl, arith, inl, inr, eq-eqb}
use Rattle.std.proofs.lemmas.Bool.{cases_eq, ne_eqb, true≢false}
use Rattle.std.proofs.lemmas.List.Sums.{sum_by-append, sum_by-cons, sum_by-le-sum_by}
use Rattle.std.specs.List.{sum_by, range_with_len}
use Rattle.vol_layout.specs.Edition.{constants}
use Rattle.vol_layout.specs.Geometry.{in_zone, Fits}
use Rattle.vol_layout.specs.BlockPointers.{pointer_in}
use Rattle.vol_layout.specs.declared.geometry.Geometry.{Geometry}
use Rattle.vol_layout.proofs.NameLaws.{entry_out, zero_out}
use Rattle.vol_reports.specs.Icheck.{one_if}
use Rattle.vol_reports.proofs.Ranges.{range_more}
use Rattle.vol_inspect.specs.PlaceCounts.{found_at}

-- a sum over a range of one more number adds the weight of this number
pub sum_more : (f : ℕ → ℕ) (a n m j : ℕ) → m ≡ n + 1 → a + n ≡ j → sum_by f (range_with_len a m) ≡ sum_by f (range_with_len a n) + f j
sum_more f a n m j e g =
    let all = ap (sum_by f) (range_more a n m j e g) in
    let parts = sum_by-append f (range_with_len a n) (j ∷ []) in
    let last = sum_by-cons f j [] in
    omega (arith, all, parts, last)

-- a sum of zeros is 0
sum_zero : (f : ℕ → ℕ) (xs : List ℕ) → ((j : ℕ) → f j ≡ 0) → sum_by f xs ≡ 0
sum_zero f [] none = refl
sum_zero f (x ∷ xs) none = let h = sum_zero f xs none in let here = none x in omega (arith, sum_by-cons f x xs, h, here)

-- 1 if `b` is the wanted block `c` at the wanted level, else 0
abbrev pub here_at : ℕ → ℕ → ℕ → ℕ → ℕ
here_at b c e k = one_if ((b == c) && (e == k))

-- `here_at` is 1 for the wanted block at the wanted level
pub here_yes : (b c e k : ℕ) → b ≡ c → e ≡ k → here_at b c e k ≡ 1
here_yes b c e k same level = λ i. one_if (eq-eqb b c same i && eq-eqb e k level i)

-- `here_at` is 0 for another block
pub here_other : (b c e k : ℕ) → b ≢ c → here_at b c e k ≡ 0
here_other b c e k other = ap (λ t. one_if (t && (e == k))) (ne_eqb b c other)

-- `here_at` is 0 at another level
pub here_level : (b c e k : ℕ) → e ≢ k → here_at b c e k ≡ 0
here_level b c e k other =
    ap (λ t. one_if ((b == c) && t)) (ne_eqb e k other)
    ∙ elim (b == c) as (λ t. one_if (t && false) ≡ 0) [ true ↦ refl | false ↦ refl ]

module _ (g : Geometry) (image : List ℕ) where
  -- the number of times that a block is found at and below the first `n` entries of block `b`, with `d` levels below each
  unfoldable pub below : ℕ → ℕ → ℕ → ℕ → ℕ → ℕ
  below d b c e n = sum_by (λ j. found_at g image d (pointer_in g image b j) c e) (range_with_len 0 n)

  pub below_none : (d b c e : ℕ) → below d b c e 0 ≡ 0
  unfolding below
  below_none d b c e = refl

  pub below_more : (d b c e j x : ℕ) → pointer_in g image b j ≡ x → below d b c e (j + 1) ≡ below d b c e j + found_at g image d x c e
  unfolding below
  below_more d b c e j x is =
      sum_more (λ j. found_at g image d (pointer_in g image b j) c e) 0 j (j + 1) j refl (omega arith)
      ∙ ap (λ y. below d b c e j + found_at g image d y c e) is

  -- a block with no levels below it is found only as itself
  pub found_leaf : (d b c e : ℕ) → d ≡ 0 → found_at g image d b c e ≡ here_at b c e d
  unfolding found_at
  found_leaf d b c e none = ap (λ x. found_at g image x b c e) none ∙ ap (here_at b c e) (sym none)

  found_suc : (d b c e : ℕ) → found_at g image (suc d) b c e ≡ here_at b c e (suc d) + below d b c e (constants g.edition).pointers
  unfolding found_at below
  found_suc d b c e = refl

  -- a block with levels below it is found as itself or below its entries
  pub found_deep : (d b c e : ℕ) → 1 ≤ d → found_at g image d b c e ≡ here_at b c e d + below (d - 1) b c e (constants g.edition).pointers
  found_deep d b c e deep =
      let size : d ≡ suc (d - 1) = omega arith in
      ap (λ x. found_at g image x b c e) size
      ∙ (found_suc (d - 1) b c e ∙ ap (λ x. here_at b c e x + below (d - 1) b c e (constants g.edition).pointers) (sym size))

  -- no data block is found at or below a number outside the data blocks
  pub found_out : (d b c e : ℕ) → Fits g image → in_zone g b ≡ false → in_zone g c ≡ true → found_at g image d b c e ≡ 0
  unfolding below
  found_out zero b c e fits out zone =
      found_leaf 0 b c e refl ∙ here_other b c e 0 (λ same. true≢false (sym zone ∙ (ap (in_zone g) (sym same) ∙ out)))
  found_out (suc d) b c e fits out zone =
      let head = here_other b c e (suc d) (λ same. true≢false (sym zone ∙ (ap (in_zone g) (sym same) ∙ out))) in
      let rest = sum_zero (λ j. found_at g image d (pointer_in g image b j) c e) (range_with_len 0 (constants g.edition).pointers)
      (λ j. found_out d (pointer_in g image b j) c e fits (ap (in_zone g) (entry_out g image b j out) ∙ zero_out g image fits) zone) in
      omega (arith, found_suc d b c e, head, rest)

  -- a block isn't found with more levels below it than the start has
  high : (d b c e : ℕ) → d < e → found_at g image d b c e ≡ 0
  unfolding below
  high zero b c e lt = found_leaf 0 b c e refl ∙ here_level b c e 0 (λ same. omega (arith, same, lt))
  high (suc d) b c e lt =
      let head = here_level b c e (suc d) (λ same. omega (arith, same, lt)) in
      let rest = sum_zero (λ j. found_at g image d (pointer_in g image b j) c e) (range_with_len 0 (constants g.edition).pointers)
      (λ j. high d (pointer_in g image b j) c e (omega (arith, lt))) in
      omega (arith, found_suc d b c e, head, rest)

  -- if block `c` is found below block `m`, it is found at least as often as `m` below `b`
  pub found_through : (d b m k c e : ℕ) → 1 ≤ found_at g image k m c e → found_at g image d b m k ≤ found_at g image d b c e
  unfolding below
  found_through zero b m k c e some =
      elim (cases_eq b m) [
        | inl same ↦ elim (cases_eq k 0) [
          | inl level ↦
              let there : 1 ≤ found_at g image 0 b c e =
              subst (λ (x : ℕ). 1 ≤ found_at g image x b c e) level (subst (λ (x : ℕ). 1 ≤ found_at g image k x c e) (sym same) some) in
              omega (arith, found_leaf 0 b m k refl, here_yes b m k 0 same level, there)
          | inr other ↦ omega (arith, found_leaf 0 b m k refl, here_level b m k 0 other)
        ]
        | inr other ↦ omega (arith, found_leaf 0 b m k refl, here_other b m k 0 other)
      ]
  found_through (suc d) b m k c e some =
      let p = range_with_len 0 (constants g.edition).pointers in
      let less = sum_by-le-sum_by (λ j. found_at g image d (pointer_in g image b j) m k) (λ j. found_at g image d (pointer_in g image b j) c e) p
      (λ j. found_through d (pointer_in g image b j) m k c e some) in
      elim (cases_eq b m) [
        | inl same ↦ elim (cases_eq k (suc d)) [
          | inl level ↦
              let there : 1 ≤ found_at g image (suc d) b c e =
              subst (λ (x : ℕ). 1 ≤ found_at g image x b c e) level (subst (λ (x : ℕ). 1 ≤ found_at g image k x c e) (sym same) some) in
              let rest = sum_zero (λ j. found_at g image d (pointer_in g image b j) m k) p (λ j. high d (pointer_in g image b j) m k (omega (arith, level))) in
              omega (arith, found_suc d b m k, here_yes b m k (suc d) same level, rest, there)
          | inr other ↦ omega (arith, found_suc d b m k, found_suc d b c e, here_level b m k (suc d) other, less)
        ]
        | inr other ↦ omega (arith, found_suc d b m k, found_suc d b c e, here_other b m k (suc d) other, less)
      ]
