-- Lemmas on the order of paths.
use Rattle.std.proofs.Common.{◌≡◌, ◌≢◌, ◌∙◌, sym, ap, refl, ℕ, suc, ◌+◌, ◌<◌, ◌⊎◌, if◌then◌else◌, Bool, true, false, List, [], ◌∷◌, length, drop, get_or, inl, inr, subst, nat_lt, arith}
use Rattle.std.proofs.lemmas.Bool.{cases_eq, eq-eqb, ne_eqb}
use Rattle.std.proofs.lemmas.List.{drop_more}
use Rattle.std.specs.declared.cmp.Ordering.{Ordering}
use Rattle.std.specs.declared.cmp.Ordering.TheVariants.{Less, Equal, Greater}
use Rattle.vol_compare.specs.Merge.{length_order, path_order, rank}

-- a path has the order of itself
pub order_same : (path : List ℕ) → path_order path path ≡ Equal
unfolding path_order
order_same [] = refl
order_same (c ∷ path) = ap (λ t. if t then path_order path path else if nat_lt (rank c) (rank c) then Less else Greater) (eq-eqb c c refl) ∙ order_same path

-- a number for an order
number : Ordering → ℕ
number Less = 0
number Equal = 1
number Greater = 2

-- two orders that are different
less_equal : Less ≡ Equal → ⊥
unfolding number
less_equal e = let bad : number Less ≡ number Equal = ap number e in omega (arith, bad)

greater_equal : Greater ≡ Equal → ⊥
unfolding number
greater_equal e = let bad : number Greater ≡ number Equal = ap number e in omega (arith, bad)

-- neither of two different bytes is the same
not_equal : (t : Bool) → (if t then Less else Greater) ≡ Equal → ⊥
not_equal true e = less_equal e
not_equal false e = greater_equal e

-- paths of one order are equal
pub order_equal : (old new : List ℕ) → path_order old new ≡ Equal → old ≡ new
unfolding path_order
order_equal [] [] e = refl
order_equal [] (d ∷ new) e = absurd (less_equal e)
order_equal (c ∷ old) [] e = absurd (greater_equal e)
order_equal (c ∷ old) (d ∷ new) e =
    elim (cases_eq c d) [
      | inl same ↦
          let rest : path_order old new ≡ Equal =
          sym (ap (λ t. if t then path_order old new else if nat_lt (rank c) (rank d) then Less else Greater) (eq-eqb c d same)) ∙ e in
          ap (λ x. x ∷ old) same ∙ ap (λ xs. d ∷ xs) (order_equal old new rest)
      | inr other ↦
          let apart : (if nat_lt (rank c) (rank d) then Less else Greater) ≡ Equal =
          sym (ap (λ t. if t then path_order old new else if nat_lt (rank c) (rank d) then Less else Greater) (ne_eqb c d other)) ∙ e in
          absurd (not_equal (nat_lt (rank c) (rank d)) apart)
    ]

-- paths that begin with one byte have the order of what follows it
first_same : (c d : ℕ) (old new : List ℕ) → c ≡ d → path_order (c ∷ old) (d ∷ new) ≡ path_order old new
unfolding path_order
first_same c d old new same =
    ap (λ t. if t then path_order old new else if nat_lt (rank c) (rank d) then Less else Greater) (eq-eqb c d same)

-- paths that begin with different bytes have the order of these
first_other : (c d : ℕ) (old new : List ℕ) → c ≢ d → path_order (c ∷ old) (d ∷ new) ≡ (if nat_lt (rank c) (rank d) then Less else Greater)
unfolding path_order
first_other c d old new other =
    ap (λ t. if t then path_order old new else if nat_lt (rank c) (rank d) then Less else Greater) (ne_eqb c d other)

-- what follows the first bytes has the same order without the next byte if both have the same
pub order_next : (old new : List ℕ) (k : ℕ) → k < length old → k < length new → get_or old k 0 ≡ get_or new k 0
    → path_order (drop k old) (drop k new) ≡ path_order (drop (k + 1) old) (drop (k + 1) new)
order_next old new k old_low new_low same =
    ap (λ xs. path_order xs (drop k new)) (drop_more old k 0 old_low)
    ∙ (ap (path_order (get_or old k 0 ∷ drop (k + 1) old)) (drop_more new k 0 new_low)
    ∙ first_same (get_or old k 0) (get_or new k 0) (drop (k + 1) old) (drop (k + 1) new) same)

-- what follows the first bytes has the order of the next bytes if they differ
pub order_apart : (old new : List ℕ) (k : ℕ) → k < length old → k < length new → get_or old k 0 ≢ get_or new k 0
    → path_order (drop k old) (drop k new) ≡ (if nat_lt (rank (get_or old k 0)) (rank (get_or new k 0)) then Less else Greater)
order_apart old new k old_low new_low other =
    ap (λ xs. path_order xs (drop k new)) (drop_more old k 0 old_low)
    ∙ (ap (path_order (get_or old k 0 ∷ drop (k + 1) old)) (drop_more new k 0 new_low)
    ∙ first_other (get_or old k 0) (get_or new k 0) (drop (k + 1) old) (drop (k + 1) new) other)

-- paths that are equal up to the end of one have the order of what each has after it
ends : (old new : List ℕ) → (length old ≡ 0) ⊎ (length new ≡ 0) → path_order old new ≡ length_order (length old) (length new)
unfolding path_order
ends [] [] none = refl
ends [] (d ∷ new) none =
    let some : suc (length new) ≢ 0 = λ e. omega (arith, e) in sym (ap (λ t. if t then Equal else Less) (ne_eqb (suc (length new)) 0 some))
ends (c ∷ old) [] none =
    let some : suc (length old) ≢ 0 = λ e. omega (arith, e) in sym (ap (λ t. if t then Equal else Greater) (ne_eqb (suc (length old)) 0 some))
ends (c ∷ old) (d ∷ new) (inl none) = absurd (omega (arith, none))
ends (c ∷ old) (d ∷ new) (inr none) = absurd (omega (arith, none))

-- at the end of one of two paths
pub order_ends : (old new : List ℕ) (k m n : ℕ) → (length (drop k old) ≡ m) → length (drop k new) ≡ n → (m ≡ 0) ⊎ (n ≡ 0)
    → path_order (drop k old) (drop k new) ≡ length_order m n
order_ends old new k m n is_old is_new none =
    subst (λ a. path_order (drop k old) (drop k new) ≡ length_order a n) is_old
    (subst (λ b. path_order (drop k old) (drop k new) ≡ length_order (length (drop k old)) b) is_new
    (ends (drop k old) (drop k new) (elim none [ inl e ↦ inl (is_old ∙ e) | inr e ↦ inr (is_new ∙ e) ])))
