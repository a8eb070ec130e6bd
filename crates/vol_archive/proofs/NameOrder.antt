-- The order of paths, compared name by name.
use Rattle.std.proofs.Common.{◌≡◌, ℕ, List, [], ◌∷◌, ◌++◌, refl, ap, sym, ◌∙◌}
use Rattle.std.specs.Cmp.{IsTotalOrder, tied_itself}
use Rattle.std.specs.Cmp.Lexicographic.{slice_cmp, lists_total}
use Rattle.std.specs.Ordering.{nat_cmp, ordering_then}
use Rattle.std.specs.declared.cmp.Ordering.{Ordering}
use Rattle.std.specs.declared.cmp.Ordering.TheVariants.{Less}
use Rattle.std.proofs.lemmas.Cmp.{nat_list_cmp_total}
use Rattle.std.proofs.lemmas.List.{append_assoc, append-nil}

-- the order of lists of names: the first two names that differ decide; if there are none, the lengths do
abbrev pub order : List (List ℕ) → List (List ℕ) → Ordering
order names others = slice_cmp (slice_cmp nat_cmp) names others

-- the order is total
pub order_total : IsTotalOrder order
order_total = lists_total nat_list_cmp_total

-- equal names at the front of two paths don't matter
pub same_first : (names xs ys : List (List ℕ)) → order (names ++ xs) (names ++ ys) ≡ order xs ys
same_first [] xs ys = refl
same_first (name ∷ names) xs ys =
    ap (λ o. ordering_then o (order (names ++ xs) (names ++ ys))) (tied_itself nat_list_cmp_total name) ∙ same_first names xs ys

-- a directory comes before everything below it
pub before_inside : (names : List (List ℕ)) (name : List ℕ) (more : List (List ℕ)) → order names (names ++ name ∷ more) ≡ Less
before_inside names name more = ap (λ xs. order xs (names ++ name ∷ more)) (sym (append-nil names)) ∙ same_first names [] (name ∷ more)

-- a path that comes before a directory comes before the entries in it
pub before_below : (xs names : List (List ℕ)) (name : List ℕ) → order xs names ≡ Less → order xs (names ++ name ∷ []) ≡ Less
before_below xs names name h = order_total.trans xs names (names ++ name ∷ []) h (before_inside names name [])

-- some names, with everything below them, come before other names
abbrev pub Clears : List (List ℕ) → List (List ℕ) → Type 0
Clears names others = (more : List (List ℕ)) → order (names ++ more) others ≡ Less

-- if names with everything below them come before others, so do the names themselves
pub clear_before : (names others : List (List ℕ)) → Clears names others → order names others ≡ Less
clear_before names others h = ap (λ xs. order xs others) (sym (append-nil names)) ∙ h []

-- if names with everything below them come before others, so does a path one name below
pub clear_below : (names others : List (List ℕ)) (name : List ℕ) → Clears names others → Clears (names ++ name ∷ []) others
clear_below names others name h more = ap (λ xs. order xs others) (append_assoc names (name ∷ []) more) ∙ h (name ∷ more)

-- of two names in a directory, the lesser with everything below it comes before the other
pub clear_beside : (names : List (List ℕ)) (name other : List ℕ) → slice_cmp nat_cmp name other ≡ Less → Clears (names ++ name ∷ []) (names ++ other ∷ [])
clear_beside names name other h more =
    ap (λ xs. order xs (names ++ other ∷ [])) (append_assoc names (name ∷ []) more)
    ∙ (same_first names (name ∷ more) (other ∷ []) ∙ ap (λ o. ordering_then o (order more [])) h)
