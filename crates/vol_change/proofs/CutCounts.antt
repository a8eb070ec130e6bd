-- The number of blocks that a truncation frees.
use Rattle.std.proofs.Common.{◌≡◌, ◌∙◌, sym, ap, refl, ℕ, zero, suc, ◌+◌, ◌==◌, ◌&&◌, Bool, not, cond, true, false, List, [], ◌∷◌, length, filter, arith, inl, inr}
use Rattle.std.specs.List.{count_by}
use Rattle.std.proofs.lemmas.Bool.{cases_Bool}
use Rattle.std.proofs.lemmas.Bool.Decides.{nat_tests}
use Rattle.std.proofs.lemmas.List.Sums.{sum_by-cons}
use Rattle.vol_layout.specs.BlockPointers.{mode_of, form_at}
use Rattle.vol_layout.specs.BlockMaps.{has_places, places}
use Rattle.vol_layout.specs.declared.edition.Edition.{Edition}
use Rattle.vol_layout.specs.declared.geometry.Geometry.{Geometry}
use Rattle.vol_layout.specs.declared.mode.Kind.TheVariants as kinds
use Rattle.vol_file.specs.Changes.{is_kept, blocks_past}
use Rattle.vol_file.specs.Clears.{blocks_at}
use Rattle.vol_file.specs.Shape.{is_named}
use Rattle.vol_file.proofs.PlaceLists.{count_among, count_none, count_same, among_places}
use Rattle.vol_dir.specs.Tree.{Shape, form_in, is_named_place, place_count, shape_of, shapes}
use Rattle.vol_dir.proofs.PlaceTests.{place_test}
use Rattle.vol_change.specs.Shapes.{cut_shape, cut_count}
use Rattle.vol_change.proofs.FileInodes.{none_passes, all_passes}
use Rattle.vol_change.proofs.FreeCounts.{blocks_length, form_shape}
use Rattle.vol_change.proofs.States.{shape_here}
use Rattle.vol_change.proofs.WrittenStates.{IsKind}

-- the number of items in a filtered list that pass another test is the number of items that pass both tests
count_passed : (names t : List ℕ → Bool) (ps : List (List ℕ)) → count_by names (filter t ps) ≡ count_by (λ p. names p && t p) ps
count_passed names t [] = refl
count_passed names t (p ∷ ps) =
    let rest : count_by names (filter t ps) ≡ count_by (λ q. names q && t q) ps = count_passed names t ps in
    let both : count_by (λ q. names q && t q) (p ∷ ps) ≡ cond (names p && t p) 1 0 + count_by (λ q. names q && t q) ps =
    sum_by-cons (λ q. cond (names q && t q) 1 0) p ps in
    elim (cases_Bool (t p)) [
      | inl passes ↦
          let here : count_by names (filter t (p ∷ ps)) ≡ count_by names (p ∷ filter t ps) =
          ap (λ b. count_by names (cond b (p ∷ filter t ps) (filter t ps))) passes in
          let one : count_by names (p ∷ filter t ps) ≡ cond (names p) 1 0 + count_by names (filter t ps) =
          sum_by-cons (λ q. cond (names q) 1 0) p (filter t ps) in
          let same : ◌≡◌ {A = ℕ} (cond (names p && t p) 1 0) (cond (names p) 1 0) =
          ap (λ b. cond (names p && b) 1 0) passes ∙ ap (λ b. cond b 1 0) (all_passes (names p)) in
          omega (arith, rest, both, here, one, same)
      | inr fails ↦
          let here : count_by names (filter t (p ∷ ps)) ≡ count_by names (filter t ps) =
          ap (λ b. count_by names (cond b (p ∷ filter t ps) (filter t ps))) fails in
          let none : ◌≡◌ {A = ℕ} (cond (names p && t p) 1 0) 0 =
          ap (λ b. cond (names p && b) 1 0) fails ∙ ap (λ b. cond b 1 0) (none_passes (names p)) in
          omega (arith, rest, both, here, none)
    ]

-- `cut_count` is the number of blocks that a truncation frees
pub cut_number : (geometry : Geometry) (image : List ℕ) (i size : ℕ) → IsKind geometry image i kinds.Regular
    → cut_count geometry.edition (shapes geometry image i) size ≡ length (blocks_past geometry image i size)
unfolding blocks_past blocks_at
cut_number geometry image i size is =
    let names = is_named geometry image i in
    let form = form_at geometry image i in
    let lost : List ℕ → Bool = λ p. not (is_kept form size p) in
    ap (λ shape. cut_count geometry.edition shape size) (shape_here geometry image i is.first is.last ∙ ap (shape_of geometry image i) is.kind)
    ∙ (ap (λ f. count_by (λ p. is_named_place geometry image i p && not (is_kept f size p)) (places f))
    (form_shape geometry.edition (mode_of geometry image i) (ap has_places is.kind))
    ∙ (count_among (λ p. is_named_place geometry image i p && lost p) (λ p. names p && lost p) (places form)
    (λ p among. ap (λ t. (t && names p) && lost p) (place_test form p (among_places form p among)))
    ∙ (sym (count_passed names lost (places form))
    ∙ sym (blocks_length geometry image i (filter lost (places form))))))

-- an item that passes the first test either passes the second or not
one_of : (name t : Bool) → cond (name && t) 1 0 + cond (name && not t) 1 0 ≡ cond name 1 0
one_of true true = refl
one_of true false = refl
one_of false t = refl

-- the number of items that pass the first test is the number that also pass the second plus the number that don't
count_split : (names t : List ℕ → Bool) (ps : List (List ℕ))
    → count_by (λ p. names p && t p) ps + count_by (λ p. names p && not (t p)) ps ≡ count_by names ps
count_split names t [] = refl
count_split names t (p ∷ ps) =
    let rest : count_by (λ q. names q && t q) ps + count_by (λ q. names q && not (t q)) ps ≡ count_by names ps = count_split names t ps in
    let both : count_by (λ q. names q && t q) (p ∷ ps) ≡ cond (names p && t p) 1 0 + count_by (λ q. names q && t q) ps =
    sum_by-cons (λ q. cond (names q && t q) 1 0) p ps in
    let first : count_by (λ q. names q && not (t q)) (p ∷ ps) ≡ cond (names p && not (t p)) 1 0 + count_by (λ q. names q && not (t q)) ps =
    sum_by-cons (λ q. cond (names q && not (t q)) 1 0) p ps in
    let all : count_by names (p ∷ ps) ≡ cond (names p) 1 0 + count_by names ps = sum_by-cons (λ q. cond (names q) 1 0) p ps in
    let here : cond (names p && t p) 1 0 + cond (names p && not (t p)) 1 0 ≡ cond (names p) 1 0 = one_of (names p) (t p) in
    omega (arith, rest, both, first, all, here)

-- a truncated file has as many blocks as it had, minus `cut_count`
pub cut_leaves : (edition : Edition) (shape : Shape) (size : ℕ)
    → place_count edition (cut_shape edition shape size) + cut_count edition shape size ≡ place_count edition shape
unfolding place_count
cut_leaves edition shape zero =
    let form = form_in edition shape.large in
    let none : count_by (λ p. shape.names p && false) (places (form_in edition (shape.large && false))) ≡ 0 =
    count_none (λ p. shape.names p && false) (places (form_in edition (shape.large && false))) (λ p. none_passes (shape.names p)) in
    let all : count_by (λ p. shape.names p && true) (places form) ≡ count_by shape.names (places form) =
    count_same (λ p. shape.names p && true) shape.names (places form) (λ p. all_passes (shape.names p)) in
    omega (arith, none, all)
cut_leaves edition shape (suc n) =
    let form = form_in edition shape.large in
    let kept : List ℕ → Bool = λ p. is_kept form (suc n) p in
    let some : (suc n == 0) ≡ false = grind (arith, nat_tests) in
    let same : count_by (λ p. shape.names p && kept p) (places (form_in edition (shape.large && not (suc n == 0))))
    ≡ count_by (λ p. shape.names p && kept p) (places form) =
    ap (λ large. count_by (λ p. shape.names p && kept p) (places (form_in edition large))) (ap (λ t. shape.large && not t) some ∙ all_passes shape.large) in
    let split : count_by (λ p. shape.names p && kept p) (places form) + count_by (λ p. shape.names p && not (kept p)) (places form) ≡ count_by shape.names (places form) =
    count_split shape.names kept (places form) in
    omega (arith, same, split)
