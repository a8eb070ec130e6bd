-- The shape of a file has the same blocks, and needs the same number of blocks, as the file in the image.
use Rattle.std.proofs.Common.{◌≡◌, ◌∙◌, sym, ap, refl, ℕ, ◌+◌, ◌&&◌, Bool, not, if◌then◌else◌, nat_lt, List, [], ◌∷◌, true, false, true≢false, arith, inl, inr, ◌==◌}
use Rattle.std.specs.Prelude.{◌||◌, Some, None}
use Rattle.std.specs.Option.{option_map_or}
use Rattle.vol_layout.specs.Laws.{IsFront}
use Rattle.std.specs.List.{list_any}
use Rattle.std.specs.Str.{bytes_eq}
use Rattle.std.proofs.lemmas.Bool.{cases_Bool, cases_eq}
use Rattle.std.proofs.lemmas.Bool.Decides.{nat_tests}
use Rattle.vol_layout.specs.BlockMaps.{IsPlace, last_place, places, fronts, way}
use Rattle.vol_layout.specs.declared.block_map.BlockMap.{BlockMap}
use Rattle.vol_layout.specs.declared.block_map.BlockMap.TheVariants.{Small, Large, Deep, Bare}
use Rattle.vol_layout.proofs.PlaceLaws.{last_leaf, place_front}
use Rattle.vol_file.specs.Need.{missing_count, need_of}
use Rattle.vol_file.specs.Shape.{is_on_ways, grows_large, moved_down, fit_form, fit_names, filled}
use Rattle.vol_file.proofs.PlaceLists.{count_among, among_places, same_bytes}
use Rattle.vol_dir.specs.Tree.{is_place}
use Rattle.vol_dir.proofs.PlaceTests.{place_test}

-- a test of positions, restricted to the positions of a block map
abbrev pub at_places : BlockMap → (List ℕ → Bool) → List ℕ → Bool
at_places form names p = is_place form p && names p

-- two tests that agree whenever a third passes are equal when combined with it
pub guarded : (t x y : Bool) → (t ≡ true → x ≡ y) → (t && x) ≡ (t && y)
guarded true x y same = same refl
guarded false x y same = refl

-- the same law with an alternative, if the third test passes whenever the alternative does
guarded_or : (t x on : Bool) → (on ≡ true → t ≡ true) → (t && (x || on)) ≡ ((t && x) || on)
guarded_or true x on h = refl
guarded_or false x true h = absurd (true≢false (sym (h refl)))
guarded_or false x false h = refl

-- a test together with one that always fails fails
and_none : (t : Bool) → false ≡ (t && false)
and_none true = refl
and_none false = refl

-- restricting the old addresses to the block map before or after they move into an indirect block gives the same entries
moved_entry : (names : List ℕ → Bool) (k a : ℕ)
    → moved_down (at_places Small names) (k ∷ (a ∷ [])) ≡ (is_place Large (k ∷ (a ∷ [])) && moved_down names (k ∷ (a ∷ [])))
moved_entry names k a = elim (cases_eq a 0) [
  | inl e ↦ rw e (elim (cases_Bool (nat_lt k 8)) [
    | inl low ↦
        let within : nat_lt k 256 ≡ true = grind (arith, nat_tests) in
        ap (λ t. t && (t && names (k ∷ []))) low ∙ sym (ap (λ t. (t && true) && (nat_lt k 8 && names (k ∷ []))) within ∙ ap (λ t. t && names (k ∷ [])) low)
    | inr high ↦
        ap (λ t. t && (t && names (k ∷ []))) high
        ∙ (and_none (is_place Large (k ∷ (0 ∷ []))) ∙ ap (λ t. is_place Large (k ∷ (0 ∷ [])) && (t && names (k ∷ []))) (sym high))
  ])
  | inr other ↦
      let differ : (a == 0) ≡ false = grind (arith, nat_tests) in
      ap (λ t. t && (nat_lt k 8 && at_places Small names (k ∷ []))) differ
      ∙ (and_none (is_place Large (k ∷ (a ∷ [])))
      ∙ ap (λ t. is_place Large (k ∷ (a ∷ [])) && (t && (nat_lt k 8 && names (k ∷ [])))) (sym differ))
]

-- address 0 is one of the eight addresses
moved_first : (k : ℕ) → (k == 0) ≡ (nat_lt k 8 && (k == 0))
moved_first k = grind (arith, nat_tests)

-- restricting the positions to the block map before or after a small file is made large gives the same positions
moved_places : (names : List ℕ → Bool) (p : List ℕ) → moved_down (at_places Small names) p ≡ (is_place Large p && moved_down names p)
moved_places names [] = refl
moved_places names (k ∷ []) = moved_first k
moved_places names (k ∷ (a ∷ [])) = moved_entry names k a
moved_places names (j ∷ (k ∷ (a ∷ p))) = and_none (is_place Large (j ∷ (k ∷ (a ∷ p))))

-- only a small file is made large
grows_small : (form : BlockMap) (blocks : List ℕ) → grows_large form blocks ≡ true → form ≡ Small
grows_small Small blocks h = refl
grows_small Large blocks h = absurd (true≢false (sym h))
grows_small Deep blocks h = absurd (true≢false (sym h))
grows_small Bare blocks h = absurd (true≢false (sym h))

-- restricting the positions to the block map before or after a file is made large, if it must be, gives the same positions
pub fit_places : (form : BlockMap) (names : List ℕ → Bool) (blocks p : List ℕ)
    → fit_names form (at_places form names) blocks p ≡ (is_place (fit_form form blocks) p && fit_names form names blocks p)
fit_places form names blocks p = elim (cases_Bool (grows_large form blocks)) [
  | inl grows ↦
      ap (λ t. (if t then moved_down (at_places form names) else at_places form names) p) grows
      ∙ (ap (λ f. moved_down (at_places f names) p) (grows_small form blocks grows)
      ∙ (moved_places names p
      ∙ sym (ap (λ t. is_place (if t then Large else form) p && (if t then moved_down names else names) p) grows)))
  | inr stays ↦
      ap (λ t. (if t then moved_down (at_places form names) else at_places form names) p) stays
      ∙ sym (ap (λ t. is_place (if t then Large else form) p && (if t then moved_down names else names) p) stays)
]

-- a position above a given position of a block map is a front of it
front_passed : (p q : List ℕ) → list_any (bytes_eq p) (fronts q) ≡ true → IsFront p q
front_passed p [] h = true≢false (sym h)
front_passed p (j ∷ q) h = elim (cases_Bool (bytes_eq p (j ∷ q))) [
  | inl same ↦ inl (same_bytes p (j ∷ q) same)
  | inr other ↦ inr (front_passed p q (sym (ap (λ t. t || list_any (bytes_eq p) (fronts q)) other) ∙ h))
]

-- a position on the path to a logical block is a position of the block map
way_place : (form : BlockMap) (b : ℕ) (p : List ℕ) → list_any (bytes_eq p) (way form b) ≡ true → IsPlace form p
way_place form b p h =
    elim (last_place form b) as (λ o. last_place form b ≡ o → list_any (bytes_eq p) (option_map_or fronts o []) ≡ true → IsPlace form p) [
      | None ↦ λ e passes. absurd (true≢false (sym passes))
      | Some q ↦ λ e passes. place_front form q p (last_leaf form b q e).place (front_passed p q passes)
    ] refl h

-- a position on the paths to logical blocks is a position of the block map
pub ways_place : (form : BlockMap) (blocks p : List ℕ) → is_on_ways form blocks p ≡ true → IsPlace form p
ways_place form [] p h = absurd (true≢false (sym h))
ways_place form (b ∷ blocks) p h = elim (cases_Bool (list_any (bytes_eq p) (way form b))) [
  | inl here ↦ way_place form b p here
  | inr there ↦ ways_place form blocks p (sym (ap (λ t. t || is_on_ways form blocks p) there) ∙ h)
]

-- restricting the positions to the block map before or after blocks are stored gives the same positions
pub filled_places : (form : BlockMap) (names : List ℕ → Bool) (blocks p : List ℕ)
    → filled form (at_places form names) blocks p ≡ (is_place (fit_form form blocks) p && filled form names blocks p)
filled_places form names blocks p =
    let fit = fit_form form blocks in
    ap (λ t. t || is_on_ways fit blocks p) (fit_places form names blocks p)
    ∙ sym (guarded_or (is_place fit p) (fit_names form names blocks p) (is_on_ways fit blocks p)
    (λ on. place_test fit p (ways_place fit blocks p on)))

-- restricting the test to the positions of the block map doesn't change the number of blocks needed
pub need_places : (form : BlockMap) (names : List ℕ → Bool) (blocks : List ℕ) → need_of form (at_places form names) blocks ≡ need_of form names blocks
unfolding need_of missing_count
need_places form names blocks =
    let fit = fit_form form blocks in
    ap (λ n. n + (if grows_large form blocks then 1 else 0))
    (count_among (λ p. is_on_ways fit blocks p && not (fit_names form (at_places form names) blocks p))
    (λ p. is_on_ways fit blocks p && not (fit_names form names blocks p)) (places fit)
    (λ p among. ap (λ t. is_on_ways fit blocks p && not t)
    (fit_places form names blocks p ∙ ap (λ t. t && fit_names form names blocks p) (place_test fit p (among_places fit p among)))))
