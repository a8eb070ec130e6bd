-- The extents of an i-node, expanded block by block.
use Rattle.std.proofs.Common.{◌≡◌, ◌≢◌, ◌⊎◌, inl, inr, ℕ, zero, suc, ◌+◌, ◌-◌, ◌*◌, ◌^◌, ◌==◌, ◌∙◌, sym, ap, List, [], ◌∷◌, ◌++◌, map, Bool, true, false, if◌then◌else◌, refl, arith, append_assoc, Option, None, Some}
use Rattle.std.proofs.lemmas.Bool.{cases_eq, ne_eqb, eqb-true, and_parts}
use Rattle.std.proofs.lemmas.List.{map-append}
use Rattle.std.proofs.lemmas.Grind.{flat_map-append}
use Rattle.std.specs.List.{flat_map, range_with_len}
use Rattle.vol_layout.specs.Edition.{constants}
use Rattle.vol_layout.specs.Geometry.{in_zone, Fits}
use Rattle.vol_layout.specs.Inode.{inode_place, address_at, kind_of}
use Rattle.vol_layout.specs.BlockPointers.{mode_of, form_at, named, pointer_in}
use Rattle.vol_layout.specs.BlockMaps.{has_places, file_form, first_count, pointer_count, levels, levels_below, places_from, places}
use Rattle.vol_layout.specs.declared.block_map.BlockMap.TheVariants.{Bare}
use Rattle.vol_layout.specs.declared.geometry.Geometry.{Geometry}
use Rattle.vol_layout.proofs.FrameLaws.{pointers_in}
use Rattle.vol_layout.proofs.NameLaws.{zero_out, named_stops}
use Rattle.vol_file.specs.Clears.{first_at, first_block}
use Rattle.vol_file.proofs.FirstBlocks.{entry_first}
use Rattle.vol_reports.proofs.Ranges.{range_more}
use Rattle.vol_inspect.specs.declared.extent.Extent.{Extent}
use Rattle.vol_inspect.specs.Extents.{single, same_bool, joins, extended, gathered, holdings_from, address_holdings, holdings, extents_of}
use Rattle.vol_inspect.specs.Laws.{laid_out, seen, seen_at, ShowsPlaces}
use Rattle.vol_inspect.proofs.Gatherings.{hold_zero, hold_leaf, hold_suc, entries_before}

-- an extent of one block expands to itself
one_laid : (g : Geometry) (level logical b : ℕ) → laid_out (single g level logical b) ≡ single g level logical b ∷ []
one_laid g level logical b =
    let at : logical + 0 ≡ logical = omega arith in
    let here : b + 0 ≡ b = omega arith in
    (λ k. (record { level = level; logical = at k; block = here k; count = 1; inside = in_zone g b }) ∷ [])

-- each extent is a single block
abbrev AreSingle : Geometry → List Extent → Type 0
AreSingle g [] = Unit {0}
AreSingle g (e ∷ es) = (e ≡ single g e.level e.logical e.block) × AreSingle g es

module _ (g : Geometry) where
  single_append : (xs ys : List Extent) → AreSingle g xs → AreSingle g ys → AreSingle g (xs ++ ys)
  single_append [] ys here there = there
  single_append (e ∷ xs) ys here there = (here.0, single_append xs ys here.1 there)

  single_flat : (f : ℕ → List Extent) (js : List ℕ) → ((j : ℕ) → AreSingle g (f j)) → AreSingle g (flat_map f js)
  single_flat f [] each = tt
  single_flat f (j ∷ js) each = single_append (f j) (flat_map f js) (each j) (single_flat f js each)

  single_unless : (t : Bool) (xs : List Extent) → AreSingle g xs → AreSingle g (if t then [] else xs)
  single_unless true xs each = tt
  single_unless false xs each = each

  -- the blocks at and below a number are single blocks
  single_from : (image : List ℕ) (d logical b : ℕ) → AreSingle g (holdings_from g image d logical b)
  unfolding holdings_from
  single_from image zero logical b = single_unless (b == 0) (single g 0 logical b ∷ []) (refl, tt)
  single_from image (suc d) logical b =
      let n = (constants g.edition).pointers in
      let entry : ℕ → List Extent = λ j. holdings_from g image d (logical + j * n ^ d) (pointer_in g image b j) in
      single_unless (b == 0) (single g (suc d) logical b ∷ flat_map entry (range_with_len 0 n))
      (refl, single_flat entry (range_with_len 0 n) (λ j. single_from image d (logical + j * n ^ d) (pointer_in g image b j)))

-- truth values that `same_bool` finds the same are equal
same_true : (a b : Bool) → same_bool a b ≡ true → a ≡ b
same_true true b same = sym same
same_true false true same = absurd (cc)
same_true false false same = refl

-- a block that joins an extent comes after the extent's blocks
joined_laid : (g : Geometry) (e next : Extent) → joins e next ≡ true → next ≡ single g next.level next.logical next.block
    → laid_out (extended e) ≡ laid_out e ++ next ∷ []
joined_laid g e next join one =
    let flat = and_parts (e.level == 0) _ join in
    let leaf = and_parts (next.level == 0) _ flat.1 in
    let zone = and_parts (same_bool e.inside next.inside) _ leaf.1 in
    let at = and_parts (e.logical + e.count == next.logical) _ zone.1 in
    let level : e.level ≡ next.level = eqb-true e.level 0 flat.0 ∙ sym (eqb-true next.level 0 leaf.0) in
    let logical : e.logical + e.count ≡ next.logical = eqb-true (e.logical + e.count) next.logical at.0 in
    let block : e.block + e.count ≡ next.block = eqb-true (e.block + e.count) next.block at.1 in
    let inside : e.inside ≡ in_zone g next.block = same_true e.inside next.inside zone.0 ∙ ap (λ x. x.inside) one in
    let place : ℕ → Extent = λ j. record e { logical = e.logical + j; block = e.block + j; count = 1 } in
    let last : place e.count ≡ single g next.level next.logical next.block =
    (λ k. record { level = level k; logical = logical k; block = block k; count = 1; inside = inside k }) in
    ap (map place) (range_more 0 e.count (e.count + 1) e.count refl (omega arith))
    ∙ (map-append place (range_with_len 0 e.count) (e.count ∷ []) ∙ ap (λ x. laid_out e ++ x ∷ []) (last ∙ sym one))

-- the blocks of the last extent, if there is one
abbrev last_laid : Option Extent → List Extent
last_laid None = []
last_laid (Some e) = laid_out e

-- joining blocks to extents keeps the blocks and their order
gathered_laid : (g : Geometry) (last : Option Extent) (es : List Extent) → AreSingle g es → flat_map laid_out (gathered last es) ≡ last_laid last ++ es
gathered_laid g None [] each = refl
gathered_laid g (Some e) [] each = refl
gathered_laid g None (next ∷ es) each =
    gathered_laid g (Some next) es each.1
    ∙ ap (λ xs. xs ++ es) (ap laid_out each.0 ∙ (one_laid g next.level next.logical next.block ∙ ap (λ x. x ∷ []) (sym each.0)))
gathered_laid g (Some e) (next ∷ es) each =
    elim (joins e next) as (λ t. joins e next ≡ t
    → flat_map laid_out (if t then gathered (Some (extended e)) es else e ∷ gathered (Some next) es) ≡ laid_out e ++ next ∷ es) [
      | true ↦ λ join.
          gathered_laid g (Some (extended e)) es each.1
          ∙ (ap (λ xs. xs ++ es) (joined_laid g e next join each.0) ∙ append_assoc (laid_out e) (next ∷ []) es)
      | false ↦ λ apart.
          ap (λ xs. laid_out e ++ xs) (gathered_laid g (Some next) es each.1
          ∙ ap (λ xs. xs ++ es) (ap laid_out each.0 ∙ (one_laid g next.level next.logical next.block ∙ ap (λ x. x ∷ []) (sym each.0))))
    ] refl

-- concatenations are equal if all lists are equal
flat_same : (f h : ℕ → List Extent) (js : List ℕ) → ((j : ℕ) → f j ≡ h j) → flat_map f js ≡ flat_map h js
flat_same f h [] same = refl
flat_same f h (j ∷ js) same = (λ k. same j k ++ flat_same f h js same k)

flat_seen : (s : List ℕ → List Extent) (f : ℕ → List (List ℕ)) (js : List ℕ) → flat_map s (flat_map f js) ≡ flat_map (λ j. flat_map s (f j)) js
flat_seen s f [] = refl
flat_seen s f (j ∷ js) = flat_map-append s (f j) (flat_map f js) ∙ ap (λ xs. flat_map s (f j) ++ xs) (flat_seen s f js)

flat_none : (h : ℕ → List Extent) (js : List ℕ) → ((j : ℕ) → h j ≡ []) → flat_map h js ≡ []
flat_none h [] none = refl
flat_none h (j ∷ js) none = ap (λ xs. xs ++ flat_map h js) (none j) ∙ flat_none h js none

-- a number other than 0 is one block
seen_some : (g : Geometry) (level logical b : ℕ) → b ≢ 0 → seen g level logical b ≡ single g level logical b ∷ []
seen_some g level logical b some = ap (λ (t : Bool). if t then [] else single g level logical b ∷ []) (ne_eqb b 0 some)

module _ (g : Geometry) (image : List ℕ) (i : ℕ) (fits : Fits g image) where
  -- if a block-map position is 0, there are no blocks at it or below it
  seen_none : (n d a : ℕ) (p : List ℕ) → named g image i (a ∷ p) ≡ 0 → flat_map (seen_at g image i) (places_from n (a ∷ p) d) ≡ []
  seen_none n zero a p none =
      ap (λ b. seen g (levels_below (form_at g image i) (a ∷ p)) (first_block (form_at g image i) (a ∷ p)) b ++ []) none
  seen_none n (suc d) a p none =
      let below : ℕ → List (List ℕ) = λ j. places_from n (j ∷ (a ∷ p)) d in
      let rest : flat_map (seen_at g image i) (flat_map below (range_with_len 0 n)) ≡ [] =
      flat_seen (seen_at g image i) below (range_with_len 0 n)
      ∙ flat_none (λ j. flat_map (seen_at g image i) (below j)) (range_with_len 0 n)
      (λ j. seen_none n d j (a ∷ p) (named_stops g image i j a p (ap (in_zone g) none ∙ zero_out g image fits))) in
      (λ k. seen g (levels_below (form_at g image i) (a ∷ p)) (first_block (form_at g image i) (a ∷ p)) (none k) ++ rest k)

  -- the blocks at and below the number of a position are the blocks of this position and of those below it
  seen_from : (n d a : ℕ) (p : List ℕ) → n ≡ (constants g.edition).pointers → pointer_count (form_at g image i) ≡ n
      → levels_below (form_at g image i) (a ∷ p) ≡ d
      → holdings_from g image d (first_block (form_at g image i) (a ∷ p)) (named g image i (a ∷ p))
      ≡ flat_map (seen_at g image i) (places_from n (a ∷ p) d)
  unfolding entries_before
  seen_from n zero a p edition many is =
      let b = named g image i (a ∷ p) in
      let at = first_block (form_at g image i) (a ∷ p) in
      elim (cases_eq b 0) [
        | inl none ↦ hold_zero g image 0 at b none ∙ sym (seen_none n 0 a p none)
        | inr some ↦
            hold_leaf g image 0 at b some refl
            ∙ (ap (λ l. single g l at b ∷ []) (sym is)
            ∙ sym (ap (λ xs. xs ++ []) (seen_some g (levels_below (form_at g image i) (a ∷ p)) at b some)))
      ]
  seen_from n (suc d) a p edition many is =
      let b = named g image i (a ∷ p) in
      let at = first_block (form_at g image i) (a ∷ p) in
      elim (cases_eq b 0) [
        | inl none ↦ hold_zero g image (suc d) at b none ∙ sym (seen_none n (suc d) a p none)
        | inr some ↦
            let below : ℕ → List (List ℕ) = λ j. places_from n (j ∷ (a ∷ p)) d in
            let entry : ℕ → ℕ → List Extent = λ m j. holdings_from g image d (at + j * m ^ d) (pointer_in g image b j) in
            let less : levels_below (form_at g image i) (a ∷ p) - 1 ≡ d = omega (arith, is) in
            let first : (j : ℕ) → at + j * n ^ d ≡ first_block (form_at g image i) (j ∷ (a ∷ p)) = λ j.
            ap (λ l. at + j * n ^ l) (sym less) ∙ sym (entry_first (form_at g image i) n (levels_below (form_at g image i) (a ∷ p)) j a p many refl) in
            let here : single g (suc d) at b ∷ [] ≡ seen_at g image i (a ∷ p) =
            ap (λ l. single g l at b ∷ []) (sym is) ∙ sym (seen_some g (levels_below (form_at g image i) (a ∷ p)) at b some) in
            let rest : flat_map (entry n) (range_with_len 0 n) ≡ flat_map (seen_at g image i) (flat_map below (range_with_len 0 n)) =
            flat_same (entry n) (λ j. flat_map (seen_at g image i) (below j)) (range_with_len 0 n)
            (λ j. ap (λ l. holdings_from g image d l (pointer_in g image b j)) (first j) ∙ seen_from n d j (a ∷ p) edition many less)
            ∙ sym (flat_seen (seen_at g image i) below (range_with_len 0 n)) in
            hold_suc g image d at b some
            ∙ (ap (λ m. single g (suc d) at b ∷ flat_map (entry m) (range_with_len 0 m)) (sym edition) ∙ (λ k. here k ++ rest k))
      ]

  -- an indirect block has as many entries as one of the edition, or there are no addresses
  pub pointers_or_none : (t : Bool) → (pointer_count (if t then file_form g.edition (mode_of g image i) else Bare) ≡ (constants g.edition).pointers)
      ⊎ (first_count (if t then file_form g.edition (mode_of g image i) else Bare) ≡ 0)
  pointers_or_none true = inl (pointers_in g.edition (mode_of g image i))
  pointers_or_none false = inr refl

  -- the blocks of all addresses are the blocks of all block-map positions
  seen_all : holdings g image i ≡ flat_map (seen_at g image i) (places (form_at g image i))
  unfolding holdings places
  seen_all =
      let form = form_at g image i in
      let from : ℕ → List (List ℕ) = λ k. places_from (pointer_count form) (k ∷ []) (levels form k) in
      elim (pointers_or_none (has_places (kind_of g.edition (mode_of g image i)))) [
        | inl many ↦
            flat_same (address_holdings g image i) (λ k. flat_map (seen_at g image i) (from k)) (range_with_len 0 (first_count form))
            (λ k. seen_from (pointer_count form) (levels form k) k [] many refl refl)
            ∙ sym (flat_seen (seen_at g image i) from (range_with_len 0 (first_count form)))
        | inr none ↦
            ap (λ n. flat_map (address_holdings g image i) (range_with_len 0 n)) none
            ∙ sym (ap (λ n. flat_map (seen_at g image i) (flat_map from (range_with_len 0 n))) none)
      ]

  -- each block of an i-node is a single block
  single_all : AreSingle g (holdings g image i)
  unfolding holdings
  single_all =
      single_flat g (address_holdings g image i) (range_with_len 0 (first_count (form_at g image i)))
      (λ k. single_from g image (levels (form_at g image i) k) (first_at (form_at g image i) k)
      (address_at g.edition image (inode_place g.edition i) k))

pub shows_places : ShowsPlaces
unfolding extents_of
shows_places g image i fits = gathered_laid g None (holdings g image i) (single_all g image i fits) ∙ seen_all g image i fits
