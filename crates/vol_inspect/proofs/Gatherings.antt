-- Collecting blocks one after another.
use Rattle.std.proofs.Common.{◌≡◌, ℕ, zero, suc, ◌+◌, ◌-◌, ◌*◌, ◌^◌, ◌≤◌, ◌∙◌, sym, ap, List, [], ◌∷◌, ◌++◌, refl, arith, append_assoc, None, Some, true, false, ◌≢◌, cond, eq-eqb}
use Rattle.std.proofs.lemmas.Bool.{ne_eqb}
use Rattle.std.proofs.lemmas.List.{append-nil}
use Rattle.std.specs.List.{flat_map, range_with_len}
use Rattle.vol_layout.specs.Edition.{constants, number}
use Rattle.vol_layout.specs.Geometry.{in_zone}
use Rattle.vol_layout.specs.BlockPointers.{pointer_in, form_at}
use Rattle.vol_layout.specs.BlockMaps.{first_count}
use Rattle.vol_layout.specs.declared.geometry.Geometry.{Geometry}
use Rattle.vol_reports.proofs.Ranges.{flat_more}
use Rattle.vol_inspect.specs.declared.extent.Extent.{Extent}
use Rattle.vol_inspect.specs.declared.extents.Gathering.{Gathering}
use Rattle.vol_inspect.specs.Extents.{single, joins, extended, gathered, gathering_with, Collects, holdings_from, address_holdings, holdings}

-- if nothing changes, no blocks are collected
pub notes_none : (s : Gathering) → Collects s s []
notes_none s = λ later. refl

-- blocks collected in two steps are the blocks of the first step followed by those of the second
pub notes_then : (old mid new : Gathering) (xs ys : List Extent) → Collects old mid xs → Collects mid new ys → Collects old new (xs ++ ys)
notes_then old mid new xs ys first next = λ later.
    next later ∙ (first (ys ++ later) ∙ ap (λ zs. gathering_with old zs) (sym (append_assoc xs ys later)))

-- the list of collected blocks may be replaced by an equal list
pub notes_as : (old new : Gathering) (xs ys : List Extent) → Collects old new xs → xs ≡ ys → Collects old new ys
notes_as old new xs ys done same = λ later. done later ∙ ap (λ zs. gathering_with old (zs ++ later)) same

-- a concatenation of empty lists is empty
flat_none : (f : ℕ → List Extent) (a n : ℕ) → ((j : ℕ) → f j ≡ []) → flat_map f (range_with_len a n) ≡ []
flat_none f a zero none = refl
flat_none f a (suc n) none = ap (λ xs. xs ++ flat_map f (range_with_len (a + 1) n)) (none a) ∙ flat_none f (a + 1) n none

-- the blocks at and below the entries before `j` of block `b`, with `d` levels below each
unfoldable pub entries_before : Geometry → List ℕ → ℕ → ℕ → ℕ → ℕ → List Extent
entries_before g image d logical b j =
    flat_map (λ j. holdings_from g image d (logical + j * (constants g.edition).pointers ^ d) (pointer_in g image b j)) (range_with_len 0 j)

-- before the first entry there are no blocks
pub entries_none : (g : Geometry) (image : List ℕ) (d logical b : ℕ) → entries_before g image d logical b 0 ≡ []
unfolding entries_before
entries_none g image d logical b = refl

-- one more entry adds the blocks at and below it
pub entries_more : (g : Geometry) (image : List ℕ) (d logical b j at n : ℕ) → pointer_in g image b j ≡ n
    → logical + j * (constants g.edition).pointers ^ d ≡ at
    → entries_before g image d logical b (j + 1) ≡ entries_before g image d logical b j ++ holdings_from g image d at n
unfolding entries_before
entries_more g image d logical b j at n is there =
    flat_more (λ j. holdings_from g image d (logical + j * (constants g.edition).pointers ^ d) (pointer_in g image b j)) 0 j (j + 1) j refl (omega arith)
    ∙ ap (λ xs. entries_before g image d logical b j ++ xs) (λ i. holdings_from g image d (there i) (is i))

-- there are no blocks at or below number 0
pub hold_zero : (g : Geometry) (image : List ℕ) (d logical b : ℕ) → b ≡ 0 → holdings_from g image d logical b ≡ []
unfolding holdings_from
hold_zero g image zero logical b none = ap (λ t. cond t [] (single g 0 logical b ∷ [])) (eq-eqb b 0 none)
hold_zero g image (suc d) logical b none = ap (holdings_from g image (suc d) logical) none

-- a block with no levels below it is the only one
pub hold_leaf : (g : Geometry) (image : List ℕ) (d logical b : ℕ) → b ≢ 0 → d ≡ 0 → holdings_from g image d logical b ≡ single g d logical b ∷ []
unfolding holdings_from
hold_leaf g image d logical b some leaf =
    ap (λ x. holdings_from g image x logical b) leaf
    ∙ (ap (λ t. cond t [] (single g 0 logical b ∷ [])) (ne_eqb b 0 some) ∙ ap (λ x. single g x logical b ∷ []) (sym leaf))

-- a block with `d` + 1 levels comes before the blocks of its entries
pub hold_suc : (g : Geometry) (image : List ℕ) (d logical b : ℕ) → b ≢ 0
    → holdings_from g image (suc d) logical b ≡ single g (suc d) logical b ∷ entries_before g image d logical b (constants g.edition).pointers
unfolding holdings_from entries_before
hold_suc g image d logical b some =
    ap (λ t. cond t [] (single g (suc d) logical b
    ∷ flat_map (λ j. holdings_from g image d (logical + j * (constants g.edition).pointers ^ d) (pointer_in g image b j)) (range_with_len 0 (constants g.edition).pointers)))
    (ne_eqb b 0 some)

-- a block with `d` levels, at least one, comes before the blocks of its entries, which have `d` - 1 levels
pub hold_entries : (g : Geometry) (image : List ℕ) (d logical b : ℕ) → b ≢ 0 → 1 ≤ d
    → holdings_from g image d logical b ≡ single g d logical b ∷ entries_before g image (d - 1) logical b (constants g.edition).pointers
hold_entries g image d logical b some one =
    let size : d ≡ suc (d - 1) = omega arith in
    ap (λ x. holdings_from g image x logical b) size
    ∙ (hold_suc g image (d - 1) logical b some
    ∙ ap (λ x. single g x logical b ∷ entries_before g image (d - 1) logical b (constants g.edition).pointers) (sym size))

-- a number outside the data blocks has no blocks below it
pub hold_outside : (g : Geometry) (image : List ℕ) (d logical b : ℕ) → b ≢ 0 → 1 ≤ d → in_zone g b ≡ false
    → holdings_from g image d logical b ≡ single g d logical b ∷ []
unfolding entries_before pointer_in
hold_outside g image d logical b some one out =
    hold_entries g image d logical b some one
    ∙ ap (λ xs. single g d logical b ∷ xs)
    (flat_none (λ j. holdings_from g image (d - 1) (logical + j * (constants g.edition).pointers ^ (d - 1)) (pointer_in g image b j)) 0 (constants g.edition).pointers
    (λ j. hold_zero g image (d - 1) (logical + j * (constants g.edition).pointers ^ (d - 1)) (pointer_in g image b j)
    (ap (λ t. cond t (number g.edition image (512 * b) j) 0) out)))

-- the blocks at and below the addresses before `k`
unfoldable pub addresses_before : Geometry → List ℕ → ℕ → ℕ → List Extent
addresses_before g image i k = flat_map (address_holdings g image i) (range_with_len 0 k)

-- before the first address there are no blocks
pub addresses_none : (g : Geometry) (image : List ℕ) (i : ℕ) → addresses_before g image i 0 ≡ []
unfolding addresses_before
addresses_none g image i = refl

-- one more address adds the blocks at and below it
pub addresses_more : (g : Geometry) (image : List ℕ) (i k : ℕ) → addresses_before g image i (k + 1) ≡ addresses_before g image i k ++ address_holdings g image i k
unfolding addresses_before
addresses_more g image i k = flat_more (address_holdings g image i) 0 k (k + 1) k refl (omega arith)

-- the blocks of all addresses are the blocks of the i-node
pub addresses_all : (g : Geometry) (image : List ℕ) (i : ℕ) → addresses_before g image i (first_count (form_at g image i)) ≡ holdings g image i
unfolding addresses_before holdings
addresses_all g image i = refl

-- if no blocks follow, the extents are those before, joined with the collected blocks
pub notes_end : (old new : Gathering) (xs : List Extent) → Collects old new xs → new.done.items ++ gathered new.last [] ≡ old.done.items ++ gathered old.last xs
notes_end old new xs done = done [] ∙ ap (λ zs. old.done.items ++ gathered old.last zs) (append-nil xs)

-- if there was no last extent, the collected block becomes the last one
pub notes_fresh : (old new : Gathering) (next : Extent) → old.last ≡ None → new.done.items ≡ old.done.items → new.last ≡ Some next → Collects old new (next ∷ [])
notes_fresh old new next none done last = λ later.
    (λ i. done i ++ gathered (last i) later) ∙ ap (λ o. old.done.items ++ gathered o (next ∷ later)) (sym none)

-- if the collected block joins the last extent, it extends that extent
pub notes_joined : (old new : Gathering) (e next : Extent) → old.last ≡ Some e → joins e next ≡ true → new.done.items ≡ old.done.items
    → new.last ≡ Some (extended e) → Collects old new (next ∷ [])
notes_joined old new e next was join done last = λ later.
    (λ i. done i ++ gathered (last i) later)
    ∙ (ap (λ t. old.done.items ++ cond t (gathered (Some (extended e)) later) (e ∷ gathered (Some next) later)) (sym join)
    ∙ ap (λ o. old.done.items ++ gathered o (next ∷ later)) (sym was))

-- if the collected block doesn't join the last extent, it becomes the new last one
pub notes_apart : (old new : Gathering) (e next : Extent) → old.last ≡ Some e → joins e next ≡ false → new.done.items ≡ old.done.items ++ e ∷ []
    → new.last ≡ Some next → Collects old new (next ∷ [])
notes_apart old new e next was apart done last = λ later.
    (λ i. done i ++ gathered (last i) later)
    ∙ (append_assoc old.done.items (e ∷ []) (gathered (Some next) later)
    ∙ (ap (λ t. old.done.items ++ cond t (gathered (Some (extended e)) later) (e ∷ gathered (Some next) later)) (sym apart)
    ∙ ap (λ o. old.done.items ++ gathered o (next ∷ later)) (sym was)))
