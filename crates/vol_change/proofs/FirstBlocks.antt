-- The block of a new directory is the first of the free list.
use Rattle.std.proofs.Common.{◌≡◌, ◌≢◌, ◌∙◌, sym, ap, subst, refl, ℕ, ◌+◌, ◌&&◌, ◌≤◌, not, true, false, List, [], ◌∷◌, length, drop, slice_index, get_or, inl, inr, arith}
use Rattle.std.specs.Prelude.{◌||◌}
use Rattle.std.specs.Str.{bytes_eq}
use Rattle.std.proofs.Math.Bool.{or-false}
use Rattle.std.proofs.lemmas.Bool.{cases_eq, ne_eqb}
use Rattle.std.proofs.lemmas.List.{get_or-drop}
use Rattle.vol_layout.specs.Inode.{inode_place}
use Rattle.vol_layout.specs.BlockPointers.{form_at, IsPlaceOf, named}
use Rattle.vol_layout.specs.BlockMaps.{last_place}
use Rattle.vol_layout.specs.declared.edition.Edition.{Edition}
use Rattle.vol_layout.specs.declared.edition.Edition.TheVariants.{V6, V7}
use Rattle.vol_layout.specs.declared.geometry.Geometry.{Geometry}
use Rattle.vol_layout.specs.declared.mode.Kind.TheVariants as kinds
use Rattle.vol_layout.proofs.InodeLaws.{inode_address}
use Rattle.vol_layout.proofs.NameLaws.{holds_named}
use Rattle.vol_free.specs.Stack.{IsFree, IsIn, Once}
use Rattle.vol_free.proofs.Frames.{free_zone}
use Rattle.vol_file.specs.Shape.{is_named}
use Rattle.vol_file.proofs.StoredNames.{place_same}
use Rattle.vol_file.proofs.PlaceLists.{same_bytes}
use Rattle.vol_dir.specs.Tree.{Shape, is_named_place, shapes}
use Rattle.vol_change.specs.Alone.{KeepsContent}
use Rattle.vol_change.specs.Changed.{FreeBecomes}
use Rattle.vol_change.specs.Shapes.{new_directory_shape}
use Rattle.vol_change.specs.Whole.{Rules3To8}
use Rattle.vol_change.proofs.EntryStates.{shape_is}
use Rattle.vol_dir.proofs.PlaceTests.{place_test}
use Rattle.vol_change.proofs.FreeLists.{one_list}
use Rattle.vol_change.proofs.WrittenStates.{IsKind}

-- the path to the first logical block is the position (0)
on_first : (p : List ℕ) → ((bytes_eq p (0 ∷ []) || false) || false) ≡ true → p ≡ 0 ∷ []
on_first p test = same_bytes p (0 ∷ []) (sym (or-false (bytes_eq p (0 ∷ []) || false) ∙ or-false (bytes_eq p (0 ∷ []))) ∙ test)

-- in the shape of a new directory only position (0) has a block
new_names : (edition : Edition) (p : List ℕ) → (new_directory_shape edition).names p ≡ true → p ≡ 0 ∷ []
unfolding last_place
new_names V6 p test = on_first p test
new_names V7 p test = on_first p test

-- in the image of a new directory only position (0) has an address
first_place : (geometry : Geometry) (image : List ℕ) (i : ℕ) (p : List ℕ) → IsKind geometry image i kinds.Directory
    → shapes geometry image i ≡ new_directory_shape geometry.edition → IsPlaceOf geometry image i p → named geometry image i p ≢ 0 → p ≡ 0 ∷ []
first_place geometry image i p is shape place some =
    let here : is_named_place geometry image i p ≡ true =
    ap (λ t. t && is_named geometry image i p) (place_test (form_at geometry image i) p place.place)
    ∙ ap not (ne_eqb (named geometry image i p) 0 some) in
    let same : is_named_place geometry image i p ≡ (new_directory_shape geometry.edition).names p =
    ap (λ (x : Shape). x.names p) (sym (shape_is geometry image i is) ∙ shape) in
    new_names geometry.edition p (sym same ∙ here)

-- if one block was taken, only file i changed, and i is now a new directory, its address is the first block of the old free list
pub first_taken : (geometry : Geometry) (old new : List ℕ) (i : ℕ) (blocks : List ℕ) (before : Rules3To8 geometry old) → Rules3To8 geometry new
    → FreeBecomes geometry old new (drop 1) → ((j : ℕ) → 1 ≤ j → j ≤ geometry.last_inode → j ≢ i → KeepsContent geometry old new j)
    → IsKind geometry new i kinds.Directory → shapes geometry new i ≡ new_directory_shape geometry.edition
    → 1 ≤ length blocks → IsFree geometry old blocks → named geometry new i (0 ∷ []) ≡ slice_index blocks 0
unfolding IsIn Once
first_taken geometry old new i [] before after takes kept is shape some free = absurd (omega arith)
first_taken geometry old new i (b ∷ rest) before after takes kept is shape some free =
    let left = one_list geometry new rest after (takes (b ∷ rest) free) in
    elim (after.covered b (free_zone free b (inl refl))) [
      | inl among ↦ absurd (free.once.0 (subst (IsIn b) left among))
      | inr found ↦
          let holds = holds_named geometry new found.0 found.1 b found.2.holds in
          elim (cases_eq found.0 i) [
            | inl same ↦
                let there : IsPlaceOf geometry new i found.1 = subst (λ j. IsPlaceOf geometry new j found.1) same found.2.place in
                let names : named geometry new i found.1 ≡ b = ap (λ j. named geometry new j found.1) (sym same) ∙ holds.0 in
                let first = first_place geometry new i found.1 is shape there (λ zero. holds.1 (sym names ∙ zero)) in
                ap (named geometry new i) (sym first) ∙ names
            | inr other ↦
                let stays = kept found.0 found.2.place.file.first found.2.place.file.last other in
                let there = place_same geometry new old found.0 found.1 (sym stays.mode) found.2.place in
                let names : named geometry old found.0 found.1 ≡ b = sym (stays.names found.1 there) ∙ holds.0 in
                absurd (before.sound.outside found.0 found.1 there
                (subst (IsIn (named geometry old found.0 found.1)) (sym (one_list geometry old (b ∷ rest) before free)) (inl names)))
          ]
    ]

-- if the content of a file doesn't change, neither does its first address
pub first_kept : (geometry : Geometry) (old new : List ℕ) (i : ℕ) → KeepsContent geometry old new i
    → named geometry new i (0 ∷ []) ≡ named geometry old i (0 ∷ [])
first_kept geometry old new i kept =
    sym (inode_address geometry.edition new (inode_place geometry.edition i) 0 (omega arith))
    ∙ (ap (λ xs. get_or xs 0 0) kept.addresses ∙ inode_address geometry.edition old (inode_place geometry.edition i) 0 (omega arith))

-- the first block after n blocks are dropped is block n
pub first_left : (n : ℕ) (xs : List ℕ) → slice_index (drop n xs) 0 ≡ slice_index xs n
first_left n xs = let same : n + 0 ≡ n = omega arith in get_or-drop n xs 0 0 ∙ ap (λ m. get_or xs m 0) same
