-- The steps of a truncation: which positions in the block map are cleared, and which blocks are freed.
use Rattle.std.specs.Prelude.{◌≡◌, ◌≢◌, ℕ, zero, suc, ◌+◌, ◌-◌, ◌*◌, ◌^◌, ◌<◌, ◌≤◌, ◌⊎◌, ◌==◌, not, Bool, true, nat_le, if◌then◌else◌, List, [], ◌∷◌, ◌++◌, length, map, filter, slice_index}
use Rattle.std.specs.List.{flat_map, range_with_len}
use Rattle.vol_layout.specs.Edition.{constants}
use Rattle.vol_layout.specs.BlockMaps.{pointer_count, levels_below, places_from, places}
use Rattle.vol_layout.specs.Laws.{IsFront}
use Rattle.vol_layout.specs.BlockPointers.{mode_of, form_at, IsPlaceOf, named}
use Rattle.vol_free.specs.Stack.{IsFree}
use Rattle.vol_file.specs.Rules.{size_of, Rules3To7With, IsCovered}
use Rattle.vol_file.specs.Changes.{StaysElsewhere, KeepsBlocks}
use Rattle.vol_layout.specs.declared.geometry.Geometry.{Geometry}
use Rattle.vol_layout.specs.declared.block_map.BlockMap.{BlockMap}
use Rattle.vol_layout.specs.declared.block_map.BlockMap.TheVariants.{Small, Large, Deep, Bare}

-- position q in the block map is entry j or a later entry of the block to which position p points, or is below such an entry (Lions on bmap)
pub record IsUnder (p : List ℕ) (j : ℕ) (q : List ℕ) : Type 0 where
  pub index : ℕ
  pub from : j ≤ index
  pub front : IsFront (index ∷ p) q

-- the first logical block below address k of an i-node (Lions on bmap; ino.h)
abbrev pub first_at : BlockMap → ℕ → ℕ
first_at Small k = k
first_at Large k = 256 * k
first_at Deep k = if k == 11 then 138 else if k == 12 then 16522 else k
first_at Bare k = k

-- the first logical block to which a position in the block map points, or which is below it (Lions on bmap)
abbrev pub first_block : BlockMap → List ℕ → ℕ
first_block form [] = 0
first_block form (k ∷ []) = first_at form k
first_block form (j ∷ (a ∷ p)) = first_block form (a ∷ p) + j * pointer_count form ^ levels_below form (j ∷ (a ∷ p))

-- true if none of the first `kept` logical blocks is at or below position q in the block map (this project)
abbrev pub is_past : BlockMap → ℕ → List ℕ → Bool
is_past form kept q = nat_le kept (first_block form q)

-- none of the first `kept` logical blocks of file i is at or below position q in the block map (this project)
abbrev pub IsPast : Geometry → List ℕ → ℕ → ℕ → List ℕ → Type 0
IsPast geometry image i kept q = is_past (form_at geometry image i) kept q ≡ true

-- the blocks to which these positions in the block map of a file point, in the order of the positions (Lions on itrunc)
unfoldable pub blocks_at : Geometry → List ℕ → ℕ → List (List ℕ) → List ℕ
blocks_at geometry image i places = filter (λ k. not (k == 0)) (map (named geometry image i) places)

-- `count` entries of the block to which position p in the block map points, starting with entry `from`, each followed by the positions below it;
-- entry x has `level x` levels below it (Lions on itrunc)
abbrev pub places_among : ℕ → (ℕ → ℕ) → List ℕ → ℕ → ℕ → List (List ℕ)
places_among n level p from count = flat_map (λ x. places_from n (x ∷ p) (level x)) (range_with_len from count)

-- the positions in the block map at most d levels below position p, in depth-first order of their indexes (Lions on itrunc)
abbrev pub places_below : ℕ → List ℕ → ℕ → List (List ℕ)
places_below n p zero = []
places_below n p (suc d) = places_among n (λ x. d) p 0 n

-- position q in the block map of file i points to block b, which is not 0 (manual section 5, file system)
pub record IsNamedAt (geometry : Geometry) (image : List ℕ) (i : ℕ) (q : List ℕ) (b : ℕ) : Type 0 where
  pub place : IsPlaceOf geometry image i q
  pub names : named geometry image i q ≡ b
  pub some : b ≢ 0

-- no position below position q in the block map of file i points to a block (Lions on itrunc)
abbrev pub IsEmptyUnder : Geometry → List ℕ → ℕ → List ℕ → Type 0
IsEmptyUnder geometry image i q = (p : List ℕ) → IsPlaceOf geometry image i p → IsUnder q 0 p → named geometry image i p ≡ 0

-- the positions in file i's block map that satisfy `Cleared` now point to no block, the blocks `given` are free in addition to `blocks`, and nothing
-- else has changed; the data blocks of the other positions keep their bytes (Lions on itrunc)
pub record Clears (geometry : Geometry) (old new : List ℕ) (i : ℕ) (Cleared : List ℕ → Type 0) (given blocks : List ℕ) : Type 0 where
  pub alone : StaysElsewhere geometry old new i
  pub mode : mode_of geometry new i ≡ mode_of geometry old i
  pub size : size_of geometry new i ≡ size_of geometry old i
  pub sound : Rules3To7With geometry new (given ++ blocks)
  pub covered : IsCovered geometry old blocks → IsCovered geometry new (given ++ blocks)
  pub less : (q : List ℕ) → IsPlaceOf geometry old i q → (named geometry new i q ≡ named geometry old i q) ⊎ (named geometry new i q ≡ 0)
  pub gone : (q : List ℕ) → IsPlaceOf geometry old i q → Cleared q → named geometry new i q ≡ 0
  pub kept : (q : List ℕ) → IsPlaceOf geometry old i q → (Cleared q → ⊥) → named geometry new i q ≡ named geometry old i q
  pub bytes : (q : List ℕ) (r : ℕ) → IsPlaceOf geometry old i q → levels_below (form_at geometry old i) q ≡ 0 → (Cleared q → ⊥)
      → named geometry old i q ≢ 0 → r < 512 → slice_index new (512 * named geometry old i q + r) ≡ slice_index old (512 * named geometry old i q + r)
  pub unused : KeepsBlocks old new blocks

-- the number of free blocks has grown by `count` (Lions on itrunc)
abbrev pub Gains : Geometry → List ℕ → List ℕ → ℕ → Type 0
Gains geometry old new count = (before after : List ℕ) → IsFree geometry old before → IsFree geometry new after → length after ≡ count + length before

-- if position q in the block map of file i pointed to block b and no position below q pointed to a block, then q is cleared and b is free (Lions on
-- itrunc)
abbrev pub Drops : Geometry → List ℕ → List ℕ → ℕ → List ℕ → ℕ → List ℕ → Type 0
Drops geometry old new i q b blocks = Rules3To7With geometry old blocks → IsNamedAt geometry old i q b → IsEmptyUnder geometry old i q
    → Clears geometry old new i (IsFront q) (b ∷ []) blocks

-- entry j of indirect block m, which belongs to some file, points to block b (manual section 5, file system)
pub record HasPointer (geometry : Geometry) (image : List ℕ) (m j b : ℕ) : Type 0 where
  pub blocks : List ℕ
  pub sound : Rules3To7With geometry image blocks
  pub file : ℕ
  pub index : ℕ
  pub place : List ℕ
  pub block : named geometry image file (index ∷ place) ≡ m
  pub is : IsNamedAt geometry image file (j ∷ (index ∷ place)) b

-- address k of file i points to block b (manual section 5, file system)
pub record HasAddress (geometry : Geometry) (image : List ℕ) (i k b : ℕ) : Type 0 where
  pub blocks : List ℕ
  pub sound : Rules3To7With geometry image blocks
  pub is : IsNamedAt geometry image i (k ∷ []) b

-- a position with `level` levels below it, in some file's block map, points to block b (manual section 5, file system)
pub record IsNamedAtLevel (geometry : Geometry) (image : List ℕ) (b level : ℕ) : Type 0 where
  pub blocks : List ℕ
  pub sound : Rules3To7With geometry image blocks
  pub file : ℕ
  pub index : ℕ
  pub place : List ℕ
  pub is : IsNamedAt geometry image file (index ∷ place) b
  pub below : levels_below (form_at geometry image file) (index ∷ place) ≡ level

-- position q in the block map is past the blocks kept by a truncation, and is entry j or a later entry of the block to which position p points, or is
-- below such an entry (Lions on itrunc)
abbrev pub IsPastUnder : (List ℕ → Bool) → List ℕ → ℕ → List ℕ → Type 0
IsPastUnder past p j q = IsUnder p j q × (past q ≡ true)

-- if a position in the block map with `level` levels below it points to block b, the positions below it that are on no path to the first `kept`
-- logical blocks below b are cleared, and the blocks to which they pointed are free (Lions on itrunc)
abbrev pub ClearsBelow : Geometry → List ℕ → List ℕ → ℕ → ℕ → ℕ → Type 0
ClearsBelow geometry old new b level kept = (i a bound : ℕ) (p blocks : List ℕ) → Rules3To7With geometry old blocks
    → IsNamedAt geometry old i (a ∷ p) b → levels_below (form_at geometry old i) (a ∷ p) ≡ level
    → kept ≡ bound - first_block (form_at geometry old i) (a ∷ p)
    → Clears geometry old new i (IsPastUnder (is_past (form_at geometry old i) bound) (a ∷ p) 0)
    (blocks_at geometry old i (filter (is_past (form_at geometry old i) bound) (places_below (constants geometry.edition).pointers (a ∷ p) level))) blocks

-- the positions in the block map of file i past its first `kept` logical blocks are cleared, and the blocks to which they pointed are free (Lions on
-- itrunc)
abbrev pub ClearsPast : Geometry → List ℕ → List ℕ → ℕ → ℕ → List ℕ → Type 0
ClearsPast geometry old new i kept blocks =
    Clears geometry old new i (IsPast geometry old i kept)
    (blocks_at geometry old i (filter (is_past (form_at geometry old i) kept) (places (form_at geometry old i)))) blocks
