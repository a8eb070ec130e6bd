-- Statements of the laws about lists of positions in a block map, and about the number of blocks that a write needs.
use Rattle.std.specs.Prelude.{◌≡◌, ℕ, ◌+◌, ◌/◌, ◌<◌, ◌≤◌, ◌⊎◌, ◌↔◌, Bool, true, false, List, [], ◌∷◌, length}
use Rattle.std.specs.List.{count_by, range_with_len}
use Rattle.std.specs.Str.{bytes_eq}
use Rattle.vol_layout.specs.BlockMaps.{IsPlace, places}
use Rattle.vol_free.specs.Stack.{IsIn}
use Rattle.vol_file.specs.Shape.{touched, is_on_ways}
use Rattle.vol_file.specs.Need.{missing_count, need_of, need, missing_places, places_taken}
use Rattle.vol_file.specs.MissingBlocks.{missing_from}
use Rattle.vol_layout.specs.declared.geometry.Geometry.{Geometry}
use Rattle.vol_layout.specs.declared.block_map.BlockMap.{BlockMap}

-- position p in the block map is in the list (membership)
abbrev pub IsAmong : List ℕ → List (List ℕ) → Type 0
IsAmong p [] = ⊥
IsAmong p (q ∷ qs) = (p ≡ q) ⊎ IsAmong p qs

-- the list `places` contains exactly the positions in the block map (this project)
abbrev pub ListsPlaces : Type 0
ListsPlaces = (form : BlockMap) (p : List ℕ) → IsAmong p (places form) ↔ IsPlace form p

-- the list `places` contains each position in the block map once (this project)
abbrev pub ListsPlacesOnce : Type 0
ListsPlacesOnce = (form : BlockMap) (p : List ℕ) → IsPlace form p → count_by (bytes_eq p) (places form) ≡ 1

-- the number of positions in the block map on the paths of n consecutive logical blocks that point to no block is the same counted over all positions
-- and counted block by block, where a position on the paths of two blocks is counted once (Lions on bmap)
abbrev pub CountsBlockByBlock : Type 0
CountsBlockByBlock = (form : BlockMap) (names : List ℕ → Bool) (first n : ℕ)
    → missing_count form names (range_with_len first n) ≡ missing_from form names first n

-- a write of no bytes needs no block (this project)
abbrev pub NeedsNothingForNothing : Type 0
NeedsNothingForNothing = (geometry : Geometry) (image : List ℕ) (i offset : ℕ) → need geometry image i offset 0 ≡ 0

-- the list `missing_places` contains exactly the positions in the block map on the paths of some logical blocks that point to no block (this project)
abbrev pub MissesWhatIsUnnamed : Type 0
MissesWhatIsUnnamed = (form : BlockMap) (names : List ℕ → Bool) (blocks p : List ℕ)
    → IsAmong p (missing_places form names blocks) ↔ ((is_on_ways form blocks p ≡ true) × (names p ≡ false))

-- the number of positions in the block map that get a block is the number of blocks needed (this project)
abbrev pub TakesWhatIsNeeded : Type 0
TakesWhatIsNeeded = (form : BlockMap) (names : List ℕ → Bool) (blocks : List ℕ) → length (places_taken form names blocks) ≡ need_of form names blocks

-- a logical block is touched by a range of bytes if and only if it contains one of them (Lions on writei)
abbrev pub TouchesWhereBytesLie : Type 0
TouchesWhereBytesLie = (offset len b : ℕ) → IsIn b (touched offset len) ↔ ((n : ℕ) × (offset ≤ n) × (n < offset + len) × (n / 512 ≡ b))
