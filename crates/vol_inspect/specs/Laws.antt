-- Laws of the reports on an i-node and on a block, as statements.
use Rattle.std.specs.Prelude.{◌≡◌, ◌↔◌, ◌⊎◌, ℕ, ◌+◌, ◌==◌, ◌≤◌, true, if◌then◌else◌, List, [], ◌∷◌, Option, map}
use Rattle.std.specs.List.{flat_map, range_with_len}
use Rattle.vol_layout.specs.Geometry.{Fits, in_zone}
use Rattle.vol_layout.specs.BlockMaps.{levels_below, places}
use Rattle.vol_layout.specs.BlockPointers.{form_at, named}
use Rattle.vol_layout.specs.declared.geometry.Geometry.{Geometry}
use Rattle.vol_file.specs.Clears.{first_block}
use Rattle.vol_reports.specs.Icheck.{is_lost}
use Rattle.vol_inspect.specs.Cells.{cell_of, has_fault, use_count}
use Rattle.vol_inspect.specs.Extents.{single, extents_of}
use Rattle.vol_inspect.specs.Owners.{owners_of}
use Rattle.vol_inspect.specs.declared.cell_groups.Cell.TheVariants as cells
use Rattle.vol_inspect.specs.declared.extent.Extent.{Extent}
use Rattle.vol_inspect.specs.declared.owners.Owner.TheVariants as owners
use Rattle.vol_inspect.specs.declared.uses.Use.{Use}
use Rattle.vol_inspect.specs.declared.uses.Use.TheVariants as uses

-- the blocks of an extent, one by one (this project)
abbrev pub laid_out : Extent → List Extent
laid_out e = map (λ j. record e { logical = e.logical + j; block = e.block + j; count = 1 }) (range_with_len 0 e.count)

-- a number in the block map, as one block; 0 points to no block (Lions on bmap)
abbrev pub seen : Geometry → ℕ → ℕ → ℕ → List Extent
seen g level logical b = if b == 0 then [] else single g level logical b ∷ []

-- the block that position `p` of i-node `i` points to, with the number of levels of blocks below it, and the first logical block at or below the
-- position (Lions on bmap)
abbrev pub seen_at : Geometry → List ℕ → ℕ → List ℕ → List Extent
seen_at g image i p = seen g (levels_below (form_at g image i) p) (first_block (form_at g image i) p) (named g image i p)

-- block by block, the extents of an i-node are the blocks in its block map, in its order (Lions on itrunc)
abbrev pub ShowsPlaces : Type 0
ShowsPlaces = (g : Geometry) (image : List ℕ) (i : ℕ) → Fits g image
    → flat_map laid_out (extents_of g image i) ≡ flat_map (seen_at g image i) (places (form_at g image i))

-- a data block has no owner but `Lost` if and only if the block report has it as lost (icheck)
abbrev pub ShowsLost : Type 0
ShowsLost = (g : Geometry) (image : List ℕ) (b : ℕ) → Fits g image → in_zone g b ≡ true
    → (owners_of g image b ≡ owners.Lost ∷ []) ↔ (is_lost g image b ≡ true)

-- a cell that shows a use has no more blocks of any other use (this project)
abbrev pub NoUseHasMore : Type 0
NoUseHasMore = (blocks : List (Option Use)) (shown u : Use) → cell_of blocks ≡ cells.Of shown → use_count u blocks ≤ use_count shown blocks

-- a cell that shows a use has no block that is lost, nor one that is named twice, unless that is the use (this project)
abbrev pub HidesNoFault : Type 0
HidesNoFault =
    (blocks : List (Option Use)) (shown : Use) → cell_of blocks ≡ cells.Of shown
    → ((use_count uses.Lost blocks ≡ 0) ⊎ (shown ≡ uses.Lost)) × ((use_count uses.Twice blocks ≡ 0) ⊎ (shown ≡ uses.Twice))

-- a cell that shows a use has no unreadable block, nor one whose use isn't known, unless that is the use; and a cell that is unsure has no block that is lost or
-- named twice (this project)
abbrev pub HidesNoGap : Type 0
HidesNoGap =
    (blocks : List (Option Use)) (shown : Use)
    → (cell_of blocks ≡ cells.Of shown
    → ((use_count uses.Unknown blocks ≡ 0) ⊎ (shown ≡ uses.Unknown)) × ((use_count uses.Unreadable blocks ≡ 0) ⊎ (shown ≡ uses.Unreadable)))
    × (cell_of blocks ≡ cells.Unsure → (use_count uses.Lost blocks ≡ 0) × (use_count uses.Twice blocks ≡ 0))

-- a faulty cell has a block that is lost or named twice; an unsure one has a block that is unreadable or whose use isn't known; and a blank one has none that is
-- shown (this project)
abbrev pub MarksAreRight : Type 0
MarksAreRight =
    (blocks : List (Option Use))
    → (cell_of blocks ≡ cells.Faulty → has_fault blocks ≡ true)
    × (cell_of blocks ≡ cells.Unsure → (1 ≤ use_count uses.Unknown blocks) ⊎ (1 ≤ use_count uses.Unreadable blocks))
    × (cell_of blocks ≡ cells.Blank → (u : Use) → use_count u blocks ≡ 0)
