-- The number of blocks that a write allocates, and the positions in the block map for which it allocates them (Lions on bmap).
use Rattle.std.specs.Prelude.{ℕ, ◌+◌, ◌&&◌, ◌||◌, Bool, not, if◌then◌else◌, List, [], ◌∷◌, ◌++◌, filter, reverse}
use Rattle.std.specs.List.{count_by, list_any}
use Rattle.std.specs.Str.{bytes_eq}
use Rattle.vol_layout.specs.BlockPointers.{form_at}
use Rattle.vol_layout.specs.BlockMaps.{way, places}
use Rattle.vol_file.specs.Shape.{is_named, touched, is_on_ways, grows_large, fit_form, fit_names}
use Rattle.vol_layout.specs.declared.geometry.Geometry.{Geometry}
use Rattle.vol_layout.specs.declared.block_map.BlockMap.{BlockMap}

-- the number of positions in the block map on the paths of these logical blocks that point to no block (Lions on bmap)
unfoldable pub missing_count : BlockMap → (List ℕ → Bool) → List ℕ → ℕ
missing_count form names blocks = count_by (λ p. is_on_ways form blocks p && not (names p)) (places form)

-- the number of blocks that must be allocated so that a file has these logical blocks: the missing ones, and one more if the file becomes large
-- (Lions on bmap)
unfoldable pub need_of : BlockMap → (List ℕ → Bool) → List ℕ → ℕ
need_of form names blocks =
    missing_count (fit_form form blocks) (fit_names form names blocks) blocks + (if grows_large form blocks then 1 else 0)

-- the number of blocks that a write of len bytes at an offset of i-node i needs (Lions on bmap)
abbrev pub need : Geometry → List ℕ → ℕ → ℕ → ℕ → ℕ
need geometry image i offset len = need_of (form_at geometry image i) (is_named geometry image i) (touched offset len)

-- the positions in the block map on the path of a logical block that point to no block, from the i-node down (Lions on bmap)
abbrev pub missing_on_way : BlockMap → (List ℕ → Bool) → ℕ → List (List ℕ)
missing_on_way form names b = filter (λ p. not (names p)) (reverse (way form b))

-- the positions in the block map on the paths of these logical blocks that point to no block, block by block and from the i-node down; a position on
-- several paths is listed once, at the first (Lions on bmap; the order is this project's)
unfoldable pub missing_places : BlockMap → (List ℕ → Bool) → List ℕ → List (List ℕ)
missing_places form names [] = []
missing_places form names (b ∷ blocks) =
    missing_on_way form names b ++ missing_places form (λ p. names p || list_any (bytes_eq p) (way form b)) blocks

-- the positions in the block map for which blocks are allocated when these logical blocks are touched, in order: `[0]` first if the file becomes
-- large, then the missing ones (Lions on bmap; the order is this project's)
abbrev pub places_taken : BlockMap → (List ℕ → Bool) → List ℕ → List (List ℕ)
places_taken form names blocks =
    (if grows_large form blocks then (0 ∷ []) ∷ [] else []) ++ missing_places (fit_form form blocks) (fit_names form names blocks) blocks
