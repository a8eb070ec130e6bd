-- The shape of a file: which positions in its block map point to a block, without the block numbers.
use Rattle.std.specs.Prelude.{ℕ, zero, suc, ◌+◌, ◌-◌, ◌/◌, ◌==◌, ◌&&◌, ◌||◌, Bool, false, not, nat_lt, nat_le, if◌then◌else◌, List, [], ◌∷◌}
use Rattle.std.specs.List.{list_any, range_with_len}
use Rattle.std.specs.Str.{bytes_eq}
use Rattle.vol_layout.specs.BlockPointers.{named}
use Rattle.vol_layout.specs.BlockMaps.{way}
use Rattle.vol_layout.specs.declared.geometry.Geometry.{Geometry}
use Rattle.vol_layout.specs.declared.block_map.BlockMap.{BlockMap}
use Rattle.vol_layout.specs.declared.block_map.BlockMap.TheVariants.{Small, Large, Deep, Bare}

-- true if a position in the block map of i-node i points to a block (manual section 5, file system)
abbrev pub is_named : Geometry → List ℕ → ℕ → List ℕ → Bool
is_named geometry image i p = not (named geometry image i p == 0)

-- the logical blocks that contain at least one of n bytes from an offset (Lions on writei)
abbrev pub touched : ℕ → ℕ → List ℕ
touched offset zero = []
touched offset (suc n) = range_with_len (offset / 512) ((offset + n) / 512 - offset / 512 + 1)

-- true if a position in the block map is on the path of one of these logical blocks (Lions on bmap)
abbrev pub is_on_ways : BlockMap → List ℕ → List ℕ → Bool
is_on_ways form blocks p = list_any (λ b. list_any (bytes_eq p) (way form b)) blocks

-- true if a file becomes large when these logical blocks are touched: a small file of the sixth edition, if one of the blocks is its ninth or a later
-- one (Lions on bmap)
abbrev pub grows_large : BlockMap → List ℕ → Bool
grows_large Small blocks = list_any (λ b. nat_le 8 b) blocks
grows_large Large blocks = false
grows_large Deep blocks = false
grows_large Bare blocks = false

-- true for a position in the block map that points to a block after a small file was made large: `[0]` points to a block with the eight old addresses
-- (Lions on bmap)
abbrev pub moved_down : (List ℕ → Bool) → List ℕ → Bool
moved_down names [] = false
moved_down names (k ∷ []) = k == 0
moved_down names (k ∷ (a ∷ [])) = (a == 0) && (nat_lt k 8 && names (k ∷ []))
moved_down names (j ∷ (k ∷ (a ∷ p))) = false

-- the block map of a file when these logical blocks are touched: large if the file becomes large (Lions on bmap)
abbrev pub fit_form : BlockMap → List ℕ → BlockMap
fit_form form blocks = if grows_large form blocks then Large else form

-- true for a position that points to a block in that block map, before any missing block is added (Lions on bmap)
abbrev pub fit_names : BlockMap → (List ℕ → Bool) → List ℕ → List ℕ → Bool
fit_names form names blocks = if grows_large form blocks then moved_down names else names

-- true for a position in the block map that points to a block after the missing blocks on the paths of these logical blocks were added (Lions on
-- bmap)
abbrev pub filled : BlockMap → (List ℕ → Bool) → List ℕ → List ℕ → Bool
filled form names blocks p = fit_names form names blocks p || is_on_ways (fit_form form blocks) blocks p
