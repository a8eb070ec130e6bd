-- The number of positions in the block map on the paths of touched logical blocks that point to no block, counted block by block.
use Rattle.std.specs.Prelude.{ℕ, zero, suc, ◌+◌, ◌==◌, ◌||◌, Bool, false, nat_le, if◌then◌else◌, List, [], ◌∷◌}
use Rattle.std.specs.Option.{option_map_or}
use Rattle.vol_layout.specs.BlockMaps.{last_place}
use Rattle.vol_file.specs.Shape.{moved_down}
use Rattle.vol_layout.specs.declared.block_map.BlockMap.{BlockMap}
use Rattle.vol_layout.specs.declared.block_map.BlockMap.TheVariants.{Small, Large, Deep, Bare}

-- the number of positions in the block map on the path to a position, including itself, that point to no block: on the whole path, or only those
-- followed by no index other than 0, which no earlier logical block shares (Lions on bmap)
abbrev pub missing_to : (List ℕ → Bool) → Bool → List ℕ → ℕ
missing_to names whole [] = 0
missing_to names whole (k ∷ []) = if names (k ∷ []) then 0 else 1
missing_to names whole (j ∷ (a ∷ p)) =
    (if names (j ∷ (a ∷ p)) then 0 else 1) + (if whole || j == 0 then missing_to names whole (a ∷ p) else 0)

-- the number of positions in the block map on the path of logical block b that point to no block: on the whole path, or only on the part that no
-- earlier logical block shares; 0 if b has no path (Lions on bmap)
abbrev pub missing_at : BlockMap → (List ℕ → Bool) → Bool → ℕ → ℕ
missing_at form names whole b = option_map_or (missing_to names whole) (last_place form b) 0

-- the number of positions in the block map on the paths of n consecutive logical blocks that point to no block: the whole path of the first block,
-- and for each later block the part that no earlier one shares (Lions on bmap)
unfoldable pub missing_from : BlockMap → (List ℕ → Bool) → ℕ → ℕ → ℕ
missing_from form names first zero = 0
missing_from form names first (suc n) = missing_from form names first n + missing_at form names (n == 0) (first + n)

-- true if a file with this block map becomes large when b is the last logical block touched (Lions on bmap)
abbrev pub grows_at : BlockMap → ℕ → Bool
grows_at Small b = nat_le 8 b
grows_at Large b = false
grows_at Deep b = false
grows_at Bare b = false

-- the block map of a file, which becomes large if `grows` (Lions on bmap)
abbrev pub grown_form : BlockMap → Bool → BlockMap
grown_form form grows = if grows then Large else form

-- the positions in the block map that point to a block after the file has become large, if it grows (Lions on bmap)
abbrev pub grown_names : (List ℕ → Bool) → Bool → List ℕ → Bool
grown_names names grows = if grows then moved_down names else names
