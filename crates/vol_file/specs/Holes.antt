-- The holes of a file: logical blocks for which its block map has no block number.
use Rattle.std.specs.Prelude.{◌≡◌, ℕ, zero, suc, ◌-◌, ◌*◌, ◌<◌, ◌≤◌, List, [], ◌∷◌}
use Rattle.vol_layout.specs.BlockPointers.{stored}
use Rattle.vol_layout.specs.declared.geometry.Geometry.{Geometry}
use Rattle.vol_layout.specs.declared.block_map.BlockMap.{BlockMap}
use Rattle.vol_layout.specs.declared.block_map.BlockMap.TheVariants.{Small, Large, Deep, Bare}

-- no block number is stored for the logical blocks `from..end` (Lions on bmap)
abbrev pub IsHole : Geometry → List ℕ → ℕ → BlockMap → ℕ → ℕ → Type 0
IsHole geometry image i form from end = (b : ℕ) → from ≤ b → b < end → stored geometry image i form b ≡ 0

-- b is the first logical block in `from..end` for which a block number is stored, or `end` if there is none (Lions on bmap)
pub record IsNextStored (geometry : Geometry) (image : List ℕ) (i : ℕ) (form : BlockMap) (from end b : ℕ) : Type 0 where
  pub reached : from ≤ b
  pub within : b ≤ end
  pub hole : IsHole geometry image i form from b
  pub some : b < end → stored geometry image i form b ≡ 0 → ⊥

-- the number of logical blocks below the indirect block n levels above a position in the block map, counted from the logical block of that position;
-- each indirect block has `pointers` entries (Lions on bmap)
abbrev pub blocks_left : ℕ → ℕ → List ℕ → ℕ
blocks_left pointers zero place = 1
blocks_left pointers (suc n) [] = 1
blocks_left pointers (suc n) (j ∷ place) = blocks_left pointers n place * pointers - j

-- the number of direct blocks: the logical blocks to which addresses of the i-node point (Lions on bmap; ino.h of the seventh edition)
abbrev pub direct_count : BlockMap → ℕ
direct_count Small = 8
direct_count Large = 0
direct_count Deep = 10
direct_count Bare = 0
