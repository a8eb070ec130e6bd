-- The lost blocks of an image: blocks whose bytes aren't known, because they couldn't be read or lie past the image's end.
use Rattle.std.specs.Prelude.{◌≡◌, ℕ, zero, suc, ◌+◌, ◌*◌, ◌/◌, ◌<◌, ◌≤◌, Bool, true, false, not, ◌&&◌, ◌||◌, List, [], ◌∷◌, slice_index, slice_index_or}
use Rattle.std.specs.Int.{div_ceil}
use Rattle.std.specs.Option.{option_map_or}
use Rattle.vol_layout.specs.Geometry.{in_zone}
use Rattle.vol_layout.specs.Inode.{inode_place}
use Rattle.vol_layout.specs.BlockMaps.{last_place}
use Rattle.vol_layout.specs.BlockPointers.{form_at, named}
use Rattle.vol_layout.specs.Body.{body_size}
use Rattle.vol_layout.specs.declared.edition.Edition.{Edition}
use Rattle.vol_layout.specs.declared.geometry.Geometry.{Geometry}

-- true if block k is lost; there is one mark for each block, and blocks past the marks aren't lost (this project)
abbrev pub is_lost : List Bool → ℕ → Bool
is_lost lost k = slice_index_or lost k false

-- the two images have the same bytes in each block of the volume that isn't lost (this project)
pub record AgreesOutside (geometry : Geometry) (lost : List Bool) (old new : List ℕ) : Type 0 where
  pub bytes : (k r : ℕ) → k < geometry.zone_end → r < 512 → is_lost lost k ≡ false → slice_index new (512 * k + r) ≡ slice_index old (512 * k + r)

-- true if k is the number of a data block that is lost (this project)
abbrev pub is_lost_block : Geometry → List Bool → ℕ → Bool
is_lost_block geometry lost k = in_zone geometry k && is_lost lost k

-- true if a block on the path to position p of i-node i's block map is lost: an indirect block, or the block to which p points (Lions on bmap)
unfoldable pub is_lost_on : Geometry → List ℕ → List Bool → ℕ → List ℕ → Bool
is_lost_on geometry image lost i [] = false
is_lost_on geometry image lost i (j ∷ p) = is_lost_block geometry lost (named geometry image i (j ∷ p)) || is_lost_on geometry image lost i p

-- true if logical block b of i-node i can't be trusted: a block on its path is lost (Lions on bmap)
abbrev pub is_unsure : Geometry → List ℕ → List Bool → ℕ → ℕ → Bool
is_unsure geometry image lost i b = option_map_or (is_lost_on geometry image lost i) (last_place (form_at geometry image i) b) false

-- b is the first logical block in `from..end` that can't be trusted, or that can if `unsure` is false; `end` if there is none (this project)
pub record IsNext (geometry : Geometry) (image : List ℕ) (lost : List Bool) (i : ℕ) (unsure : Bool) (from end b : ℕ) : Type 0 where
  pub reached : from ≤ b
  pub within : b ≤ end
  pub before : (c : ℕ) → from ≤ c → c < b → is_unsure geometry image lost i c ≡ not unsure
  pub here : b < end → is_unsure geometry image lost i b ≡ unsure

-- the block in which i-node i is stored (manual section 5, file system)
abbrev pub node_block : Edition → ℕ → ℕ
node_block edition i = inode_place edition i / 512

-- file i is whole: the block of its i-node isn't lost, and each logical block within its size can be trusted (this project)
pub record IsWhole (geometry : Geometry) (image : List ℕ) (lost : List Bool) (i : ℕ) : Type 0 where
  pub node : is_lost lost (node_block geometry.edition i) ≡ false
  pub blocks : (b : ℕ) → 512 * b < body_size geometry image i → is_unsure geometry image lost i b ≡ false

-- true if each of the first n logical blocks of i-node i can be trusted (this project)
unfoldable pub are_sure : Geometry → List ℕ → List Bool → ℕ → ℕ → Bool
are_sure geometry image lost i zero = true
are_sure geometry image lost i (suc b) = not (is_unsure geometry image lost i b) && are_sure geometry image lost i b

-- the number of logical blocks within the size of file i (manual section 5, file system)
abbrev pub body_blocks : Geometry → List ℕ → ℕ → ℕ
body_blocks geometry image i = div_ceil (body_size geometry image i) 512

-- true if file i is whole, as `IsWhole` says (this project)
abbrev pub is_whole : Geometry → List ℕ → List Bool → ℕ → Bool
is_whole geometry image lost i = not (is_lost lost (node_block geometry.edition i)) && are_sure geometry image lost i (body_blocks geometry image i)
