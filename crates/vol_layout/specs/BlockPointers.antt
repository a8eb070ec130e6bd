-- The blocks to which the positions in a file's block map point.
use Rattle.std.specs.Prelude.{◌≡◌, ◌≢◌, ℕ, ◌*◌, ◌≤◌, ◌==◌, true, if◌then◌else◌, List, [], ◌∷◌, Option, None, Some}
use Rattle.std.specs.Option.{option_map_or}
use Rattle.pdp_words.specs.Words.{word}
use Rattle.vol_layout.specs.Edition.{number}
use Rattle.vol_layout.specs.Geometry.{in_zone}
use Rattle.vol_layout.specs.Inode.{inode_place, address_at, kind_of}
use Rattle.vol_layout.specs.BlockMaps.{form_of, has_places, IsPlace, last_place}
use Rattle.vol_layout.specs.declared.geometry.Geometry.{Geometry}
use Rattle.vol_layout.specs.declared.block_map.BlockMap.{BlockMap}

-- the mode of i-node i, a word at its first byte in both editions (manual section 5, file system; ino.h)
abbrev pub mode_of : Geometry → List ℕ → ℕ → ℕ
mode_of geometry image i = word image (inode_place geometry.edition i)

-- the block map of i-node i (manual section 5, file system)
abbrev pub form_at : Geometry → List ℕ → ℕ → BlockMap
form_at geometry image i = form_of geometry.edition (mode_of geometry image i)

-- i is an i-number of the volume, and i-node i is a regular file or directory (manual section 5, file system)
pub record IsFile (geometry : Geometry) (image : List ℕ) (i : ℕ) : Type 0 where
  pub first : 1 ≤ i
  pub last : i ≤ geometry.last_inode
  pub kind : has_places (kind_of geometry.edition (mode_of geometry image i)) ≡ true

-- block number j of block m, or 0 if m isn't a data block (Lions on bmap; the zone's test is this project's)
unfoldable pub pointer_in : Geometry → List ℕ → ℕ → ℕ → ℕ
pointer_in geometry image m j = if in_zone geometry m then number geometry.edition image (512 * m) j else 0

-- the block number at a position in the block map of i-node i, or 0 if the position points to no block (manual section 5; Lions on bmap)
abbrev pub named : Geometry → List ℕ → ℕ → List ℕ → ℕ
named geometry image i [] = 0
named geometry image i (k ∷ []) = address_at geometry.edition image (inode_place geometry.edition i) k
named geometry image i (j ∷ (a ∷ p)) = pointer_in geometry image (named geometry image i (a ∷ p)) j

-- p is a position in the block map of file i (Lions on bmap; ino.h)
pub record IsPlaceOf (geometry : Geometry) (image : List ℕ) (i : ℕ) (p : List ℕ) : Type 0 where
  pub file : IsFile geometry image i
  pub place : IsPlace (form_at geometry image i) p

-- position p in the block map of i-node i holds a block number that isn't 0: as an address, or as an entry of an indirect block in the data zone
-- (manual section 5, file system)
pub data Holds (geometry : Geometry) (image : List ℕ) (i : ℕ) : List ℕ → ℕ → Type 0 where
  address : (k m : ℕ) → m ≢ 0 → address_at geometry.edition image (inode_place geometry.edition i) k ≡ m
      → Holds geometry image i (k ∷ []) m
  entry : (j a : ℕ) (p : List ℕ) (m n : ℕ) → n ≢ 0 → Holds geometry image i (a ∷ p) m
      → in_zone geometry m ≡ true → number geometry.edition image (512 * m) j ≡ n
      → Holds geometry image i (j ∷ (a ∷ p)) n

-- position p in the block map of file i points to block k (Lions on bmap; icheck)
pub record NamesBlock (geometry : Geometry) (image : List ℕ) (i : ℕ) (p : List ℕ) (k : ℕ) : Type 0 where
  pub place : IsPlaceOf geometry image i p
  pub holds : Holds geometry image i p k

-- the block number stored for logical block b, or 0 if b has no path or is a hole (Lions on bmap)
abbrev pub stored : Geometry → List ℕ → ℕ → BlockMap → ℕ → ℕ
stored geometry image i form b = option_map_or (named geometry image i) (last_place form b) 0

-- the block number stored for logical block b of i-node i, or None if there is none (Lions on bmap)
abbrev pub block_named : Geometry → List ℕ → ℕ → ℕ → Option ℕ
block_named geometry image i b =
    let k = stored geometry image i (form_at geometry image i) b in if k == 0 then None else Some k
