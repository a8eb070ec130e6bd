-- Statements of the laws about positions in a block map, the blocks they point to, and file bodies.
use Rattle.std.specs.Prelude.{◌≡◌, ◌≢◌, ℕ, ◌+◌, ◌*◌, ◌/◌, ◌%◌, ◌<◌, ◌≤◌, true, List, [], ◌∷◌, ◌⊎◌, ◌↔◌, ◌++◌, ◌==◌, Some, map, filter, slice_range, replicate, if◌then◌else◌}
use Rattle.std.specs.List.{range_with_len}
use Rattle.pdp_words.specs.Words.{SameOutside}
use Rattle.vol_layout.specs.Edition.{constants}
use Rattle.vol_layout.specs.Geometry.{in_zone, Fits}
use Rattle.vol_layout.specs.Inode.{inode_place, inode_of}
use Rattle.vol_layout.specs.BlockMaps.{IsPlace, levels_below, block_limit, last_place, places}
use Rattle.vol_layout.specs.BlockPointers.{form_at, IsFile, IsPlaceOf, named, stored, Holds}
use Rattle.vol_layout.specs.Body.{body, body_size}
use Rattle.vol_layout.specs.declared.edition.Edition.{Edition}
use Rattle.vol_layout.specs.declared.edition.Edition.TheVariants.{V6, V7}
use Rattle.vol_layout.specs.declared.geometry.Geometry.{Geometry}
use Rattle.vol_layout.specs.declared.block_map.BlockMap.{BlockMap}
use Rattle.vol_layout.specs.declared.block_map.BlockMap.TheVariants.{Large}

-- position q in the block map is on the path from the i-node to position p, or is p itself (Lions on bmap)
abbrev pub IsFront : List ℕ → List ℕ → Type 0
IsFront q [] = ⊥
IsFront q (j ∷ p) = (q ≡ j ∷ p) ⊎ IsFront q p

-- a position in the block map holds block number k by the step-by-step rules if and only if `named` returns k and k isn't 0 (this project's law)
abbrev pub HoldsWhatIsNamed : Type 0
HoldsWhatIsNamed = (geometry : Geometry) (image : List ℕ) (i : ℕ) (p : List ℕ) (k : ℕ) → Fits geometry image
    → (Holds geometry image i p k) ↔ ((named geometry image i p ≡ k) × (k ≢ 0))

-- a position points to a logical block if and only if the block is below the block map's limit (this project's law)
abbrev pub HasWaysBelowLimit : Type 0
HasWaysBelowLimit = (form : BlockMap) (b : ℕ) → (b < block_limit form) ↔ ((p : List ℕ) × (last_place form b ≡ Some p))

-- the position in the block map that points to a logical block has no level below it (this project's law)
abbrev pub EndsWaysAtPlaces : Type 0
EndsWaysAtPlaces = (form : BlockMap) (b : ℕ) (p : List ℕ) → last_place form b ≡ Some p → IsPlace form p × (levels_below form p ≡ 0)

-- a position in the block map points to at most one logical block (this project's law)
abbrev pub EndsWaysApart : Type 0
EndsWaysApart = (form : BlockMap) (b c : ℕ) (p : List ℕ) → last_place form b ≡ Some p → last_place form c ≡ Some p → b ≡ c

-- the positions in a block map that point to data blocks, in order (Lions on bmap)
abbrev pub leaves : BlockMap → List (List ℕ)
leaves form = filter (λ p. levels_below form p == 0) (places form)

-- the positions in the block map that point to data blocks, in order, point to the logical blocks 0, 1, 2 and so on; only a large file has more such
-- positions than logical blocks (this project's law)
abbrev pub OrdersWays : Type 0
OrdersWays = (form : BlockMap) → (rest : List (List ℕ))
    × (map Some (leaves form) ≡ map (last_place form) (range_with_len 0 (block_limit form)) ++ map Some rest)
    × ((form ≡ Large) ⊎ (rest ≡ []))

-- the byte at which i-node i begins, computed by the manual from the block and the byte in it (manual section 5, file system; itod and itoo of
-- param.h)
abbrev pub manual_place : Edition → ℕ → ℕ
manual_place V6 i = 512 * ((i + 31) / 16) + 32 * ((i + 31) % 16)
manual_place V7 i = 512 * ((i + 15) / 8) + 64 * ((i + 15) % 8)

-- each i-node begins at the byte computed by the manual's formula (this project's law)
abbrev pub PlacesInodes : Type 0
PlacesInodes = (edition : Edition) (i : ℕ) → 1 ≤ i → inode_place edition i ≡ manual_place edition i

-- the i-nodes of a volume are stored after block 1 and before the data zone, and don't overlap (this project's law)
abbrev pub PlacesInodesApart : Type 0
PlacesInodesApart = (geometry : Geometry) (image : List ℕ) (i j : ℕ) → Fits geometry image → 1 ≤ i → i < j → j ≤ geometry.last_inode
    → (1024 ≤ inode_place geometry.edition i)
    × (inode_place geometry.edition i + (constants geometry.edition).inode_bytes ≤ inode_place geometry.edition j)
    × (inode_place geometry.edition j + (constants geometry.edition).inode_bytes ≤ 512 * geometry.zone_start)

-- the bytes of a body within one logical block are the bytes of its data block, or zeros if it has none (this project's law)
abbrev pub ReadsBodyByBlocks : Type 0
ReadsBodyByBlocks = (geometry : Geometry) (image : List ℕ) (i b n k : ℕ) → Fits geometry image → n ≤ 512
    → 512 * b + n ≤ body_size geometry image i → stored geometry image i (form_at geometry image i) b ≡ k
    → slice_range (body geometry image i) (512 * b) (512 * b + n)
    ≡ (if in_zone geometry k then slice_range image (512 * k) (512 * k + n) else replicate n 0)

-- a write to a data block to which no position in a file's block map points leaves the file's i-node and body unchanged (this project's law)
abbrev pub LeavesOtherBodies : Type 0
LeavesOtherBodies = (geometry : Geometry) (old new : List ℕ) (i k : ℕ) → Fits geometry old → IsFile geometry old i
    → in_zone geometry k ≡ true → SameOutside old new (512 * k) (512 * k + 512)
    → ((p : List ℕ) → IsPlaceOf geometry old i p → named geometry old i p ≢ k)
    → (inode_of geometry.edition new i ≡ inode_of geometry.edition old i) × (body geometry new i ≡ body geometry old i)
