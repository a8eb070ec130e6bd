-- The nodes that a change of one node leaves unchanged.
use Rattle.std.specs.Prelude.{◌≡◌, ◌≢◌, ℕ, ◌+◌, ◌*◌, ◌<◌, ◌≤◌, List, slice_index}
use Rattle.pdp_words.specs.Words.{long}
use Rattle.vol_layout.specs.Edition.{constants}
use Rattle.vol_layout.specs.Inode.{inode_of, inode_place}
use Rattle.vol_layout.specs.BlockPointers.{mode_of, IsFile, IsPlaceOf, named}
use Rattle.vol_layout.specs.Body.{body}
use Rattle.vol_layout.specs.Super.{time_place}
use Rattle.vol_layout.specs.declared.geometry.Geometry.{Geometry}
use Rattle.vol_file.specs.Rules.{size_of}
use Rattle.vol_change.specs.Whole.{StaysAround}

-- the content of i-node i is unchanged: its mode, size and addresses, its bytes, the blocks in its block map, and all bytes of these blocks (manual
-- section 5, file system)
pub record KeepsContent (geometry : Geometry) (old new : List ℕ) (i : ℕ) : Type 0 where
  pub mode : mode_of geometry new i ≡ mode_of geometry old i
  pub size : size_of geometry new i ≡ size_of geometry old i
  pub addresses : (inode_of geometry.edition new i).addresses ≡ (inode_of geometry.edition old i).addresses
  pub bytes : IsFile geometry old i → body geometry new i ≡ body geometry old i
  pub names : (p : List ℕ) → IsPlaceOf geometry old i p → named geometry new i p ≡ named geometry old i p
  pub blocks : (p : List ℕ) (r : ℕ) → IsPlaceOf geometry old i p → named geometry old i p ≢ 0 → r < 512
      → slice_index new (512 * named geometry old i p + r) ≡ slice_index old (512 * named geometry old i p + r)

-- i-node j and its content are unchanged (manual section 5, file system)
pub record KeepsNode (geometry : Geometry) (old new : List ℕ) (j : ℕ) : Type 0 where
  pub content : KeepsContent geometry old new j
  pub inode : inode_of geometry.edition new j ≡ inode_of geometry.edition old j

-- everything that is read from an image is unchanged, except i-node i, the free list and the i-number cache (this project)
pub record ChangesOnly (geometry : Geometry) (old new : List ℕ) (i : ℕ) : Type 0 where
  pub around : StaysAround geometry old new
  pub time : long new (time_place geometry.edition) ≡ long old (time_place geometry.edition)
  pub others : (j : ℕ) → 1 ≤ j → j ≤ geometry.last_inode → j ≢ i → KeepsNode geometry old new j

-- all bytes are unchanged, except those of i-node i and of the super-block's time (ino.h, filsys.h)
pub record ChangesInode (geometry : Geometry) (old new : List ℕ) (i : ℕ) : Type 0 where
  pub before : (k : ℕ) → k < time_place geometry.edition → slice_index new k ≡ slice_index old k
  pub between : (k : ℕ) → time_place geometry.edition + 4 ≤ k → k < inode_place geometry.edition i → slice_index new k ≡ slice_index old k
  pub behind : (k : ℕ) → inode_place geometry.edition i + (constants geometry.edition).inode_bytes ≤ k → slice_index new k ≡ slice_index old k
