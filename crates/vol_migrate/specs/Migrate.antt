-- The result of migrating a volume.
use Rattle.std.specs.Prelude.{◌≡◌, ℕ, ◌+◌, ◌*◌, ◌<◌, ◌≤◌, Bool, List, length, slice_index}
use Rattle.vol_layout.specs.Body.{body}
use Rattle.vol_layout.specs.Geometry.{geometry_of}
use Rattle.vol_layout.specs.Inode.{inode_place}
use Rattle.vol_layout.specs.Super.{free_head, time_place}
use Rattle.vol_layout.specs.declared.edition.Edition.TheVariants.{V6, V7}
use Rattle.vol_free.specs.Rebuild.{unused}
use Rattle.vol_free.specs.Stack.{IsFree}
use Rattle.vol_file.specs.Rules.{kind_at, size_of}
use Rattle.vol_dir.specs.Entries.{IsDirectory}
use Rattle.vol_judge.specs.Sound.{IsSound}
use Rattle.vol_change.specs.Unused.{IsCleared}
use Rattle.vol_layout.specs.declared.geometry.Geometry.{Geometry}
use Rattle.vol_layout.specs.declared.mode.Kind.TheVariants as kinds
use Rattle.vol_check.specs.SalvagedImages.{IsSalvaged}
use Rattle.vol_mkfs.specs.Mkfs.{volume_of, sizes_bytes, IsNoneOf}
use Rattle.vol_volume.specs.Volume.{reads_as}
use Rattle.vol_migrate.specs.Raised.{raised}
use Rattle.vol_migrate.specs.Stages.{raised_byte}

-- the bytes that are zero: all of blocks 0 and 1 except the sizes, the free list and the time, all of each free i-node, and the byte of any other
-- i-node that the seventh edition doesn't use (filsys.h, ino.h; this project)
pub record HasZeros (geometry : Geometry) (image : List ℕ) : Type 0 where
  pub front : (k : ℕ) → k < 1024 → IsNoneOf 512 (sizes_bytes geometry.edition) k → IsNoneOf (free_head geometry.edition) 202 k
      → IsNoneOf (time_place geometry.edition) 4 k → slice_index image k ≡ 0
  pub free : (k : ℕ) → 1 ≤ k → k ≤ geometry.last_inode → kind_at geometry image k ≡ kinds.Free → IsCleared geometry image k
  pub unused : (k : ℕ) → 1 ≤ k → k ≤ geometry.last_inode → slice_index image (inode_place geometry.edition k + 51) ≡ 0

-- each byte of a directory is the byte of its slots, raised: an empty slot is all zeros, and the bytes after a name are zero (this project)
abbrev pub HasRaisedSlots : Geometry → Geometry → List ℕ → List ℕ → Type 0
HasRaisedSlots from to old new = (i x : ℕ) → IsDirectory from old i → x < size_of from old i
    → slice_index (body to new (i + 1)) x ≡ raised_byte (body from old i) x

-- a sound volume of the seventh edition, of exactly `blocks` blocks, with the tree and the shapes of a volume of the sixth, raised; the blocks that
-- belong to no file are free, in ascending order; unused bytes are zero, except past sizes and in free blocks (this project)
pub record IsMigrated (old : List ℕ) (blocks list_blocks now : ℕ) (new : List ℕ) : Type 0 where
  pub len : length new ≡ 512 * blocks
  pub sound : IsSound V7 new
  pub reads : reads_as V7 new ≡ raised (reads_as V6 old) blocks list_blocks now
  pub used : List Bool
  pub free : IsFree (volume_of V7 blocks list_blocks) new (unused (volume_of V7 blocks list_blocks) used)
  pub zeros : HasZeros (volume_of V7 blocks list_blocks) new
  pub slots : HasRaisedSlots (geometry_of V6 old) (volume_of V7 blocks list_blocks) old new

-- the free list was rebuilt from the data blocks that belong to no file, in ascending order (icheck -s)
pub record IsRelisted (geometry : Geometry) (old new : List ℕ) : Type 0 where
  pub salvaged : IsSalvaged V7 old new
  pub used : List Bool
  pub free : IsFree geometry new (unused geometry used)
