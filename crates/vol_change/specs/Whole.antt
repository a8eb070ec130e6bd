-- Invariants of every change of a node: the rules about i-nodes, files and the free list, and the bytes that no call changes.
use Rattle.std.specs.Prelude.{◌≡◌, ◌≢◌, ℕ, ◌+◌, ◌*◌, ◌%◌, ◌<◌, ◌≤◌, List, length, slice_index}
use Rattle.vol_layout.specs.Super.{free_head, time_place}
use Rattle.vol_file.specs.Rules.{kind_at, size_of, Rules3To7With, IsCovered}
use Rattle.vol_dir.specs.EntryEdits.{HasNamesOnce}
use Rattle.vol_dir.specs.Entries.{IsDirectory}
use Rattle.vol_layout.specs.declared.geometry.Geometry.{Geometry}
use Rattle.vol_layout.specs.declared.mode.Kind.TheVariants as kinds

-- the geometry fits, and rules 3 to 8 hold (icheck)
pub record Rules3To8 (geometry : Geometry) (image : List ℕ) : Type 0 where
  pub blocks : List ℕ
  pub sound : Rules3To7With geometry image blocks
  pub covered : IsCovered geometry image blocks

-- rules 3 to 8 hold, and i-number i belongs to the volume and isn't free (this project)
pub record HasNode (geometry : Geometry) (image : List ℕ) (i : ℕ) : Type 0 where
  pub rules : Rules3To8 geometry image
  pub first : 1 ≤ i
  pub last : i ≤ geometry.last_inode
  pub used : kind_at geometry image i ≢ kinds.Free

-- rules 3 to 8 hold, and d is a directory with a whole number of slots, in which no name occurs twice (this project)
pub record HasDirectory (geometry : Geometry) (image : List ℕ) (d : ℕ) : Type 0 where
  pub rules : Rules3To8 geometry image
  pub is : IsDirectory geometry image d
  pub slots : size_of geometry image d % 16 ≡ 0
  pub once : HasNamesOnce geometry image d

-- the bytes that no call changes are unchanged: block 0, the sizes and flags of the super-block and the bytes after its time, and all bytes past the
-- volume; the free list and the i-number cache, 202 bytes each, are next to each other (filsys.h)
pub record StaysAround (geometry : Geometry) (old new : List ℕ) : Type 0 where
  pub len : length new ≡ length old
  pub before : (k : ℕ) → k < free_head geometry.edition → slice_index new k ≡ slice_index old k
  pub flags : (k : ℕ) → free_head geometry.edition + 404 ≤ k → k < time_place geometry.edition → slice_index new k ≡ slice_index old k
  pub rest : (k : ℕ) → time_place geometry.edition + 4 ≤ k → k < 1024 → slice_index new k ≡ slice_index old k
  pub behind : (k : ℕ) → 512 * geometry.zone_end ≤ k → slice_index new k ≡ slice_index old k

-- the geometry fits, rules 3 to 8 hold, and the bytes that no call changes are unchanged (this project)
pub record Keeps (geometry : Geometry) (old new : List ℕ) : Type 0 where
  pub rules : Rules3To8 geometry new
  pub around : StaysAround geometry old new
