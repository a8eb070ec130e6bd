-- A repaired copy of an image, whose volume may have more blocks than the image's.
use Rattle.std.specs.Prelude.{◌≡◌, ◌⊎◌, ℕ, ◌+◌, ◌*◌, ◌<◌, ◌≤◌, true, false, List, [], max, length, slice_index}
use Rattle.std.specs.List.{list_any}
use Rattle.vol_layout.specs.Edition.{constants}
use Rattle.vol_layout.specs.Geometry.{block_count, geometry_of, in_zone, list_size}
use Rattle.vol_layout.specs.Body.{body}
use Rattle.vol_layout.specs.Inode.{inode_of}
use Rattle.vol_layout.specs.declared.edition.Edition.{Edition}
use Rattle.vol_layout.specs.declared.geometry.Geometry.{Geometry}
use Rattle.vol_free.specs.FreeWalk.{free_walk}
use Rattle.vol_free.specs.Stack.{IsIn}
use Rattle.vol_judge.specs.Sound.{IsSound}
use Rattle.vol_repair.specs.Kept.{FitsFile}
use Rattle.vol_repair.specs.Lines.{is_about, is_for_links, is_for_slot, is_for_list, IsTold, dir_entry}
use Rattle.vol_repair.specs.declared.repair_line.RepairLine.{RepairLine}

-- file i has the same mode, owner, group, size, addresses, times and bytes in two images of volumes with these geometries; its link count may differ
-- (this project)
pub record KeepsFileIn (was is : Geometry) (old new : List ℕ) (i : ℕ) : Type 0 where
  pub node : record (inode_of is.edition new i) { links = (inode_of was.edition old i).links } ≡ inode_of was.edition old i
  pub body : body is new i ≡ body was old i

-- the copy's super-block states `blocks` blocks, or as many as the image's if that has more; a copy with more blocks is exactly as long as these, another one
-- as long as the image; the i-list has the same size, and the boot block the same bytes (this project)
pub record HasCopiedFront (edition : Edition) (blocks : ℕ) (old new : List ℕ) : Type 0 where
  pub count : block_count edition new ≡ max blocks (block_count edition old)
  pub longer : block_count edition old < blocks → length new ≡ 512 * blocks
  pub as_long : blocks ≤ block_count edition old → length new ≡ length old
  pub i_list : list_size new ≡ list_size old
  pub boot : (k : ℕ) → k < 512 → slice_index new k ≡ slice_index old k

-- the super-block, but for its number of blocks, and each block of the copy's free list that is a data block of the image have the same bytes in both
-- (this project)
pub record HasSameListIn (edition : Edition) (old new : List ℕ) : Type 0 where
  pub head : (r : ℕ) → (r < 2) ⊎ (2 + (constants edition).number_bytes ≤ r) → r < 512 → slice_index new (512 + r) ≡ slice_index old (512 + r)
  pub blocks : (b r : ℕ) → IsIn b (free_walk (geometry_of edition new) new).met → in_zone (geometry_of edition old) b ≡ true → r < 512
      → slice_index new (512 * b + r) ≡ slice_index old (512 * b + r)

-- the lines tell all that differs between the i-nodes, the directories and the free lists of an image and a copy, each read as a volume of its own; and
-- each file of the image that fits is kept, with no line but one about its links (this project)
pub record TellsCopy (edition : Edition) (old new : List ℕ) (lines : List RepairLine) : Type 0 where
  pub files : (i : ℕ) → 1 ≤ i → i ≤ (geometry_of edition old).last_inode
      → KeepsFileIn (geometry_of edition old) (geometry_of edition new) old new i ⊎ IsTold (is_about i) lines
  pub links : (i : ℕ) → 1 ≤ i → i ≤ (geometry_of edition old).last_inode
      → ((inode_of edition new i).links ≡ (inode_of edition old i).links) ⊎ IsTold (is_for_links i) lines
  pub entries : (d s : ℕ) → 1 ≤ d → d ≤ (geometry_of edition old).last_inode
      → (dir_entry (geometry_of edition new) new d s ≡ dir_entry (geometry_of edition old) old d s) ⊎ IsTold (is_for_slot d s) lines
  pub fitting : (i : ℕ) → FitsFile (geometry_of edition old) old i
      → KeepsFileIn (geometry_of edition old) (geometry_of edition new) old new i × (list_any (is_about i) lines ≡ false)
  pub list : HasSameListIn edition old new ⊎ IsTold is_for_list lines

-- a repaired copy of an image, with at least `blocks` blocks: it is sound, has the image's blocks or more, and the lines tell all that differs but the number
-- of blocks. A sound image with so many blocks is its own copy, with no line (this project)
pub record IsRepairedCopy (edition : Edition) (blocks : ℕ) (old new : List ℕ) (lines : List RepairLine) : Type 0 where
  pub sound : IsSound edition new
  pub front : HasCopiedFront edition blocks old new
  pub told : TellsCopy edition old new lines
  pub same : blocks ≤ block_count edition old → IsSound edition old → (new ≡ old) × (lines ≡ [])
