-- A repaired copy of an image, with the lines of what differs.
use Rattle.std.specs.Prelude.{◌≡◌, ◌⊎◌, ℕ, ◌+◌, ◌*◌, ◌<◌, ◌≤◌, true, false, List, [], length, slice_index}
use Rattle.std.specs.List.{All, list_any}
use Rattle.std.specs.Result.{is_ok}
use Rattle.vol_layout.specs.Geometry.{geometry_of, geometry_read}
use Rattle.vol_layout.specs.Inode.{inode_of}
use Rattle.vol_layout.specs.declared.edition.Edition.{Edition}
use Rattle.vol_layout.specs.declared.geometry.Geometry.{Geometry}
use Rattle.vol_free.specs.FreeWalk.{free_walk}
use Rattle.vol_free.specs.Stack.{IsIn}
use Rattle.vol_judge.specs.Sound.{IsSound, IsLeastBroken}
use Rattle.vol_repair.specs.Kept.{KeepsFile, FitsFile}
use Rattle.vol_repair.specs.Lines.{is_about, is_for_links, is_for_slot, is_for_list, IsTold, dir_entry, IsTrueLine}
use Rattle.vol_repair.specs.declared.repair_line.RepairLine.{RepairLine}
use Rattle.vol_repair.specs.declared.repaired_volume.RepairFault.{RepairFault}
use Rattle.vol_repair.specs.declared.repaired_volume.RepairFault.TheVariants as faults

-- the lines tell all that differs between the i-nodes and directories of two images from i-number 1 to n, each line is true, and each file that fits is
-- kept, with no line but one about its links (this project)
pub record TellsUpTo (geometry : Geometry) (old new : List ℕ) (n : ℕ) (lines : List RepairLine) : Type 0 where
  pub files : (i : ℕ) → 1 ≤ i → i ≤ n → KeepsFile geometry old new i ⊎ IsTold (is_about i) lines
  pub links : (i : ℕ) → 1 ≤ i → i ≤ n
      → ((inode_of geometry.edition new i).links ≡ (inode_of geometry.edition old i).links) ⊎ IsTold (is_for_links i) lines
  pub entries : (d s : ℕ) → 1 ≤ d → d ≤ n
      → (dir_entry geometry new d s ≡ dir_entry geometry old d s) ⊎ IsTold (is_for_slot d s) lines
  pub fitting : (i : ℕ) → i ≤ n → FitsFile geometry old i → KeepsFile geometry old new i × (list_any (is_about i) lines ≡ false)
  pub right : All (IsTrueLine geometry old new) lines
  pub fresh : (i : ℕ) → n < i → list_any (is_about i) lines ≡ false

-- the super-block and each block of the new image's free list have the same bytes in both images (this project)
pub record HasSameList (geometry : Geometry) (old new : List ℕ) : Type 0 where
  pub head : (r : ℕ) → r < 512 → slice_index new (512 + r) ≡ slice_index old (512 + r)
  pub blocks : (b r : ℕ) → IsIn b (free_walk geometry new).met → r < 512 → slice_index new (512 * b + r) ≡ slice_index old (512 * b + r)

-- the lines tell all that differs between the i-nodes, directories and super-blocks of two images, and in the blocks of the new one's free list
-- (this project)
pub record TellsAll (geometry : Geometry) (old new : List ℕ) (lines : List RepairLine) : Type 0 where
  pub told : TellsUpTo geometry old new geometry.last_inode lines
  pub list : HasSameList geometry old new ⊎ IsTold is_for_list lines

-- the copy is as long as the image, and has the same boot block and sizes (this project)
pub record HasSameFront (edition : Edition) (old new : List ℕ) : Type 0 where
  pub len : length new ≡ length old
  pub boot : (k : ℕ) → k < 512 → slice_index new k ≡ slice_index old k
  pub sizes : geometry_of edition new ≡ geometry_of edition old

-- the copy is sound, as long as the image, and has the same boot block and sizes; the lines tell all that differs in its i-nodes, directories,
-- super-block and the blocks of its free list; each file that fits is kept (this project)
pub record IsMended (edition : Edition) (old new : List ℕ) (lines : List RepairLine) : Type 0 where
  pub sound : IsSound edition new
  pub front : HasSameFront edition old new
  pub told : TellsAll (geometry_of edition old) old new lines

-- a repaired copy of an image, with its lines; a sound image is its own copy, with no line (this project)
pub record IsRepaired (edition : Edition) (old new : List ℕ) (lines : List RepairLine) : Type 0 where
  pub mended : IsMended edition old new lines
  pub same : IsSound edition old → (new ≡ old) × (lines ≡ [])

-- the reason why an image isn't repaired: its sizes aren't known, since it breaks rule 1 or 2, whichever is first; its sizes are known, it isn't sound, and
-- it wasn't mended; or memory ran out (this project)
abbrev pub IsRepairFault : Edition → List ℕ → RepairFault → Type 0
IsRepairFault edition image (faults.Unsized n) = IsLeastBroken true edition image n × (n ≤ 2)
IsRepairFault edition image faults.NotRepaired = (is_ok (geometry_read edition image) ≡ true) × (IsSound edition image → ⊥)
IsRepairFault edition image faults.NoSpace = (is_ok (geometry_read edition image) ≡ true) × (IsSound edition image → ⊥)
IsRepairFault edition image faults.NoMemory = Unit {0}
