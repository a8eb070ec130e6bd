-- Runs of logical blocks of a file whose block numbers are stored next to each other.
use Rattle.std.specs.Prelude.{◌≡◌, ℕ, ◌+◌, ◌-◌, ◌<◌, ◌≤◌, List}
use Rattle.vol_layout.specs.Edition.{constants}
use Rattle.vol_layout.specs.Inode.{inode_place, address_at}
use Rattle.vol_layout.specs.BlockPointers.{form_at, pointer_in, stored}
use Rattle.vol_layout.specs.declared.geometry.Geometry.{Geometry}
use Rattle.vol_layout.specs.declared.block_map.BlockMap.{BlockMap}
use Rattle.vol_file.specs.declared.runs.PointerRun.{PointerRun}
use Rattle.vol_file.specs.declared.runs.PointerRun.TheVariants.{Nowhere, Inode, Indirect}
use Rattle.vol_file.specs.declared.runs.Run.{Run}
use Rattle.vol_file.specs.declared.runs.BlockNumbers.{BlockNumbers}

-- block number k of a source: address k of the i-node, or entry k of an indirect block (manual section 5, file system; Lions on bmap)
abbrev pub number_from : Geometry → List ℕ → ℕ → PointerRun → ℕ → ℕ
number_from geometry image i Nowhere k = 0
number_from geometry image i Inode k = address_at geometry.edition image (inode_place geometry.edition i) k
number_from geometry image i (Indirect m) k = pointer_in geometry image m k

-- a source has a block number with index k: an i-node has at most 13 addresses, and an indirect block as many entries as the edition defines (ino.h;
-- param.h)
abbrev pub HasNumber : Geometry → PointerRun → ℕ → Type 0
HasNumber geometry Nowhere k = Unit {0}
HasNumber geometry Inode k = k < 13
HasNumber geometry (Indirect m) k = k < (constants geometry.edition).pointers

-- the block numbers of the logical blocks of a run are stored next to each other (Lions on bmap)
pub record IsRun (geometry : Geometry) (image : List ℕ) (i : ℕ) (form : BlockMap) (run : Run) : Type 0 where
  pub room : (b : ℕ) → run.first ≤ b → b ≤ run.last → HasNumber geometry run.source (run.entry + (b - run.first))
  pub numbers : (b : ℕ) → run.first ≤ b → b ≤ run.last → stored geometry image i form b ≡ number_from geometry image i run.source (run.entry + (b - run.first))

-- the lookup `numbers` is for i-node i, and its current run is one of that file (this project)
pub record LooksUp (geometry : Geometry) (image : List ℕ) (i : ℕ) (numbers : BlockNumbers) : Type 0 where
  pub inode : numbers.inode ≡ i
  pub first : 1 ≤ i
  pub last : i ≤ geometry.last_inode
  pub form : numbers.form ≡ form_at geometry image i
  pub run : IsRun geometry image i numbers.form numbers.run
