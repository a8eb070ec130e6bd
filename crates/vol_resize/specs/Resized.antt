-- A sound volume with another number of blocks, and the same files.
use Rattle.std.specs.Prelude.{◌≡◌, ◌⊎◌, ℕ, ◌+◌, ◌-◌, ◌*◌, ◌<◌, ◌≤◌, Bool, true, false, List, length, slice_index, slice_index_or}
use Rattle.vol_layout.specs.Edition.{constants}
use Rattle.vol_layout.specs.Geometry.{Fits, geometry_of, block_count, in_zone}
use Rattle.vol_layout.specs.BlockPointers.{NamesBlock}
use Rattle.vol_layout.specs.Super.{free_head}
use Rattle.vol_layout.specs.declared.edition.Edition.{Edition}
use Rattle.vol_layout.specs.declared.geometry.Geometry.{Geometry}
use Rattle.vol_free.specs.Rebuild.{unused}
use Rattle.vol_free.specs.Stack.{IsFree}
use Rattle.vol_dir.specs.Tree.{State, state}
use Rattle.vol_judge.specs.Marks.{AreNamed}
use Rattle.vol_judge.specs.Sound.{IsLeastBroken, IsSound}
use Rattle.vol_resize.specs.declared.resized_volume.ResizeFault.{ResizeFault}
use Rattle.vol_resize.specs.declared.resized_volume.ResizeFault.TheVariants as faults

-- the geometry of a volume with another number of blocks: the i-list is the same (filsys.h)
abbrev pub with_blocks : ℕ → Geometry → Geometry
with_blocks blocks geometry =
    record { edition = geometry.edition; zone_start = geometry.zone_start; zone_end = blocks; last_inode = geometry.last_inode }

-- the state of a volume with another number of blocks: nodes, shapes and the time are the same (this project)
abbrev pub state_in : ℕ → State → State
state_in blocks old = record {
  tree = record { geometry = with_blocks blocks old.tree.geometry; time = old.tree.time; nodes = old.tree.nodes };
  shapes = old.shapes;
}

-- a sound image is now one of exactly `blocks` blocks, sound too, with the same tree and shapes. The boot block, the i-list and its size, the i-number
-- cache, the flags and all blocks of files have the same bytes; the data blocks that belong to no file are free, in ascending order (this project)
pub record IsResized (edition : Edition) (blocks : ℕ) (old new : List ℕ) : Type 0 where
  pub was : IsSound edition old
  pub sound : IsSound edition new
  pub len : length new ≡ 512 * blocks
  pub sizes : geometry_of edition new ≡ with_blocks blocks (geometry_of edition old)
  pub reads : state (geometry_of edition new) new ≡ state_in blocks (state (geometry_of edition old) old)
  pub front : (k : ℕ) → k < 514 → slice_index new k ≡ slice_index old k
  pub list : (k : ℕ) → free_head edition + 202 ≤ k → k < 512 * (geometry_of edition old).zone_start → slice_index new k ≡ slice_index old k
  pub used : List Bool
  pub named : AreNamed (geometry_of edition old) old used
  pub stays : (b k : ℕ) → slice_index_or used b false ≡ true → 512 * b ≤ k → k < 512 * b + 512 → slice_index new k ≡ slice_index old k
  pub free : IsFree (geometry_of edition new) new (unused (geometry_of edition new) used)

-- the fewest blocks of a volume in which the blocks with a mark stay: the last of them is the last block, or the data zone has one block (this project)
pub record IsLeastFor (geometry : Geometry) (used : List Bool) (least : ℕ) : Type 0 where
  pub zone : geometry.zone_start < least
  pub inside : (b : ℕ) → slice_index_or used b false ≡ true → in_zone geometry b ≡ true → b < least
  pub last : (least ≡ geometry.zone_start + 1) ⊎ (slice_index_or used (least - 1) false ≡ true)

-- the fewest blocks that the volume in an image can have, whose files keep their blocks (this project)
pub record IsLeastSize (geometry : Geometry) (image : List ℕ) (least : ℕ) : Type 0 where
  pub zone : geometry.zone_start < least
  pub inside : (i : ℕ) (p : List ℕ) (b : ℕ) → NamesBlock geometry image i p b → b < least
  pub last : (least ≡ geometry.zone_start + 1) ⊎ ((i : ℕ) × (p : List ℕ) × NamesBlock geometry image i p (least - 1))

-- a sound image can have exactly `blocks` blocks: its geometry, and the marks of these blocks, which are those that files use (this project)
pub record CanHave (edition : Edition) (blocks : ℕ) (image : List ℕ) (geometry : Geometry) (used : List Bool) : Type 0 where
  pub limit : blocks ≤ (constants edition).block_limit
  pub sound : IsSound edition image
  pub same : geometry ≡ geometry_of edition image
  pub fits : Fits geometry image
  pub zone : geometry.zone_start < blocks
  pub count : length used ≡ blocks
  pub named : AreNamed geometry image used

-- the reason why a volume isn't resized: its edition has no volume of so many blocks; else it isn't sound, and this is the first broken rule; it has
-- exactly so many blocks; its files need more; or memory ran out (this project)
abbrev pub IsResizeFault : Edition → ℕ → List ℕ → ResizeFault → Type 0
IsResizeFault edition blocks image faults.TooMany = (constants edition).block_limit < blocks
IsResizeFault edition blocks image (faults.Unsound n) = (blocks ≤ (constants edition).block_limit) × IsLeastBroken true edition image n
IsResizeFault edition blocks image faults.Same =
    (blocks ≤ (constants edition).block_limit) × IsSound edition image × (block_count edition image ≡ blocks)
IsResizeFault edition blocks image (faults.Needs least) =
    (blocks ≤ (constants edition).block_limit) × IsSound edition image × IsLeastSize (geometry_of edition image) image least × (blocks < least)
IsResizeFault edition blocks image faults.NoMemory = Unit {0}
