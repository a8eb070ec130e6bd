-- Iterating over the entries of directories.
use Rattle.std.specs.Prelude.{ℕ, ◌+◌, ◌*◌, ◌<◌, ◌≤◌, List}
use Rattle.vol_layout.specs.Slot.{name_of}
use Rattle.vol_dir.specs.Entries.{HasEntry}
use Rattle.vol_layout.specs.declared.geometry.Geometry.{Geometry}
use Rattle.vol_layout.specs.declared.slot.Slot.{Slot}

-- the position of slot s of directory d among the slots of all directories; no directory has 2^32 slots (this project)
abbrev pub rank : ℕ → ℕ → ℕ
rank d s = 4294967296 * d + s

-- slot s of directory d is the first slot at or after a position that has an entry, and `slot` is its content (manual section 5, directories)
pub record IsNextSlot (geometry : Geometry) (image : List ℕ) (from d s : ℕ) (slot : Slot) : Type 0 where
  pub reached : from ≤ rank d s
  pub low : s < 67637568
  pub entry : HasEntry geometry image d s (name_of slot.name) slot.inode
  pub before : (e t i : ℕ) (name : List ℕ) → HasEntry geometry image e t name i → rank e t < rank d s → rank e t < from

-- no slot at or after a position has an entry (manual section 5, directories)
abbrev pub IsPastEntries : Geometry → List ℕ → ℕ → Type 0
IsPastEntries geometry image from = (e t i : ℕ) (name : List ℕ) → HasEntry geometry image e t name i → rank e t < from
