-- Appending the lines of one i-number.
use Rattle.std.specs.Prelude.{◌≡◌, ◌⊎◌, ℕ, true, false, Bool, List, ◌++◌, slice_index_or}
use Rattle.std.specs.List.{All}
use Rattle.vol_layout.specs.Inode.{inode_of}
use Rattle.vol_layout.specs.declared.geometry.Geometry.{Geometry}
use Rattle.vol_repair.specs.Kept.{FitsFile}
use Rattle.vol_repair.specs.Lines.{subject, is_for_links, is_for_slot, IsTold, dir_entry, IsTrueLine}
use Rattle.vol_repair.specs.declared.repair_line.RepairLine.{RepairLine}

-- the line is about i-number i, and true (this project)
abbrev pub IsLineOf : Geometry → List ℕ → List ℕ → ℕ → RepairLine → Type 0
IsLineOf geometry old new i line = (subject line ≡ i) × IsTrueLine geometry old new line

-- lines were appended that are about i-number i, and true (this project)
pub record Grows (geometry : Geometry) (old new : List ℕ) (i : ℕ) (before after : List RepairLine) : Type 0 where
  pub more : List RepairLine
  pub items : after ≡ before ++ more
  pub each : All (IsLineOf geometry old new i) more

-- the link count of i-node i is the same in both images, or told (this project)
abbrev pub TellsLinks : Geometry → List ℕ → List ℕ → ℕ → List RepairLine → Type 0
TellsLinks geometry old new i lines =
    ((inode_of geometry.edition new i).links ≡ (inode_of geometry.edition old i).links) ⊎ IsTold (is_for_links i) lines

-- slot s of directory d has the same entry in both images, or it is told (this project)
abbrev pub TellsSlot : Geometry → List ℕ → List ℕ → ℕ → ℕ → List RepairLine → Type 0
TellsSlot geometry old new d s lines = (dir_entry geometry new d s ≡ dir_entry geometry old d s) ⊎ IsTold (is_for_slot d s) lines

-- each file with a mark doesn't fit (this project)
abbrev pub IsNotFit : Geometry → List ℕ → List Bool → Type 0
IsNotFit geometry image unfit = (i : ℕ) → slice_index_or unfit i false ≡ true → FitsFile geometry image i → ⊥
