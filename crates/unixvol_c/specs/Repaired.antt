-- The repair of an image, as C gets it.
use Rattle.std.specs.Prelude.{◌≡◌, ◌<◌, ℕ, ◌+◌, List, ◌++◌, length, map, drop, replicate}
use Rattle.vol_layout.specs.declared.edition.Edition.{Edition}
use Rattle.vol_repair.specs.Repaired.{IsRepaired}
use Rattle.vol_repair.specs.declared.repair_line.RepairLine.{RepairLine}
use Rattle.vol_repair.specs.declared.repair_line.RepairLine.TheVariants as lines
use Rattle.vol_repair.specs.declared.repaired_volume.RepairFault.{RepairFault}
use Rattle.vol_repair.specs.declared.repaired_volume.RepairFault.TheVariants as faults
use Rattle.unixvol_c.specs.declared.structs.RepairedLine.{RepairedLine}

-- a line about an i-node, by the kind of the line (this project)
abbrev pub about : ℕ → ℕ → ℕ → ℕ → RepairedLine
about kind inode before after =
    record { before = before; after = after; slot = 0; inode = inode; kind = kind; name_before = replicate 14 0; name_after = replicate 14 0 }

-- a line as C sees it (this project)
abbrev pub line_of : RepairLine → RepairedLine
line_of (lines.Cleared inode) = about 1 inode 0 0
line_of (lines.Made inode) = about 2 inode 0 0
line_of (lines.Size inode old new) = about 3 inode old new
line_of (lines.Changed inode) = about 4 inode 0 0
line_of (lines.Links inode old new) = about 5 inode old new
line_of (lines.Entry directory slot old new) =
    record { before = old.inode; after = new.inode; slot = slot; inode = directory; kind = 6; name_before = old.name; name_after = new.name }
line_of lines.FreeList = about 7 0 0 0

-- the number for the reason why an image isn't repaired (this project)
abbrev pub repair_number : RepairFault → ℕ
repair_number (faults.Unsized rule) = 200 + rule
repair_number faults.NotRepaired = 112
repair_number faults.NoSpace = 28
repair_number faults.NoMemory = 12

-- the image in a buffer is repaired, and its lines are put at the beginning of another (this project)
pub record RepairsIn (edition : Edition) (old new : List ℕ) (before after : List RepairedLine) (count : ℕ) : Type 0 where
  pub lines : List RepairLine
  pub repaired : IsRepaired edition old new lines
  pub told : after ≡ map line_of lines ++ drop (length lines) before
  pub counted : count ≡ length lines

-- an image can be repaired, with more lines than a buffer has room for (this project)
pub record WantsRoom (edition : Edition) (old : List ℕ) (room : List RepairedLine) (count : ℕ) : Type 0 where
  pub image : List ℕ
  pub lines : List RepairLine
  pub repaired : IsRepaired edition old image lines
  pub counted : count ≡ length lines
  pub short : length room < count
