-- Statements of the laws about repaired copies.
use Rattle.std.specs.Prelude.{ℕ, Bool, List}
use Rattle.vol_layout.specs.Geometry.{Fits, geometry_of}
use Rattle.vol_layout.specs.declared.edition.Edition.{Edition}
use Rattle.vol_losses.specs.Losses.{AgreesOutside, IsWhole}
use Rattle.vol_repair.specs.Copies.{IsRepairedCopy, KeepsFileIn}
use Rattle.vol_repair.specs.Kept.{FitsFile}
use Rattle.vol_repair.specs.Longer.{IsLengthened}
use Rattle.vol_repair.specs.Repaired.{IsRepaired}
use Rattle.vol_repair.specs.declared.repair_line.RepairLine.{RepairLine}

-- if an image is made longer and then repaired, what is saved is a repaired copy of the image that was read (this project's law)
abbrev pub CopiesLonger : Type 0
CopiesLonger = (edition : Edition) (blocks : ℕ) (old longer new : List ℕ) (lines : List RepairLine) → IsLengthened edition blocks old longer
    → IsRepaired edition longer new lines → IsRepairedCopy edition blocks old new lines

-- a file that fits and is whole has the same i-node, but for its link count, and the same bytes in a repaired copy of an image, which may have more blocks,
-- and in every image that agrees with that outside the lost blocks (this project's law)
abbrev pub KeepsRightFiles : Type 0
KeepsRightFiles = (edition : Edition) (blocks : ℕ) (lost : List Bool) (old volume new : List ℕ) (lines : List RepairLine) (i : ℕ)
    → Fits (geometry_of edition old) old → AgreesOutside (geometry_of edition old) lost old volume → IsRepairedCopy edition blocks old new lines
    → FitsFile (geometry_of edition old) old i → IsWhole (geometry_of edition old) old lost i
    → KeepsFileIn (geometry_of edition old) (geometry_of edition new) volume new i
