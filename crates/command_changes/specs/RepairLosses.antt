-- The results of `repair` of an image of which some blocks are lost.
use Rattle.std.specs.Prelude.{◌≡◌, ◌==◌, ℕ, Bool, if◌then◌else◌, List, [], ◌∷◌, length}
use Rattle.vol_layout.specs.Edition.{constants}
use Rattle.vol_layout.specs.Geometry.{geometry_of}
use Rattle.vol_layout.specs.declared.edition.Edition.{Edition}
use Rattle.vol_repair.specs.Longer.{IsLengthened}
use Rattle.vol_rescue.specs.Repaired.{TellsRepaired}
use Rattle.command_changes.specs.Repair.{IsLongerReported}

-- the lines about what is lost of an image that was repaired to a copy; none if no block is lost (this project)
abbrev pub TellsLost : Edition → List ℕ → List ℕ → List ℕ → List Bool → Type 0
TellsLost edition old new lines [] = lines ≡ []
TellsLost edition old new lines (mark ∷ lost) = TellsRepaired (geometry_of edition new) old (mark ∷ lost) new (constants edition).root lines

-- an image is repaired, and the texts are that of lines which tell all that differs, and the lines about what is lost (this project)
abbrev pub IsLostReported : Edition → List ℕ → List Bool → List ℕ → List ℕ → List ℕ → Type 0
IsLostReported edition old lost new text lines = IsLongerReported edition old new text × TellsLost edition old new lines lost

-- an image, with at least so many blocks, is repaired, and reported on (this project)
abbrev pub IsRescueReported : Edition → ℕ → List ℕ → List Bool → List ℕ → List ℕ → List ℕ → Type 0
IsRescueReported edition blocks old lost new text lines =
    (longer : List ℕ) × IsLengthened edition blocks old longer × IsLostReported edition longer lost new text lines

-- the status of a repair with these lines about what is lost: 5 if there are any, else 0 (this project)
abbrev pub losses_status : List ℕ → ℕ
losses_status losses = if length losses == 0 then 0 else 5
