-- Saving an image.
use Rattle.std.specs.Prelude.{◌≡◌, ◌≢◌, ◌⊎◌, ◌*◌, ◌<◌, ◌++◌, ℕ, List, Option, codes, decimal}
use Rattle.std.specs.Io.KnownBytes.{Appends}
use Rattle.std.specs.Path.{path_with_file_name}
use Rattle.vol_mkfs.specs.Blank.{WritesVolume}
use Rattle.host_files.specs.Packs.{IsSpliced}
use Rattle.host_files.specs.declared.image_file.FileKind.TheVariants as kinds
use Rattle.host_files.specs.declared.image_file.Stamp.{Stamp}
use Rattle.host_files.specs.declared.saved_files.Content.{Content}
use Rattle.host_files.specs.declared.saved_files.Content.TheVariants.{Bytes, Volume}
use Rattle.host_files.specs.declared.saved_files.Filling.{Filling}
use Rattle.host_files.specs.declared.saved_files.Filling.TheVariants.{Part, Whole}
use Rattle.host_files.specs.declared.saved_files.HeldFile.{HeldFile}
use Rattle.host_files.specs.declared.saved_files.Place.{Place}
use Rattle.host_files.specs.declared.saved_files.Place.TheVariants.{New, Old}
use Rattle.host_files.specs.declared.saved_files.VolumePart.{VolumePart}

-- this is the path of a new file in the folder of another path: `.unixvol-` and a number below 1000 (this project)
abbrev pub IsBeside : List ℕ → List ℕ → Type 0
IsBeside path beside = (number : ℕ) × (number < 1000) × (beside ≡ path_with_file_name path (codes ".unixvol-" ++ decimal number))

-- the bytes of a content were appended to the known bytes (std::io::Write)
abbrev pub Grows : Content → Option (List ℕ) → Option (List ℕ) → Type 0
Grows (Bytes bytes) old new = Appends old new bytes.now
Grows (Volume blank) old new = WritesVolume blank.now old new

-- the whole content was written to some file, after the bytes that it held (std::io::Write)
abbrev pub Saves : {F : Type 0} → (F → Option (List ℕ)) → Content → Type 0
Saves {F} contents content = (old : F) × (new : F) × Grows content (contents old) (contents new)

-- all these bytes were written to some file (std::io::Write)
abbrev pub IsTaken : {F : Type 0} → (F → Option (List ℕ)) → List ℕ → Type 0
IsTaken {F} contents bytes = (old : F) × (new : F) × Appends (contents old) (contents new) bytes

-- the system reported a stamp for an open file, and not that of a regular file (this project)
abbrev pub IsIrregular : {F : Type 0} → (F → Stamp → Type 0) → F → Type 0
IsIrregular had file = (stamp : Stamp) × had file stamp × (stamp.kind ≢ kinds.Regular)

-- a file that the system said isn't regular was open, and these bytes were written to some file (this project)
abbrev pub IsInPlace : {F : Type 0} → (F → Option (List ℕ)) → (F → Stamp → Type 0) → List ℕ → Type 0
IsInPlace {F} contents had bytes = (opened : F) × (stamp : Stamp) × had opened stamp × (stamp.kind ≢ kinds.Regular) × IsTaken contents bytes

-- a whole file was read, and was written to a new one with a volume in its place (this project)
abbrev pub FillsPart : {F : Type 0} → (F → Option (List ℕ)) → (F → Option (List ℕ)) → VolumePart → F → F → Type 0
FillsPart {F} remaining contents part old new =
    (pack : F) × (pack' : F) × IsSpliced (512 * part.at) part.bytes.now (remaining pack) (remaining pack') (contents old) (contents new)

-- a volume was saved in its place: a whole file was read, and was written to a new one with these bytes in the place of as many; or the file isn't
-- regular, and these bytes were written (this project)
abbrev pub Stores : {F : Type 0} → (F → Option (List ℕ)) → (F → Option (List ℕ)) → (F → Stamp → Type 0) → VolumePart → Type 0
Stores {F} remaining contents had part =
    ((old : F) × (new : F) × FillsPart remaining contents part old new) ⊎ IsInPlace contents had part.bytes.now

-- a new file was filled (this project)
abbrev pub Fills : {F : Type 0} → (F → Option (List ℕ)) → (F → Option (List ℕ)) → Filling → F → F → Type 0
Fills remaining contents (Whole content) old new = Grows content (contents old) (contents new)
Fills remaining contents (Part part) old new = FillsPart remaining contents part old new

-- a new file was filled, and the system synchronised it (this project)
abbrev pub IsFilled : {F : Type 0} → (F → Option (List ℕ)) → (F → Option (List ℕ)) → (F → Type 0) → Filling → Type 0
IsFilled {F} remaining contents synced filling = (old : F) × (new : F) × Fills remaining contents filling old new × synced new

-- something was written to a file in its place: a volume, by itself (this project)
abbrev pub GrowsInPlace : {F : Type 0} → (F → Option (List ℕ)) → Filling → F → Type 0
GrowsInPlace {F} contents (Whole content) new = (old : F) × Grows content (contents old) (contents new)
GrowsInPlace {F} contents (Part part) new = (old : F) × Appends (contents old) (contents new) part.bytes.now

-- a filling was saved: it was written to a new file, which had this stamp; or to some file that already existed, when one was open that isn't regular
-- (this project)
abbrev pub IsPlaced : {F : Type 0} → (F → Option (List ℕ)) → (F → Option (List ℕ)) → (F → Stamp → Type 0) → Filling → Place F → Type 0
IsPlaced {F} remaining contents had filling (New file stamp) = (old : F) × Fills remaining contents filling old file × had file stamp
IsPlaced {F} remaining contents had filling (Old stamp) =
    ((opened : F) × (was : Stamp) × had opened was × (was.kind ≢ kinds.Regular)) × (new : F) × GrowsInPlace contents filling new × had new stamp

-- if a save put a new file in a place, the system gave that file some path; such a file was filled, synchronised and locked before, and compared with
-- what it replaces (this project)
abbrev pub IsNamed : {F : Type 0} → (F → List ℕ → Type 0) → Place F → Type 0
IsNamed named (New file stamp) = (path : List ℕ) × named file path
IsNamed named (Old stamp) = Unit {0}

-- after a save, the held file was filled, and had the stamp; or the held file is the same as before, one was open that isn't regular, and the volume was
-- written to some file that had the stamp (this project)
abbrev pub Holds : {F : Type 0} → (F → Option (List ℕ)) → (F → Option (List ℕ)) → (F → Stamp → Type 0) → VolumePart → HeldFile F → HeldFile F → Type 0
Holds {F} remaining contents had part held held' =
    ((old : F) × FillsPart remaining contents part old held'.file × had held'.file held'.stamp)
    ⊎ ((held'.file ≡ held.file) × ((opened : F) × (was : Stamp) × had opened was × (was.kind ≢ kinds.Regular))
    × (old : F) × (new : F) × Appends (contents old) (contents new) part.bytes.now × had new held'.stamp)
