-- What a catalogue has of a file.
use Rattle.std.specs.Prelude.{◌≡◌, ℕ, ◌*◌, List, [], ◌∷◌, ◌++◌, length, Option}
use Rattle.std.specs.Io.KnownBytes.{Consumes}
use Rattle.host_files.specs.Packs.{IsReadFrom}
use Rattle.host_files.specs.declared.image_file.Stamp.{Stamp}
use Rattle.host_files.specs.declared.volume_front.UpTo.TheVariants as ends
use Rattle.sha2.specs.Sha256.{sha256}
use Rattle.vol_catalogue.specs.Facts.{AreFacts}
use Rattle.vol_catalogue.specs.declared.facts.VolumeFacts.{VolumeFacts}
use Rattle.vol_catalogue.specs.declared.rows.FileFacts.{FileFacts}
use Rattle.vol_catalogue.specs.declared.rows.ListedVolume.{ListedVolume}
use Rattle.vol_identify.specs.Packs.{IsScanned}
use Rattle.vol_identify.specs.declared.pack_scan.Part.{Part}
use Rattle.vol_identify.specs.declared.pack_scan.Part.TheVariants.{Volume, Between}
use Rattle.vol_layout.specs.declared.edition.Edition.{Edition}
use Rattle.pack_files.specs.PackFiles.{blocks_in}

-- a file had a stamp when it was opened, as many bytes were read from it as that says, and these are their number and their SHA-256 (FIPS 180-4)
abbrev pub IsSummed : {F : Type 0} → (F → Option (List ℕ)) → (F → Stamp → Type 0) → FileFacts → Type 0
IsSummed {F} remaining had file =
    (old : F) × (new : F) × (stamp : Stamp) × (bytes : List ℕ) × had old stamp × Consumes (remaining old) (remaining new) bytes
    × (length bytes ≡ stamp.size) × (file.size ≡ stamp.size) × (file.sum ≡ sha256 bytes)

-- a file had a stamp when it was opened, all blocks were read that its size has, and these are the parts of that pack (this project)
abbrev pub AreParts : {F : Type 0} → (F → Option (List ℕ)) → (F → Stamp → Type 0) → List Part → Type 0
AreParts {F} remaining had parts =
    (old : F) × (new : F) × (stamp : Stamp) × had old stamp × IsScanned (blocks_in stamp.size) (remaining old) (remaining new) parts

-- a volume of an edition was read from some file, at this block, and these are its facts (this project)
abbrev pub GaveFacts : {F : Type 0} → (F → Option (List ℕ)) → ℕ → Edition → VolumeFacts → Type 0
GaveFacts {F} remaining at edition facts =
    (old : F) × (new : F) × (bytes : List ℕ) × IsReadFrom (512 * at) (ends.Volume edition) (remaining old) (remaining new) bytes × AreFacts edition bytes facts

-- this is listed of a part of a pack: a volume, with its facts; nothing of what is between volumes (this project)
abbrev pub IsListedPart : {F : Type 0} → (F → Option (List ℕ)) → Part → List ListedVolume → Type 0
IsListedPart remaining (Volume block volume) listed =
    (facts : VolumeFacts) × GaveFacts remaining block volume.edition facts × (listed ≡ record { block = block; volume = volume; facts = facts } ∷ [])
IsListedPart remaining (Between block blocks zeros) listed = listed ≡ []

-- this is listed of the parts of a pack, in order (this project)
abbrev pub AreListed : {F : Type 0} → (F → Option (List ℕ)) → List Part → List ListedVolume → Type 0
AreListed remaining [] listed = listed ≡ []
AreListed remaining (part ∷ more) listed =
    (one : List ListedVolume) × (others : List ListedVolume) × IsListedPart remaining part one × AreListed remaining more others × (listed ≡ one ++ others)
