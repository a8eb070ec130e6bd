-- The packs in files, and what judging says of their volumes.
use Rattle.std.specs.Prelude.{◌≡◌, ◌⊎◌, ℕ, ◌*◌, ◌/◌, ◌^◌, ◌-◌, min, Bool, true, false, All, List, map, Option, None, Some}
use Rattle.host_files.specs.Packs.{IsReadFrom}
use Rattle.std.specs.Global.{Vec}
use Rattle.vol_layout.specs.declared.edition.Edition.{Edition}
use Rattle.host_files.specs.declared.image_file.FileKind.{FileKind}
use Rattle.host_files.specs.declared.image_file.FileKind.TheVariants as kinds
use Rattle.host_files.specs.declared.image_file.Stamp.{Stamp}
use Rattle.host_files.specs.declared.volume_front.UpTo.TheVariants as ends
use Rattle.vol_judge.specs.Sound.{IsJudged}
use Rattle.vol_identify.specs.Packs.{IsCutShort, IsScanned}
use Rattle.vol_identify.specs.PackTexts.{is_pack}
use Rattle.vol_identify.specs.declared.pack_scan.Part.{Part}
use Rattle.vol_identify.specs.declared.pack_scan.Part.TheVariants.{Volume, Between}
use Rattle.vol_identify.specs.declared.pack_texts.JudgedPart.{JudgedPart}

-- the number of whole blocks in a file of so many bytes, but at most 2^32 - 1 (this project)
abbrev pub blocks_in : ℕ → ℕ
blocks_in size = min (size / 512) (2 ^ 32 - 1)

-- a file is a regular one (this project)
abbrev pub is_regular : FileKind → Bool
is_regular kinds.Regular = true
is_regular _ = false

-- a pack of `blocks` blocks was read from a source, and these are its parts; or the source ended before it did (this project)
abbrev pub AreScanned : ℕ → Option (List ℕ) → Option (List ℕ) → Option (Vec Part) → Type 0
AreScanned blocks old new None = IsCutShort blocks old new
AreScanned blocks old new (Some parts) = IsScanned blocks old new parts.items

-- a pack of `blocks` blocks was read from a source, and these are its parts; or it isn't a pack, or the source ended before it did (this project)
abbrev pub IsFound : ℕ → Option (List ℕ) → Option (List ℕ) → Option (Vec Part) → Type 0
IsFound blocks old new None = IsCutShort blocks old new ⊎ ((parts : List Part) × IsScanned blocks old new parts × (is_pack parts ≡ false))
IsFound blocks old new (Some parts) = IsScanned blocks old new parts.items × (is_pack parts.items ≡ true)

-- a file had this stamp when it was opened, and was scanned if it is a regular one (this project)
abbrev pub IsOpenedFound : {F : Type 0} → (F → Option (List ℕ)) → (F → Stamp → Type 0) → Option (Vec Part) → Type 0
IsOpenedFound {F} remaining had found =
    (old : F) × (stamp : Stamp) × had old stamp
    × (((is_regular stamp.kind ≡ true) × (new : F) × IsFound (blocks_in stamp.size) (remaining old) (remaining new) found)
    ⊎ ((is_regular stamp.kind ≡ false) × (found ≡ None)))

-- the parts of the pack in a file; none if it isn't a pack, or not a regular file, which isn't opened (this project)
abbrev pub FindsPack : {F : Type 0} → (F → Option (List ℕ)) → (F → Stamp → Type 0) → (Stamp → Type 0) → Option (Vec Part) → Type 0
FindsPack remaining had stood found =
    IsOpenedFound remaining had found ⊎ ((stamp : Stamp) × stood stamp × (is_regular stamp.kind ≡ false) × (found ≡ None))

-- a volume of an edition was read from some file, at this block, and this is the first rule that it breaks (this project)
abbrev pub IsJudgedAt : {F : Type 0} → (F → Option (List ℕ)) → ℕ → Edition → Option ℕ → Type 0
IsJudgedAt {F} remaining at edition broken =
    (old : F) × (new : F) × (bytes : List ℕ) × IsReadFrom (512 * at) (ends.Volume edition) (remaining old) (remaining new) bytes
    × IsJudged true edition bytes broken

-- a volume of a pack was read from some file and judged; of what is between volumes nothing is said (this project)
abbrev pub IsPartJudged : {F : Type 0} → (F → Option (List ℕ)) → Part → Option ℕ → Type 0
IsPartJudged remaining (Volume block volume) broken = IsJudgedAt remaining block volume.edition broken
IsPartJudged remaining (Between block blocks zeros) broken = broken ≡ None

-- these are the parts, each judged (this project)
pub record AreJudged {F : Type 0} (remaining : F → Option (List ℕ)) (parts : List Part) (judged : List JudgedPart) : Type 0 where
  pub same : map (λ (one : JudgedPart). one.part) judged ≡ parts
  pub each : All (λ (one : JudgedPart). IsPartJudged remaining one.part one.broken) judged

-- the judged parts of the pack in a file; or it has none (this project)
abbrev pub GivesPack : {F : Type 0} → (F → Option (List ℕ)) → (F → Stamp → Type 0) → (Stamp → Type 0) → Option (Vec JudgedPart) → Type 0
GivesPack remaining had stood None = FindsPack remaining had stood None
GivesPack remaining had stood (Some judged) =
    (parts : Vec Part) × FindsPack remaining had stood (Some parts) × AreJudged remaining parts.items judged.items
