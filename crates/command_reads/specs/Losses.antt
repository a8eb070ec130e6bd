-- An export of an image with lost blocks: how it is read, what is exported, and its remarks.
use Rattle.std.specs.Prelude.{◌≡◌, ◌⊎◌, ℕ, Bool, true, false, List, [], ◌∷◌, ◌++◌, codes, decimal, Option, Some}
use Rattle.vol_layout.specs.declared.edition.Edition.{Edition}
use Rattle.vol_losses.specs.CutImages.{IsCompleted, IsIncomplete}
use Rattle.vol_losses.specs.declared.cut_images.CutFault.{CutFault}
use Rattle.vol_losses.specs.declared.cut_images.CutFault.TheVariants as cuts
use Rattle.vol_archive.specs.Notes.{noted_archive}
use Rattle.vol_dir.specs.declared.directories.FoundDirectory.{FoundDirectory}
use Rattle.vol_archive.specs.declared.met_entries.MetEntry.{MetEntry}
use Rattle.vol_rescue.specs.Damage.{kept_entries}
use Rattle.vol_rescue.specs.Lines.{TellsLosses}
use Rattle.vol_rescue.specs.Notes.{HasNotes}
use Rattle.command_faults.specs.Faults.{fault_line, no_memory}
use Rattle.command_faults.specs.Streams.{Streams}
use Rattle.command_faults.specs.declared.fault.Fault.{Fault}
use Rattle.command_reads.specs.Print.{IsTold, IsToldWith}
use Rattle.command_reads.specs.Remarks.{TellsAll}
use Rattle.command_terms.specs.declared.looks.ExportOptions.{ExportOptions}

-- the image that these bytes are read as, and its lost blocks: with `cut`, an image that was cut off is completed; else the bytes are the image, and no
-- block is lost (this project)
abbrev pub IsReadAs : Bool → Edition → List ℕ → List ℕ → List Bool → Type 0
IsReadAs false edition bytes image lost = (image ≡ bytes) × (lost ≡ [])
IsReadAs true edition bytes image lost = IsCompleted edition bytes image lost

-- the line of an image that has too few of the blocks that its super-block states (this project)
unfoldable pub short_line : ℕ → ℕ → List ℕ
short_line there blocks = codes "unixvol: the image has " ++ (decimal there ++ (codes " of " ++ (decimal blocks ++ codes " blocks\n")))

-- the ending of an export whose image isn't completed for this reason: the line of an image that is too short, with status 6, or out of memory (this
-- project)
abbrev pub IsUnreadEnding : CutFault → ℕ → Option Fault → Type 0
IsUnreadEnding cuts.NoMemory status fault = (status ≡ 4) × (fault ≡ Some no_memory)
IsUnreadEnding (cuts.TooShort there blocks) status fault =
    ((told : Fault) × (fault ≡ Some told) × (fault_line told ≡ short_line there blocks) × (status ≡ 6)) ⊎ ((status ≡ 4) × (fault ≡ Some no_memory))

-- an image isn't completed, which is reported: too many of its blocks are missing, with status 6, or memory ran out (this project)
abbrev pub TellsIncomplete : Edition → List ℕ → Streams → ℕ → Type 0
TellsIncomplete edition bytes streams status =
    ((there : ℕ) × (blocks : ℕ) × (fault : Fault) × IsIncomplete edition bytes (cuts.TooShort there blocks) × (fault_line fault ≡ short_line there blocks)
    × IsToldWith 6 streams fault status)
    ⊎ IsTold streams no_memory status

-- the bytes of the archive of the entries found, without those that are damaged, with these notes on files (this project)
abbrev pub exported_bytes : FoundDirectory → List ℕ → List Bool → ExportOptions → List MetEntry → List (List ℕ) → List ℕ
exported_bytes start image lost options founds notes =
    noted_archive start.geometry image (kept_entries start.geometry image lost options.losses.damaged founds) notes

-- the notes of an export: with the damaged files, the text that names the lost bytes of each; else none (this project)
abbrev pub AreExportNotes : FoundDirectory → List ℕ → List Bool → ExportOptions → List (List ℕ) → Type 0
AreExportNotes start image lost options notes = HasNotes start.geometry image lost options.losses.damaged notes

-- all remarks on an export, and whether something isn't exported: if there are lost blocks, what is lost, else what is wrong with the volume (this
-- project)
abbrev pub TellsExport : Edition → List ℕ → List Bool → FoundDirectory → List MetEntry → ExportOptions → List ℕ → Bool → Type 0
TellsExport edition image [] start founds options lines short = TellsAll edition image start.geometry founds options lines short
TellsExport edition image (mark ∷ lost) start founds options lines short = TellsLosses start.geometry image (mark ∷ lost) start.inode founds lines short

-- true if the status of an export says that something isn't exported: it is graded, or there are lost blocks (this project)
abbrev pub is_graded : Bool → List Bool → Bool
is_graded graded [] = graded
is_graded graded (mark ∷ lost) = true
