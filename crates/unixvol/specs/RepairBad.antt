-- `repair` of an image of which some blocks couldn't be read: the files that it reads and saves, and its result.
use Rattle.std.specs.Prelude.{◌≡◌, ◌⊎◌, ℕ, Bool, true, false, List, [], ◌++◌, Option, None, Some}
use Rattle.std.specs.Option.{is_some}
use Rattle.std.specs.Io.KnownBytes.{Keeps}
use Rattle.command_changes.specs.Repair.{IsUnrepaired}
use Rattle.command_changes.specs.RepairLosses.{IsRescueReported, losses_status}
use Rattle.command_terms.specs.declared.options.Repairing.{Repairing}
use Rattle.command_faults.specs.Faults.{no_memory}
use Rattle.command_faults.specs.Streams.{Streams}
use Rattle.command_faults.specs.declared.fault.Fault.{Fault}
use Rattle.command_reads.specs.BadImages.{IsBadRescued, TellsBadUnread}
use Rattle.command_reads.specs.Print.{IsTold, PrintsTelling}
use Rattle.command_reads.specs.declared.bad_looks.BadBlocks.{BadBlocks}
use Rattle.command_words.specs.declared.invocation.BadImage.{BadImage}
use Rattle.command_words.specs.declared.invocation.VolumeFile.{VolumeFile}
use Rattle.host_files.specs.declared.image_file.Stamp.{Stamp}
use Rattle.unixvol.specs.Exits.{Exits, ToEnd}
use Rattle.unixvol.specs.LookBad.{IsBadRead, IsKnownRead}
use Rattle.unixvol.specs.Reports.{IsOneFile}
use Rattle.unixvol.specs.Runs.{HostFiles, IsEndWithin, IsStatusOfFileOrMemory, RunsNothing, but_remarks}

-- a report is printed, and the lines about what is lost are on standard error; if the copy goes to standard output, both are on standard error (this project)
abbrev pub PrintsLosses : Streams → Bool → List ℕ → List ℕ → ℕ → Type 0
PrintsLosses streams false report losses status = PrintsTelling (losses_status losses) losses streams report status
PrintsLosses streams true report losses status = PrintsTelling (losses_status losses) (report ++ losses) streams [] status

-- a copy is saved in a file, and then reported on, on standard error if the system said that the file is standard output; or it isn't saved, and nothing is
-- printed, or memory ran out (this project)
abbrev pub SavesRescued : Streams → (List ℕ → Type 0) → (Stamp → Type 0) → List ℕ → List ℕ → List ℕ → ℕ → Type 0
SavesRescued streams taken stood bytes report losses status =
    ((is_output : Bool) × (is_output ≡ true → IsOneFile stood) × taken bytes × PrintsLosses streams is_output report losses status)
    ⊎ ((IsStatusOfFileOrMemory status × Keeps streams.old streams.new × (streams.failed ≡ streams.had_failed) × (streams.lines ≡ []))
    ⊎ IsTold streams no_memory status)

-- the report on a copy is printed, with what is lost; if a file is named for the copy, it is saved there first (this project)
abbrev pub ReportsRescued : {A : Type 0} → Option A → Streams → (List ℕ → Type 0) → (Stamp → Type 0) → List ℕ → List ℕ → List ℕ → ℕ → Type 0
ReportsRescued None streams taken stood bytes report losses status = PrintsLosses streams false report losses status
ReportsRescued (Some copy) streams taken stood bytes report losses status = SavesRescued streams taken stood bytes report losses status

-- an image with lost blocks isn't repaired, for the reason that is reported; or it is repaired, to a copy, and all that differs and all that is lost is
-- reported (this project)
abbrev pub RepairsRescued : {A : Type 0} → Streams → HostFiles → VolumeFile → List ℕ → List Bool → Option A → Repairing → ℕ → Type 0
RepairsRescued streams files volume image lost copy repairing status =
    ((fault : Fault) × IsUnrepaired volume.edition repairing.blocks image fault × IsTold streams fault status)
    ⊎ ((bytes : List ℕ) × (report : List ℕ) × (losses : List ℕ)
    × IsRescueReported volume.edition repairing.blocks image lost bytes report losses
    × ReportsRescued copy streams files.taken files.stood bytes report losses status)

-- `repair` of an image of which some blocks couldn't be read runs: nothing is done, as one of the files can't be read; or the map, if there is one, and the
-- image are read, and there is no image then, which is reported, or what was read of it is repaired (this project)
abbrev pub RunsRepairBad : {A : Type 0} → Streams → HostFiles → VolumeFile → BadImage → Option A → Repairing → ℕ → Type 0
RunsRepairBad streams files volume image copy repairing status =
    RunsNothing streams files status
    ⊎ ((bytes : List ℕ) × (bad : BadBlocks) × IsKnownRead files volume bytes image.sizes × IsBadRead files volume image.bad bad
    × (TellsBadUnread volume.edition bytes image.sizes streams status bad
    ⊎ ((read : List ℕ) × (lost : List Bool) × IsBadRescued volume.edition bytes image.sizes read lost bad
    × RepairsRescued streams files volume read lost copy repairing status)))

-- it runs to its end; its status is at most 6, and if it is 0, no output failed, and nothing was reported, unless a file is named for the copy (this project)
abbrev pub RepairsBadToEnd : {A : Type 0} → HostFiles → Option (List ℕ) → Option (List ℕ) → VolumeFile → BadImage → Option A → Repairing → ℕ → Type 0
RepairsBadToEnd files output errors volume image copy repairing end =
    ToEnd output errors (λ streams status. RunsRepairBad streams files volume image copy repairing status)
    (λ streams status. IsEndWithin 6 (but_remarks (is_some copy) streams) status) Exits end
