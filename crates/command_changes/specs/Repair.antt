-- The results and the faults of `repair`.
use Rattle.std.specs.Prelude.{◌≡◌, ◌⊎◌, ℕ, ◌<◌, ◌≤◌, List, codes}
use Rattle.vol_dir.specs.declared.refusal.Refusal.TheVariants as refusals
use Rattle.vol_layout.specs.Edition.{constants}
use Rattle.vol_layout.specs.declared.edition.Edition.{Edition}
use Rattle.vol_repair.specs.Longer.{IsLengthened}
use Rattle.vol_repair.specs.Repaired.{IsRepairFault, IsRepaired}
use Rattle.vol_repair.specs.Text.{lines_text}
use Rattle.vol_repair.specs.declared.repair_line.RepairLine.{RepairLine}
use Rattle.vol_repair.specs.declared.repaired_volume.RepairFault.{RepairFault}
use Rattle.vol_repair.specs.declared.repaired_volume.RepairFault.TheVariants as repairs
use Rattle.command_faults.specs.Faults.{fault_line, fault_status, line_of_refusal, line_of_rule, no_memory}
use Rattle.command_faults.specs.declared.fault.Fault.{Fault}
use Rattle.command_faults.specs.declared.fault.Fault.TheVariants as faults

-- the exit status if an image isn't repaired for this reason: 4 if memory ran out, else 1 (this project)
abbrev pub repair_status : RepairFault → ℕ
repair_status repairs.NoMemory = 4
repair_status _ = 1

-- the line for an image that isn't repaired for this reason (this project)
abbrev pub repair_line : RepairFault → List ℕ
repair_line (repairs.Unsized rule) = line_of_rule rule
repair_line repairs.NotRepaired = codes "unixvol: 112 NotRepaired\n"
repair_line repairs.NoSpace = line_of_refusal refusals.NoSpace
repair_line repairs.NoMemory = line_of_refusal refusals.NoMemory

-- a fault has the status and the line for this reason not to repair an image (this project)
abbrev pub TellsRepair : RepairFault → Fault → Type 0
TellsRepair why fault = (fault_status fault ≡ repair_status why) × (fault_line fault ≡ repair_line why)

-- the fault for an image that isn't made longer: no volume of the edition has so many blocks; or one has, and memory ran out (this project)
abbrev pub IsUnlengthened : Edition → ℕ → Fault → Type 0
IsUnlengthened edition blocks fault =
    ((fault ≡ faults.Bounds) × ((constants edition).block_limit < blocks)) ⊎ ((fault ≡ no_memory) × (blocks ≤ (constants edition).block_limit))

-- the fault for an image that isn't repaired has the status and the line for the reason (this project)
abbrev pub IsLongerUnrepaired : Edition → List ℕ → Fault → Type 0
IsLongerUnrepaired edition longer fault = (why : RepairFault) × IsRepairFault edition longer why × TellsRepair why fault

-- the fault for an image that isn't repaired: it isn't made longer; or the image, with at least so many blocks, isn't repaired (this project)
abbrev pub IsUnrepaired : Edition → ℕ → List ℕ → Fault → Type 0
IsUnrepaired edition blocks image fault =
    IsUnlengthened edition blocks fault ⊎ ((longer : List ℕ) × IsLengthened edition blocks image longer × IsLongerUnrepaired edition longer fault)

-- an image is repaired, and the text is that of lines which tell all that differs (this project)
abbrev pub IsLongerReported : Edition → List ℕ → List ℕ → List ℕ → Type 0
IsLongerReported edition old new text = (lines : List RepairLine) × IsRepaired edition old new lines × (text ≡ lines_text lines)

-- an image, with at least so many blocks, is repaired, and the text is that of lines which tell all that differs (this project)
abbrev pub IsRepairReported : Edition → ℕ → List ℕ → List ℕ → List ℕ → Type 0
IsRepairReported edition blocks old new text = (longer : List ℕ) × IsLengthened edition blocks old longer × IsLongerReported edition longer new text
