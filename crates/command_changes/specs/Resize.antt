-- The outcomes and the faults of `resize`.
use Rattle.std.specs.Prelude.{◌≡◌, ℕ, List, [], ◌++◌, codes, decimal}
use Rattle.vol_dir.specs.declared.refusal.Refusal.TheVariants as refusals
use Rattle.vol_layout.specs.declared.edition.Edition.{Edition}
use Rattle.vol_resize.specs.Resized.{IsResizeFault, IsResized}
use Rattle.vol_resize.specs.declared.resized_volume.ResizeFault.{ResizeFault}
use Rattle.vol_resize.specs.declared.resized_volume.ResizeFault.TheVariants as resizes
use Rattle.command_faults.specs.Faults.{fault_line, fault_status, line_of_refusal, line_of_rule}
use Rattle.command_faults.specs.Outcomes.{Outcomes, untraced}
use Rattle.command_faults.specs.declared.fault.Fault.{Fault}

-- the exit status if a volume isn't resized for this reason: 4 if memory ran out, else 1 (this project)
abbrev pub resize_status : ResizeFault → ℕ
resize_status resizes.NoMemory = 4
resize_status _ = 1

-- the line for a volume that isn't resized for this reason (this project)
abbrev pub resize_line : ResizeFault → List ℕ
resize_line resizes.TooMany = codes "unixvol: bounds\n"
resize_line (resizes.Unsound rule) = line_of_rule rule
resize_line resizes.Same = codes "unixvol: it has that many blocks\n"
resize_line (resizes.Needs blocks) = codes "unixvol: it needs " ++ (decimal blocks ++ codes " blocks\n")
resize_line resizes.NoMemory = line_of_refusal refusals.NoMemory

-- a fault has the status and the line for this reason not to resize a volume (this project)
abbrev pub TellsResize : ResizeFault → Fault → Type 0
TellsResize why fault = (fault_status fault ≡ resize_status why) × (fault_line fault ≡ resize_line why)

-- the fault for a volume that can't have so many blocks: it has the status and the line for the reason (this project)
abbrev pub IsUnresized : Edition → ℕ → List ℕ → Fault → Type 0
IsUnresized edition blocks image fault = (why : ResizeFault) × IsResizeFault edition blocks image why × TellsResize why fault

-- the outcomes of `resize`: the volume with so many blocks, to be saved, or the reason why it can't have them (this project)
abbrev pub of_resize : Edition → List ℕ → ℕ → Outcomes
of_resize edition image blocks =
    record { saves = untraced (IsResized edition blocks image); lines = []; fails = IsUnresized edition blocks image }
