-- The faults of commands, with their statuses and lines.
use Rattle.std.specs.Prelude.{ℕ, ◌++◌, true, List, [], Option, None, Some, codes}
use Rattle.vol_dir.specs.Refusals.{refusal_text}
use Rattle.vol_judge.specs.RuleTexts.{unsound_text}
use Rattle.vol_judge.specs.Sound.{IsSound, IsLeastBroken}
use Rattle.vol_dir.specs.declared.refusal.Refusal.{Refusal}
use Rattle.vol_dir.specs.declared.refusal.Refusal.TheVariants as refusals
use Rattle.vol_layout.specs.declared.edition.Edition.{Edition}
use Rattle.vol_volume.specs.declared.volume.MountFault.{MountFault}
use Rattle.vol_volume.specs.declared.volume.MountFault.TheVariants as mounts
use Rattle.command_faults.specs.declared.fault.Fault.{Fault}
use Rattle.command_faults.specs.declared.fault.Fault.TheVariants as faults

-- the status of a refusal: 1, or 4 if memory ran out (this project)
abbrev pub refusal_status : Refusal → ℕ
refusal_status refusals.NoMemory = 4
refusal_status _ = 1

-- the exit status for a fault: 1 for a refusal, 2 for a script that can't be read, 3 if the output failed, 4 if memory ran out (this project)
abbrev pub fault_status : Fault → ℕ
fault_status (faults.Unsound rule) = 1
fault_status (faults.Refused refusal) = refusal_status refusal
fault_status (faults.RefusedAt refusal line) = refusal_status refusal
fault_status faults.Bounds = 1
fault_status faults.HasDevice = 1
fault_status (faults.BadLine script number line flaw) = 2
fault_status (faults.Worded rule lines) = 1
fault_status faults.Output = 3

-- the line of a refusal: its number and its name (this project)
abbrev pub line_of_refusal : Refusal → List ℕ
line_of_refusal refusal = codes "unixvol: " ++ refusal_text refusal ++ codes "\n"

-- the line of a broken rule; a number outside 1 to 12 is left out (this project)
abbrev pub line_of_rule : ℕ → List ℕ
line_of_rule rule = codes "unixvol: " ++ unsound_text rule ++ codes "\n"

-- the line on standard error of a fault, or the lines (this project)
abbrev pub fault_line : Fault → List ℕ
fault_line (faults.Unsound rule) = line_of_rule rule
fault_line (faults.Refused refusal) = line_of_refusal refusal
fault_line (faults.RefusedAt refusal line) = line.items
fault_line faults.Bounds = codes "unixvol: bounds\n"
fault_line faults.HasDevice = codes "unixvol: 105 HasDevice\n"
fault_line (faults.BadLine script number line flaw) = line.items
fault_line (faults.Worded rule lines) = lines.items
fault_line faults.Output = codes "unixvol: cannot write -\n"

-- the line of a fault, if there is one (this project)
abbrev pub line_after : Option Fault → List ℕ
line_after None = []
line_after (Some fault) = fault_line fault

-- the fault of a command that runs out of memory (this project)
abbrev pub no_memory : Fault
no_memory = faults.Refused refusals.NoMemory

-- the fault of a command whose volume can't be mounted for this reason (this project)
abbrev pub unmounted : MountFault → Fault
unmounted (mounts.Unsound rule) = faults.Unsound rule
unmounted mounts.NoMemory = no_memory

-- a reason for a command to fail: out of memory, the first rule that the image breaks, or, for a sound image, a refusal that satisfies `refused` (this project)
abbrev pub IsCause : Edition → List ℕ → (Refusal → Type 0) → Fault → Type 0
IsCause edition image refused (faults.Unsound rule) = IsLeastBroken true edition image rule
IsCause edition image refused (faults.Refused refusals.NoMemory) = Unit {0}
IsCause edition image refused (faults.Refused refusal) = IsSound edition image × refused refusal
IsCause edition image refused _ = ⊥
