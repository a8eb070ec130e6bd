-- The calls of an import made on a volume, all or nothing.
use Rattle.std.specs.Prelude.{◌≡◌, ◌≢◌, ℕ, ◌+◌, nat_le, if◌then◌else◌, List, length, true, Result, Ok, Err}
use Rattle.ustar.specs.Read.{path_of}
use Rattle.ustar.specs.declared.read.HeaderFault.{HeaderFault}
use Rattle.ustar.specs.declared.read.HeaderFault.TheVariants as headers
use Rattle.vol_dir.specs.Tree.{Tree}
use Rattle.vol_judge.specs.Sound.{IsSound, IsLeastBroken}
use Rattle.vol_volume.specs.Faults.{IsFaultOf}
use Rattle.vol_volume.specs.Volume.{Mounted, mounted}
use Rattle.vol_batch.specs.Batch.{AreStopped, MakesCalls}
use Rattle.vol_import.specs.Entries.{block_at}
use Rattle.vol_import.specs.Members.{members as read_members}
use Rattle.vol_import.specs.Plan.{plan}
use Rattle.vol_dir.specs.declared.refusal.Refusal.{Refusal}
use Rattle.vol_layout.specs.declared.edition.Edition.{Edition}
use Rattle.vol_volume.specs.declared.calls.Call.{Call}
use Rattle.vol_import.specs.declared.member_check.MemberFault.TheVariants as members
use Rattle.vol_import.specs.declared.faults.ArchiveFault.{ArchiveFault}
use Rattle.vol_volume.specs.declared.volume.MountFault.{MountFault}
use Rattle.vol_volume.specs.declared.volume.MountFault.TheVariants as mounts
use Rattle.vol_import.specs.declared.faults.ArchiveFault.TheVariants as archives
use Rattle.vol_import.specs.declared.make.ImportFault.{ImportFault}
use Rattle.vol_import.specs.declared.make.ImportFault.TheVariants as faults
use Rattle.vol_import.specs.declared.import_plan.PlanFault.{PlanFault}
use Rattle.vol_import.specs.declared.import_plan.PlanFault.TheVariants as plans
use Rattle.vol_import.specs.declared.archive_members.Member.{Member}

-- the import fault of a volume that isn't mounted for this reason (this project)
abbrev pub unmounted : MountFault → ImportFault
unmounted (mounts.Unsound rule) = faults.Unsound rule
unmounted mounts.NoMemory = faults.NoMemory

-- the import fault of a block at a position of an archive that isn't a header for this reason; if a field of a member's header isn't a number, the
-- fault names the member (this project)
abbrev pub unheaded : List ℕ → ℕ → HeaderFault → ImportFault
unheaded archive at headers.Magic = faults.Archive (archives.Header at headers.Magic)
unheaded archive at headers.Checksum = faults.Archive (archives.Header at headers.Checksum)
unheaded archive at headers.Number =
    if nat_le (at + 512) (length archive) then faults.Member (path_of (block_at archive at)) members.Number
    else faults.Archive (archives.Header at headers.Number)

-- the import fault of an archive that can't be read for this reason (this project)
abbrev pub unread : List ℕ → ArchiveFault → ImportFault
unread archive archives.NoMemory = faults.NoMemory
unread archive (archives.Truncated at) = faults.Archive (archives.Truncated at)
unread archive (archives.LoneZeroBlock at) = faults.Archive (archives.LoneZeroBlock at)
unread archive (archives.Header at fault) = unheaded archive at fault
unread archive (archives.Records at) = faults.Archive (archives.Records at)
unread archive (archives.Unsupported at) = faults.Archive (archives.Unsupported at)
unread archive (archives.Sparse path) = faults.Archive (archives.Sparse path)

-- reporting a fault takes memory: if a field of a header isn't a number, for the member's path (this project)
abbrev pub TakesMemory : ArchiveFault → Type 0
TakesMemory fault = (at : ℕ) × (fault ≡ archives.Header at headers.Number)

-- the import fault of an archive whose members no calls can make for this reason (this project)
abbrev pub unplanned : PlanFault → ImportFault
unplanned (plans.Member path cause) = faults.Member path cause
unplanned plans.NoMemory = faults.NoMemory

-- the calls of a plan, or its fault as an import fault (this project)
abbrev pub told : Result (List Call) PlanFault → Result (List Call) ImportFault
told (Ok calls) = Ok calls
told (Err fault) = Err (unplanned fault)

-- the plan for the members of an archive, if it can be read (this project)
abbrev pub planned : Tree → List ℕ → List ℕ → ℕ → Result (List Member) ArchiveFault → Result (List Call) ImportFault
planned tree archive base now (Ok all) = told (plan tree base now all)
planned tree archive base now (Err fault) = Err (unread archive fault)

-- the calls that make the members of an archive below a path of a tree, or the reason why there are none (this project)
unfoldable pub calls_to_make : Tree → List ℕ → List ℕ → ℕ → Result (List Call) ImportFault
calls_to_make tree archive base now = planned tree archive base now (read_members archive)

-- a fault is this one, or NoMemory (this project)
abbrev pub Tells : {X : Type 0} → Result X ImportFault → ImportFault → Type 0
Tells wanted fault = fault ≢ faults.NoMemory → wanted ≡ Err fault

-- an image isn't mounted for this reason: NoMemory, or the first rule that it breaks (this project)
unfoldable pub IsUnmounted : Edition → List ℕ → ImportFault → Type 0
IsUnmounted edition image fault = (why : MountFault) × (fault ≡ unmounted why) × IsFaultOf edition image why

-- calls aren't made for this reason: one of them is refused, or memory runs out (this project)
unfoldable pub IsStop : Mounted → List Call → Mounted → ImportFault → Type 0
IsStop old calls new (faults.Refused refusal call) = AreStopped old calls new refusal call
IsStop old calls new faults.NoMemory = Unit {0}
IsStop old calls new (faults.Unsound rule) = ⊥
IsStop old calls new (faults.Archive fault) = ⊥
IsStop old calls new (faults.Member path cause) = ⊥

-- the bytes are the result of making all these calls on a sound image (this project)
unfoldable pub Imports : Edition → List ℕ → Result (List Call) ImportFault → List ℕ → Type 0
Imports edition image (Ok calls) bytes = MakesCalls edition image calls bytes
Imports edition image (Err fault) bytes = ⊥

-- one of these calls on a sound image is refused, after the calls before it were accepted (this project)
abbrev pub IsRefused : Edition → List ℕ → Result (List Call) ImportFault → Refusal → Call → Type 0
IsRefused edition image (Ok calls) refusal call = (volume : Mounted) × AreStopped (mounted edition image) calls volume refusal call
IsRefused edition image (Err fault) refusal call = ⊥

-- a reason not to import: the first rule that the image breaks; for a sound image the reason why there are no calls, or a refusal of one of them; or
-- NoMemory (this project)
unfoldable pub IsReason : Edition → List ℕ → Result (List Call) ImportFault → ImportFault → Type 0
IsReason edition image wanted (faults.Unsound rule) = IsLeastBroken true edition image rule
IsReason edition image wanted (faults.Archive fault) = IsSound edition image × (wanted ≡ Err (faults.Archive fault))
IsReason edition image wanted (faults.Member path cause) = IsSound edition image × (wanted ≡ Err (faults.Member path cause))
IsReason edition image wanted (faults.Refused refusal call) = IsSound edition image × IsRefused edition image wanted refusal call
IsReason edition image wanted faults.NoMemory = Unit {0}
