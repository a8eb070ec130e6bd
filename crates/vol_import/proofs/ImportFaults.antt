-- The faults of an import, and its result if there is no fault.
use Rattle.std.proofs.Common.{◌≡◌, ◌≢◌, ◌⊎◌, ℕ, List, Ok, Err, IfOk, IfErr, inl, inr, sym, ap, ◌∙◌, subst}
use Rattle.std.specs.Prelude.{Result, ◌+◌, nat_le, if◌then◌else◌, length, true, false}
use Rattle.ustar.specs.Read.{path_of}
use Rattle.ustar.specs.declared.read.HeaderFault.{HeaderFault}
use Rattle.ustar.specs.declared.read.HeaderFault.TheVariants as headers
use Rattle.vol_dir.specs.Tree.{Tree}
use Rattle.vol_judge.specs.Sound.{IsSound}
use Rattle.vol_volume.specs.Faults.{IsFaultOf}
use Rattle.vol_volume.specs.Volume.{Mounted, IsConsistent, mounted, reads_as}
use Rattle.vol_import.specs.Entries.{block_at}
use Rattle.vol_import.specs.Members.{members as read_members}
use Rattle.vol_import.specs.Options.{calls_with, chosen, chosen_members, left_out}
use Rattle.vol_import.specs.Plan.{plan}
use Rattle.vol_batch.specs.Batch.{AreMade, AreStopped}
use Rattle.vol_import.specs.Make.{TakesMemory, unmounted, unheaded, unread, unplanned, told, planned, Tells, IsUnmounted, IsStop, Imports, IsReason}
use Rattle.vol_batch.proofs.MadeCalls.{made_calls}
use Rattle.vol_dir.specs.declared.refusal.Refusal.{Refusal}
use Rattle.vol_layout.specs.declared.edition.Edition.{Edition}
use Rattle.vol_volume.specs.declared.calls.Call.{Call}
use Rattle.vol_volume.specs.declared.volume.MountFault.{MountFault}
use Rattle.vol_volume.specs.declared.volume.MountFault.TheVariants as mounts
use Rattle.vol_import.specs.declared.member_check.MemberFault.TheVariants as members
use Rattle.vol_import.specs.declared.faults.ArchiveFault.{ArchiveFault}
use Rattle.vol_import.specs.declared.faults.ArchiveFault.TheVariants as archives
use Rattle.vol_import.specs.declared.import_options.ImportOptions.{ImportOptions}
use Rattle.vol_import.specs.declared.make.ImportFault.{ImportFault}
use Rattle.vol_import.specs.declared.make.Planned.{Planned}
use Rattle.vol_import.specs.declared.make.ImportFault.TheVariants as faults
use Rattle.vol_import.specs.declared.import_plan.PlanFault.{PlanFault}
use Rattle.vol_import.specs.declared.import_plan.PlanFault.TheVariants as plans
use Rattle.vol_import.specs.declared.archive_members.Member.{Member}

-- a fault that a plan may have
abbrev pub IsPlans : ImportFault → Type 0
IsPlans (faults.Archive fault) = Unit {0}
IsPlans (faults.Member path cause) = Unit {0}
IsPlans faults.NoMemory = Unit {0}
IsPlans (faults.Unsound rule) = ⊥
IsPlans (faults.Refused refusal call) = ⊥

unplanned_plans : (fault : PlanFault) → IsPlans (unplanned fault)
unplanned_plans (plans.Member path cause) = tt
unplanned_plans plans.NoMemory = tt

unheaded_plans : (archive : List ℕ) (at : ℕ) (fault : HeaderFault) → IsPlans (unheaded archive at fault)
unheaded_plans archive at headers.Magic = tt
unheaded_plans archive at headers.Checksum = tt
unheaded_plans archive at headers.Number = elim (nat_le (at + 512) (length archive)) as (λ whole. IsPlans (if whole then faults.Member (path_of (block_at archive at)) members.Number
    else faults.Archive (archives.Header at headers.Number))) [
      | true ↦ tt
      | false ↦ tt
    ]

unread_plans : (archive : List ℕ) (fault : ArchiveFault) → IsPlans (unread archive fault)
unread_plans archive archives.NoMemory = tt
unread_plans archive (archives.Truncated at) = tt
unread_plans archive (archives.LoneZeroBlock at) = tt
unread_plans archive (archives.Header at fault) = unheaded_plans archive at fault
unread_plans archive (archives.Records at) = tt
unread_plans archive (archives.Unsupported at) = tt
unread_plans archive (archives.Sparse path) = tt

pub told_plans : (plan : Result (List Call) PlanFault) (fault : ImportFault) → told plan ≡ Err fault → IsPlans fault
told_plans (Ok calls) fault e = absurd (cc)
told_plans (Err why) fault e = let same : unplanned why ≡ fault = cc in subst IsPlans same (unplanned_plans why)

planned_plans : (tree : Tree) (archive base : List ℕ) (now : ℕ) (read : Result (List Member) ArchiveFault) (fault : ImportFault)
    → planned tree archive base now read ≡ Err fault → IsPlans fault
planned_plans tree archive base now (Ok all) fault e = told_plans (plan tree base now all) fault e
planned_plans tree archive base now (Err why) fault e = let same : unread archive why ≡ fault = cc in subst IsPlans same (unread_plans archive why)

-- a fault of the planned calls is a reason not to import
pub planned_reason : (edition : Edition) (image : List ℕ) (wanted : Result (List Call) ImportFault) (fault : ImportFault) → IsSound edition image
    → ((told : ImportFault) → wanted ≡ Err told → IsPlans told) → Tells wanted fault → IsReason edition image wanted fault
unfolding IsReason
planned_reason edition image wanted (faults.Unsound rule) sound plans tells = absurd (plans (faults.Unsound rule) (tells (λ same. cc)))
planned_reason edition image wanted (faults.Archive fault) sound plans tells = (sound, tells (λ same. cc))
planned_reason edition image wanted (faults.Member path cause) sound plans tells = (sound, tells (λ same. cc))
planned_reason edition image wanted (faults.Refused refusal call) sound plans tells = absurd (plans (faults.Refused refusal call) (tells (λ same. cc)))
planned_reason edition image wanted faults.NoMemory sound plans tells = tt

pub no_calls : (options : ImportOptions) (edition : Edition) (image archive base : List ℕ) (now : ℕ) (old : Mounted) (fault : ImportFault)
    → IsSound edition image → old ≡ mounted edition image → Tells (calls_with options (reads_as old.edition old.image).tree archive base now) fault
    → IsReason edition image (calls_with options (reads_as edition image).tree archive base now) fault
unfolding calls_with
no_calls options edition image archive base now old fault sound is tells =
    planned_reason edition image (calls_with options (reads_as edition image).tree archive base now) fault sound
    (planned_plans (reads_as edition image).tree archive base now (chosen_members options (read_members archive)))
    (subst (λ (v : Mounted). Tells (calls_with options (reads_as v.edition v.image).tree archive base now) fault) is tells)

-- a fault of mounting is a reason not to import
unmounted_reason : (edition : Edition) (image : List ℕ) (wanted : Result (List Call) ImportFault) (why : MountFault) → IsFaultOf edition image why
    → IsReason edition image wanted (unmounted why)
unfolding IsReason
unmounted_reason edition image wanted (mounts.Unsound rule) is = is
unmounted_reason edition image wanted mounts.NoMemory is = tt

pub no_volume : (edition : Edition) (image : List ℕ) (wanted : Result (List Call) ImportFault) (fault : ImportFault) → IsUnmounted edition image fault
    → IsReason edition image wanted fault
unfolding IsUnmounted
no_volume edition image wanted fault is = subst (IsReason edition image wanted) (sym is.1) (unmounted_reason edition image wanted is.0 is.2)

-- a refused call is a reason not to import
pub stop_reason : (edition : Edition) (image : List ℕ) (calls : List Call) (new : Mounted) (fault : ImportFault) → IsSound edition image
    → IsStop (mounted edition image) calls new fault → IsReason edition image (Ok calls) fault
unfolding IsStop IsReason
stop_reason edition image calls new (faults.Unsound rule) sound is = absurd is
stop_reason edition image calls new (faults.Archive fault) sound is = absurd is
stop_reason edition image calls new (faults.Member path cause) sound is = absurd is
stop_reason edition image calls new (faults.Refused refusal call) sound is = (sound, (new, is))
stop_reason edition image calls new faults.NoMemory sound is = tt

pub not_made : (options : ImportOptions) (edition : Edition) (image archive base : List ℕ) (now : ℕ) (old new : Mounted) (calls : List Call) (fault : ImportFault)
    → IsSound edition image → old ≡ mounted edition image → calls_with options (reads_as old.edition old.image).tree archive base now ≡ Ok calls
    → IsStop old calls new fault → IsReason edition image (calls_with options (reads_as edition image).tree archive base now) fault
not_made options edition image archive base now old new calls fault sound is wanted stop =
    let here : calls_with options (reads_as edition image).tree archive base now ≡ Ok calls =
    subst (λ (v : Mounted). calls_with options (reads_as v.edition v.image).tree archive base now ≡ Ok calls) is wanted in
    subst (λ (w : Result (List Call) ImportFault). IsReason edition image w fault) (sym here)
    (stop_reason edition image calls new fault sound (subst (λ (v : Mounted). IsStop v calls new fault) is stop))

-- if all calls are made, the bytes are the result of the import
pub all_made : (options : ImportOptions) (edition : Edition) (image archive base bytes : List ℕ) (now : ℕ) (old new : Mounted) (calls : List Call)
    → IsSound edition image → old ≡ mounted edition image → calls_with options (reads_as old.edition old.image).tree archive base now ≡ Ok calls
    → AreMade old calls new → IsConsistent new → bytes ≡ new.image
    → Imports edition image (calls_with options (reads_as edition image).tree archive base now) bytes
unfolding Imports
all_made options edition image archive base bytes now old new calls sound is wanted made consistent left =
    let here : calls_with options (reads_as edition image).tree archive base now ≡ Ok calls =
    subst (λ (v : Mounted). calls_with options (reads_as v.edition v.image).tree archive base now ≡ Ok calls) is wanted in
    subst (λ (w : Result (List Call) ImportFault). Imports edition image w bytes) (sym here)
    (made_calls edition image bytes calls new sound (subst (λ (v : Mounted). AreMade v calls new) is made) consistent left)

-- a fault of the plan is reported as an import fault
pub plan_told : (wanted : Result (List Call) PlanFault) (why : PlanFault) (fault : ImportFault) → (why ≢ plans.NoMemory → wanted ≡ Err why)
    → fault ≡ unplanned why → Tells (told wanted) fault
plan_told wanted why fault tells is = λ other.
    let e : wanted ≡ Err why = tells (λ (same : why ≡ plans.NoMemory). other (is ∙ ap unplanned same)) in
    ap told e ∙ ap Err (sym is)

-- a fault of the archive is reported as an import fault
pub archive_told : (options : ImportOptions) (tree : Tree) (archive base : List ℕ) (now : ℕ) (why : ArchiveFault) (fault : ImportFault)
    → (why ≢ archives.NoMemory → read_members archive ≡ Err why) → ((fault ≡ faults.NoMemory) × TakesMemory why) ⊎ (fault ≡ unread archive why)
    → Tells (calls_with options tree archive base now) fault
unfolding calls_with
archive_told options tree archive base now why fault tells (inl none) = λ other. absurd (other none.0)
archive_told options tree archive base now why fault tells (inr is) = λ other.
    let e : read_members archive ≡ Err why = tells (λ (same : why ≡ archives.NoMemory). other (is ∙ ap (unread archive) same)) in
    ap (λ (read : Result (List Member) ArchiveFault). planned tree archive base now (chosen_members options read)) e ∙ ap Err (sym is)

-- the calls planned for the members of an archive are the calls planned for the archive
pub found_ok : (result : Result Planned ImportFault) (options : ImportOptions) (tree : Tree) (archive base : List ℕ) (now : ℕ) (found : List Member)
    → read_members archive ≡ Ok found → IfOk result (λ planned. told (plan tree base now (chosen options found).0) ≡ Ok planned.calls.items)
    → IfOk result (λ planned. calls_with options tree archive base now ≡ Ok planned.calls.items)
unfolding calls_with
found_ok result options tree archive base now found e ok =
    subst (λ (read : Result (List Member) ArchiveFault). IfOk result (λ calls. planned tree archive base now (chosen_members options read) ≡ Ok calls.calls.items))
    (sym e) ok

-- the paths left out of the members of an archive are the paths left out of the archive
pub found_left : (result : Result Planned ImportFault) (options : ImportOptions) (archive : List ℕ) (found : List Member) → read_members archive ≡ Ok found
    → IfOk result (λ planned. planned.left_out.items ≡ (chosen options found).1)
    → IfOk result (λ planned. planned.left_out.items ≡ left_out options (read_members archive))
found_left result options archive found e left =
    subst (λ (read : Result (List Member) ArchiveFault). IfOk result (λ planned. planned.left_out.items ≡ left_out options read)) (sym e) left

-- a fault for the members of an archive is a fault for the archive
pub found_fault : (result : Result Planned ImportFault) (options : ImportOptions) (tree : Tree) (archive base : List ℕ) (now : ℕ) (found : List Member)
    → read_members archive ≡ Ok found → IfErr result (Tells (told (plan tree base now (chosen options found).0)))
    → IfErr result (Tells (calls_with options tree archive base now))
unfolding calls_with
found_fault result options tree archive base now found e fault =
    subst (λ (read : Result (List Member) ArchiveFault). IfErr result (Tells (planned tree archive base now (chosen_members options read)))) (sym e) fault

-- a refused call among several is reported
pub stop_told : (old new : Mounted) (calls : List Call) (refusal : Refusal) (call : Call) (fault : ImportFault) → AreStopped old calls new refusal call
    → (fault ≡ faults.NoMemory) ⊎ (fault ≡ faults.Refused refusal call) → IsStop old calls new fault
unfolding IsStop
stop_told old new calls refusal call fault stopped (inl none) = subst (IsStop old calls new) (sym none) tt
stop_told old new calls refusal call fault stopped (inr is) = subst (IsStop old calls new) (sym is) stopped

-- the fault of an image that isn't mounted satisfies `IsUnmounted`
pub is_unmounted : (edition : Edition) (image : List ℕ) (why : MountFault) (fault : ImportFault) → fault ≡ unmounted why → IsFaultOf edition image why
    → IsUnmounted edition image fault
unfolding IsUnmounted
is_unmounted edition image why fault is cause = (why, is, cause)
