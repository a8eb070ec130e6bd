-- The calls that remove from a directory of a volume what a tree hasn't, and the outcome of `sync` with them.
use Rattle.std.specs.Prelude.{◌≡◌, ◌⊎◌, ℕ, Bool, if◌then◌else◌, List, [], ◌∷◌, ◌++◌, Option, None, Some, Result, Ok, Err, codes, reverse, string_bytes}
use Rattle.std.specs.Borrow.{Bor}
use Rattle.std.specs.BTreeSet.{BTreeSet, contains}
use Rattle.std.specs.Cmp.Lexicographic.{slice_cmp}
use Rattle.std.specs.List.{flat_map, list_any}
use Rattle.std.specs.Ordering.{nat_cmp}
use Rattle.std.specs.Str.{bytes_eq}
use Rattle.vol_layout.specs.Geometry.{geometry_of}
use Rattle.vol_layout.specs.declared.edition.Edition.{Edition}
use Rattle.vol_layout.specs.declared.geometry.Geometry.{Geometry}
use Rattle.vol_dir.specs.Access.{user}
use Rattle.vol_dir.specs.Tree.{Tree, tree}
use Rattle.vol_dir.specs.Walk.{walk}
use Rattle.vol_dir.specs.declared.refusal.Refusal.{Refusal}
use Rattle.vol_archive.specs.Export.{is_directory}
use Rattle.vol_archive.specs.Walk.{IsWalk}
use Rattle.vol_archive.specs.declared.met_entries.MetEntry.{MetEntry}
use Rattle.vol_archive.specs.declared.met_entries.Role.{Role}
use Rattle.vol_archive.specs.declared.met_entries.Role.TheVariants as roles
use Rattle.vol_batch.specs.Paths.{below}
use Rattle.vol_import.specs.Make.{Imports, IsReason, IsUnmounted, told}
use Rattle.vol_import.specs.Plan.{Tells}
use Rattle.vol_import.specs.declared.import_plan.PlanFault.{PlanFault}
use Rattle.vol_import.specs.declared.import_plan.PlanFault.TheVariants as plans
use Rattle.vol_import.specs.declared.make.ImportFault.{ImportFault}
use Rattle.vol_volume.specs.Volume.{reads_as}
use Rattle.vol_volume.specs.declared.calls.Call.{Call}
use Rattle.vol_volume.specs.declared.calls.Call.TheVariants.{Rmdir, Unlink}
use Rattle.command_faults.specs.declared.fault.Fault.{Fault}
use Rattle.command_changes.specs.Import.{IsFaultFor}
use Rattle.command_changes.specs.Sync.{IsSame, calls_onto, line_of, lines_of_sync}
use Rattle.command_changes.specs.Traced.{ImportsVolume}
use Rattle.command_changes.specs.declared.extras.Extra.{Extra}
use Rattle.command_changes.specs.declared.extras.Extra.TheVariants as extras
use Rattle.command_changes.specs.declared.sync.SyncPlan.{SyncPlan}
use Rattle.command_changes.specs.declared.sync.SyncedImage.{SyncedImage}
use Rattle.command_changes.specs.declared.sync.SyncedVolume.{SyncedVolume}
use Rattle.command_changes.specs.declared.sync.Syncing.{Syncing}
use Rattle.command_changes.specs.declared.sync.TreeMember.{TreeMember}

-- true if a tree has a member at this path below its directory (this project)
abbrev pub has_member : List TreeMember → List ℕ → Bool
has_member members path = list_any (λ (member : TreeMember). bytes_eq (string_bytes member.path) path) members

-- a set has exactly the paths of these members (this project)
abbrev pub HoldsPaths : BTreeSet (Bor (List ℕ)) → List TreeMember → Type 0
HoldsPaths known members =
    (path : Bor (List ℕ)) → contains (λ (one other : Bor (List ℕ)). slice_cmp nat_cmp one.now other.now) known path ≡ has_member members path.now

-- the i-number to which a path leads, if it is that of a directory (stat)
abbrev pub directory_of : Geometry → List ℕ → Result ℕ Refusal → Option ℕ
directory_of g image (Ok start) = if is_directory g image start then Some start else None
directory_of g image (Err refusal) = None

-- the directory from which something may be removed, if there is one: that to which the path leads, walked by user 0, if what the tree hasn't is removed
-- (rsync; Lions on namei)
abbrev pub pruned : Extra → Geometry → List ℕ → List ℕ → Option ℕ
pruned extras.Keep g image path = None
pruned extras.Remove g image path = directory_of g image (walk (tree g image) user path)

-- the entries are all that a walk meets below a directory; none if there is no directory (find)
abbrev pub AreBelow : Option ℕ → Geometry → List ℕ → List MetEntry → Type 0
AreBelow None g image founds = founds ≡ []
AreBelow (Some start) g image founds = IsWalk g image start founds

-- the entries are all below the directory of an image from which something may be removed; none if what the tree hasn't stays, or if the path leads nowhere
-- or to a file (rsync)
abbrev pub AreMet : Edition → List ℕ → List ℕ → Extra → List MetEntry → Type 0
AreMet edition image path extra founds =
    AreBelow (pruned extra (geometry_of edition image) image path) (geometry_of edition image) image founds

-- the call that removes an entry from a path: an Rmdir for a directory, else an Unlink (rm, rmdir)
abbrev pub removal_call : Role → ℕ → List ℕ → Call
removal_call roles.Directory now path = Rmdir user now path
removal_call roles.File now path = Unlink user now path
removal_call roles.Special now path = Unlink user now path
removal_call (roles.Link k) now path = Unlink user now path
removal_call (roles.Left reason) now path = Unlink user now path

-- the word for removing an entry (rm, rmdir)
abbrev pub removal_word : Role → List ℕ
removal_word roles.Directory = codes "rmdir "
removal_word roles.File = codes "rm "
removal_word roles.Special = codes "rm "
removal_word (roles.Link k) = codes "rm "
removal_word (roles.Left reason) = codes "rm "

-- the call that removes an entry below the directory (rm, rmdir)
abbrev pub removal : Syncing → MetEntry → Call
removal syncing found = removal_call found.role syncing.now (below syncing.directory.now found.path)

-- the line for that (this project)
abbrev pub removal_line : Syncing → MetEntry → List ℕ
removal_line syncing found = line_of (removal_word found.role) (below syncing.directory.now found.path)

-- the call for an entry below the directory: the one that removes it, unless the tree has its path (rsync)
abbrev pub entry_calls : Syncing → List TreeMember → MetEntry → List Call
entry_calls syncing members found = if has_member members found.path then [] else removal syncing found ∷ []

-- the line for such an entry, if it is removed (this project)
abbrev pub entry_line : Syncing → List TreeMember → MetEntry → List ℕ
entry_line syncing members found = if has_member members found.path then [] else removal_line syncing found

-- the calls that remove what the tree hasn't: each directory after what is in it (rsync)
abbrev pub removal_calls : Syncing → List TreeMember → List MetEntry → List Call
removal_calls syncing members founds = flat_map (entry_calls syncing members) (reverse founds)

-- the lines for what is removed, in the same order (this project)
abbrev pub removal_lines : Syncing → List TreeMember → List MetEntry → List ℕ
removal_lines syncing members founds = flat_map (entry_line syncing members) (reverse founds)

-- the calls that remove what the tree hasn't, followed by those that make the directory what the tree is, all decided on the unchanged volume; or the first
-- name that is too long (rsync)
abbrev pub calls_after : Tree → Syncing → List TreeMember → List MetEntry → Result (List Call) PlanFault
calls_after tree syncing members founds = calls_onto tree syncing (removal_calls syncing members founds) members

-- the lines that say what is removed, followed by those that say what is done with the members (this project)
abbrev pub lines_after : Tree → Syncing → List TreeMember → List MetEntry → List ℕ
lines_after tree syncing members founds = removal_lines syncing members founds ++ lines_of_sync tree syncing members

-- a plan has the calls and the lines for what is removed (this project)
abbrev pub Removes : Edition → List ℕ → Syncing → Extra → List TreeMember → SyncPlan → Type 0
Removes edition image syncing extra members plan =
    (founds : List MetEntry) × AreMet edition image syncing.directory.now extra founds × (plan.calls.items ≡ removal_calls syncing members founds)
    × (plan.lines.items ≡ removal_lines syncing members founds)

-- a plan has the calls and the lines for a tree, with those for what is removed (this project)
pub record IsPlanned (edition : Edition) (image : List ℕ) (syncing : Syncing) (extra : Extra) (members : List TreeMember) (plan : SyncPlan) : Type 0 where
  pub founds : List MetEntry
  pub met : AreMet edition image syncing.directory.now extra founds
  pub calls : calls_after (reads_as edition image).tree syncing members founds ≡ Ok plan.calls.items
  pub lines : plan.lines.items ≡ lines_after (reads_as edition image).tree syncing members founds

-- there is no plan for this reason: the first name that is too long, or NoMemory (this project)
abbrev pub IsUnplanned : Edition → List ℕ → Syncing → Extra → List TreeMember → PlanFault → Type 0
IsUnplanned edition image syncing extra members why =
    (why ≡ plans.NoMemory)
    ⊎ ((founds : List MetEntry) × AreMet edition image syncing.directory.now extra founds
    × Tells (calls_after (reads_as edition image).tree syncing members founds) why)

-- a volume is what the calls make of an image, with their lines, and with no call to make exactly if it says so (this project)
pub record IsSyncedVolume (edition : Edition) (image : List ℕ) (syncing : Syncing) (extra : Extra) (members : List TreeMember) (synced : SyncedVolume) : Type 0 where
  pub founds : List MetEntry
  pub met : AreMet edition image syncing.directory.now extra founds
  pub made : ImportsVolume edition image (told (calls_after (reads_as edition image).tree syncing members founds)) synced.volume
  pub lines : synced.lines.items ≡ lines_after (reads_as edition image).tree syncing members founds
  pub same : IsSame (calls_after (reads_as edition image).tree syncing members founds) synced.is_same

-- an image is what the calls make of another one, with their lines, and with no call to make exactly if it says so (this project)
pub record IsSynced (edition : Edition) (image : List ℕ) (syncing : Syncing) (extra : Extra) (members : List TreeMember) (synced : SyncedImage) : Type 0 where
  pub founds : List MetEntry
  pub met : AreMet edition image syncing.directory.now extra founds
  pub made : Imports edition image (told (calls_after (reads_as edition image).tree syncing members founds)) synced.bytes.items
  pub lines : synced.lines.items ≡ lines_after (reads_as edition image).tree syncing members founds
  pub same : IsSame (calls_after (reads_as edition image).tree syncing members founds) synced.is_same

-- a reason to change nothing: the first rule that the image breaks, or NoMemory; or the reason why the calls can't be made (this project)
abbrev pub IsStopped : Edition → List ℕ → Syncing → Extra → List TreeMember → ImportFault → Type 0
IsStopped edition image syncing extra members why =
    IsUnmounted edition image why
    ⊎ ((founds : List MetEntry) × AreMet edition image syncing.directory.now extra founds
    × IsReason edition image (told (calls_after (reads_as edition image).tree syncing members founds)) why)

-- a fault has the status and the line of such a reason (this project)
abbrev pub IsUnsynced : Edition → List ℕ → Syncing → Extra → List TreeMember → Fault → Type 0
IsUnsynced edition image syncing extra members fault = (why : ImportFault) × IsStopped edition image syncing extra members why × IsFaultFor why fault
