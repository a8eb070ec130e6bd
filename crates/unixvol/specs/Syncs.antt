-- The result of `sync` and of `put -r`, which put folders of the host with all below them into a directory of a volume.
use Rattle.std.specs.Prelude.{◌≡◌, ◌==◌, ◌⊎◌, ◌++◌, ◌∷◌, ℕ, if◌then◌else◌, length, Bool, true, false, List, [], Option, Result, string_bytes}
use Rattle.std.specs.List.{FoldsTo}
use Rattle.std.specs.Path.{StripsPrefix, path_join}
use Rattle.std.specs.Io.KnownBytes.{Keeps}
use Rattle.vol_dir.specs.declared.cred.Cred.{Cred}
use Rattle.vol_import.specs.Make.{told}
use Rattle.vol_layout.specs.declared.edition.Edition.{Edition}
use Rattle.vol_volume.specs.Volume.{reads_as}
use Rattle.command_changes.specs.Extras.{IsSynced, IsUnsynced}
use Rattle.command_changes.specs.Import.{of_import}
use Rattle.command_changes.specs.Sync.{calls_to_sync}
use Rattle.command_changes.specs.declared.extras.Extra.{Extra}
use Rattle.command_changes.specs.declared.extras.Extra.TheVariants as extras
use Rattle.command_changes.specs.declared.kept.GivenFile.{GivenFile}
use Rattle.command_changes.specs.declared.kept.Kept.{Kept}
use Rattle.command_changes.specs.declared.sync.SyncedImage.{SyncedImage}
use Rattle.command_changes.specs.declared.sync.Syncing.{Syncing}
use Rattle.command_changes.specs.declared.sync.TreeMember.{TreeMember}
use Rattle.command_changes.specs.declared.sync.TreeNode.{TreeNode}
use Rattle.command_changes.specs.declared.sync.TreeNode.TheVariants as nodes
use Rattle.command_copies.specs.Trees.{name_of}
use Rattle.command_faults.specs.Outcomes.{IsAmong}
use Rattle.command_faults.specs.Streams.{Streams}
use Rattle.command_faults.specs.declared.answer.Remarked.{Remarked}
use Rattle.command_faults.specs.declared.fault.Fault.{Fault}
use Rattle.command_reads.specs.Print.{IsTold, Prints}
use Rattle.command_terms.specs.declared.options.Keep.{Keep}
use Rattle.command_terms.specs.declared.options.Keep.TheVariants as keeps
use Rattle.host_files.specs.Folders.{IsTree}
use Rattle.host_files.specs.declared.folders.FolderListing.{FolderListing}
use Rattle.host_files.specs.declared.folders.Found.{Found}
use Rattle.host_files.specs.declared.folders.FoundKind.{FoundKind}
use Rattle.host_files.specs.declared.folders.FoundKind.TheVariants as found_kinds
use Rattle.host_files.specs.declared.image_file.Stamp.{Stamp}
use Rattle.unixvol.specs.Runs.{HostFiles, IsGivenFile, IsKept, IsStatusOfFileOrMemory}
use Rattle.unixvol.specs.Traces.{EndsTraced, IsQuiet}

-- the system's reports on what is in the folder at a path (this project)
abbrev pub Listings : Type 1
Listings = List ℕ → FolderListing → Type 0

-- what was found is this node of a tree, with what may be kept of it: a folder; or a file, whose bytes were read (this project)
abbrev pub IsNodeGiven : (List ℕ → Type 0) → Keep → FoundKind → TreeNode → Type 0
IsNodeGiven given keep found_kinds.File node = (file : GivenFile) × IsGivenFile given keep file × (node ≡ nodes.File file)
IsNodeGiven given keep found_kinds.Folder node = (kept : Kept) × IsKept keep kept × (node ≡ nodes.Folder kept)
IsNodeGiven given keep found_kinds.Other node = ⊥

-- a path with a prefix before it; the prefix itself if the path is empty (std's Path::join)
abbrev pub path_after : List ℕ → List ℕ → List ℕ
path_after prefix path = if length path == 0 then prefix else path_join prefix path

-- what was found in a folder is this member of a tree: its path is that below the folder, after a prefix (std's Path::strip_prefix)
abbrev pub IsMemberGiven : (List ℕ → Type 0) → Keep → List ℕ → List ℕ → Found → TreeMember → Type 0
IsMemberGiven given keep folder prefix found member =
    ((rest : List ℕ) × StripsPrefix (string_bytes found.path) folder rest × (string_bytes member.path ≡ path_after prefix rest))
    × IsNodeGiven given keep found.kind member.node

-- some members are followed by that for what was found (this project)
abbrev pub AddsMember : (List ℕ → Type 0) → Keep → List ℕ → List ℕ → List TreeMember → Found → List TreeMember → Type 0
AddsMember given keep folder prefix old found new = (one : TreeMember) × IsMemberGiven given keep folder prefix found one × (new ≡ old ++ one ∷ [])

-- these members are a folder with all below it, in order, each with a prefix before its path (this project)
abbrev pub IsTreeGiven : (List ℕ → Type 0) → Listings → Keep → List ℕ → List ℕ → List TreeMember → Type 0
IsTreeGiven given listed keep prefix folder members =
    (found : List Found) × IsTree listed folder found × FoldsTo (AddsMember given keep folder prefix) [] found members

-- some members are followed by those of a folder, each with the folder's last name before its path (this project)
abbrev pub AddsTree : (List ℕ → Type 0) → Listings → Keep → List TreeMember → List ℕ → List TreeMember → Type 0
AddsTree given listed keep old folder new =
    (more : List TreeMember) × IsTreeGiven given listed keep (name_of folder) folder more × (new ≡ old ++ more)

-- nothing is done or printed, since a file can't be read, or memory ran out (this project)
abbrev pub LeavesAll : Streams → ℕ → Type 0
LeavesAll streams status =
    IsStatusOfFileOrMemory status × Keeps streams.old streams.new × (streams.failed ≡ streams.had_failed) × (streams.lines ≡ [])

-- folders are put into a directory, each with all below it, under its last name: nothing is done; or the calls for all of them are made on an image,
-- and the result is saved, as for files that are put (this project)
abbrev pub PutsTrees : Streams → HostFiles → Listings → Edition → Syncing → List (List ℕ) → Keep → Bool → ℕ → Type 0
PutsTrees streams files listed edition syncing folders keep trace status =
    LeavesAll streams status
    ⊎ ((image : List ℕ) × (stamp : Stamp) × (members : List TreeMember) × (outcome : Result Remarked Fault) × files.opened edition image stamp
    × FoldsTo (AddsTree (files.put edition) listed keep) [] folders members
    × IsAmong (of_import edition image (told (calls_to_sync (reads_as edition image).tree syncing members)) trace) outcome
    × EndsTraced (λ saved. files.stored saved × files.stood stamp) outcome streams status)

-- the run of `sync` ends after the calls for its folder were made: with -n their lines are printed, and nothing is saved; if there was no call to make,
-- nothing is; otherwise the volume is saved, or can't be, and nothing is printed (this project)
abbrev pub EndsSynced : HostFiles → Stamp → Bool → SyncedImage → Streams → ℕ → Type 0
EndsSynced files stamp true synced streams status = Prints streams synced.lines.items status
EndsSynced files stamp false synced streams status =
    ((synced.is_same ≡ true) × IsQuiet 0 [] streams status)
    ⊎ ((files.stored synced.bytes.items × files.stood stamp × IsQuiet 0 [] streams status)
    ⊎ (IsStatusOfFileOrMemory status × IsQuiet status [] streams status))

-- what becomes of what a folder hasn't, by whether it is to be removed (rsync)
abbrev pub extra_of : Bool → Extra
extra_of true = extras.Remove
extra_of false = extras.Keep

-- a directory is made what a folder is: nothing is done; or the fault is reported for which the calls can't be made on an image that was read from a
-- file; or they are made (this project)
abbrev pub RunsSync : Streams → HostFiles → Listings → Edition → Syncing → Extra → List ℕ → Bool → ℕ → Type 0
RunsSync streams files listed edition syncing extra folder is_trial status =
    LeavesAll streams status
    ⊎ ((image : List ℕ) × (stamp : Stamp) × (members : List TreeMember) × files.opened edition image stamp
    × IsTreeGiven (files.put edition) listed keeps.All [] folder members
    × (((fault : Fault) × IsUnsynced edition image syncing extra members fault × IsTold streams fault status)
    ⊎ ((synced : SyncedImage) × IsSynced edition image syncing extra members synced × EndsSynced files stamp is_trial synced streams status)))
