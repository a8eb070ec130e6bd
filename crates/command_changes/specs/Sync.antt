-- The calls that make a directory of a volume what a folder of the host is.
use Rattle.std.specs.Prelude.{◌≡◌, ℕ, ◌==◌, ◌&&◌, Bool, true, false, if◌then◌else◌, List, [], ◌∷◌, ◌++◌, length, nat_lt, Option, None, Some, Result, Ok, Err, codes, string_bytes, unwrap_or}
use Rattle.std.specs.List.{flat_map}
use Rattle.std.specs.Path.{path_file_name}
use Rattle.std.specs.Str.{bytes_eq}
use Rattle.escaped_text.specs.Escape.{escaped}
use Rattle.vol_dir.specs.Access.{user}
use Rattle.vol_dir.specs.Tree.{Tree}
use Rattle.vol_dir.specs.declared.cred.Cred.{Cred}
use Rattle.vol_dir.specs.declared.refusal.Refusal.{Refusal}
use Rattle.vol_layout.specs.declared.mode.Kind.{Kind}
use Rattle.vol_layout.specs.declared.mode.Kind.TheVariants.{Regular}
use Rattle.vol_volume.specs.Answer.{answer}
use Rattle.vol_volume.specs.declared.calls.Call.{Call}
use Rattle.vol_volume.specs.declared.calls.Call.TheVariants as calls
use Rattle.vol_volume.specs.declared.queries.Query.TheVariants as queries
use Rattle.vol_volume.specs.declared.queries.Reply.{Reply}
use Rattle.vol_volume.specs.declared.queries.Reply.TheVariants as replies
use Rattle.vol_batch.specs.Paths.{below}
use Rattle.vol_import.specs.declared.member_check.MemberFault.TheVariants as members
use Rattle.vol_import.specs.declared.import_plan.PlanFault.{PlanFault}
use Rattle.vol_import.specs.declared.import_plan.PlanFault.TheVariants as plans
use Rattle.command_changes.specs.ImportLines.{from_root}
use Rattle.command_changes.specs.Lookup.{found_by}
use Rattle.command_changes.specs.Mkdir.{mkdir_calls}
use Rattle.command_changes.specs.Put.{calls_on, each_onto, kept_calls, put_calls, target_by, with_execution}
use Rattle.command_changes.specs.declared.kept.GivenFile.{GivenFile}
use Rattle.command_changes.specs.declared.kept.Kept.{Kept}
use Rattle.command_changes.specs.declared.kept.Kept.TheVariants as kepts
use Rattle.command_changes.specs.declared.lookup.PathKind.{PathKind}
use Rattle.command_changes.specs.declared.lookup.PathKind.TheVariants as kinds
use Rattle.command_changes.specs.declared.put.Target.TheVariants as targets
use Rattle.command_changes.specs.declared.sync.FileStep.{FileStep}
use Rattle.command_changes.specs.declared.sync.FileStep.TheVariants as steps
use Rattle.command_changes.specs.declared.sync.Syncing.{Syncing}
use Rattle.command_changes.specs.declared.sync.TreeMember.{TreeMember}
use Rattle.command_changes.specs.declared.sync.TreeNode.{TreeNode}
use Rattle.command_changes.specs.declared.sync.TreeNode.TheVariants as nodes
use Rattle.command_changes.specs.declared.sync.Unchanged.{Unchanged}
use Rattle.command_changes.specs.declared.sync.Unchanged.TheVariants as unchanged

-- the path in the volume of a member of a tree, by its path below the tree's directory, which is empty for the directory itself (this project)
abbrev pub place_of : List ℕ → List ℕ → List ℕ
place_of directory path = if length path == 0 then directory else below directory path

-- true if the answer to a Read is these bytes (read)
abbrev pub is_body : Result Reply Refusal → List ℕ → Bool
is_body (Ok (replies.Bytes found)) bytes = bytes_eq found bytes
is_body (Ok (replies.Stat stat)) bytes = false
is_body (Ok (replies.Names names)) bytes = false
is_body (Err refusal) bytes = false

-- true if a file with these permissions and this time of last modification has what is kept of the host's file (stat)
abbrev pub has_kept : ℕ → ℕ → Kept → Bool
has_kept own modified kepts.Nothing = true
has_kept own modified (kepts.Execution permissions) = own == with_execution own permissions
has_kept own modified (kepts.All permissions time) = (own == permissions) && (modified == time)

-- true if the answer to a Stat says what is kept of the host's file (stat)
abbrev pub is_kept_by : Result Reply Refusal → Kept → Bool
is_kept_by (Ok (replies.Stat stat)) kept = has_kept stat.permissions stat.modified kept
is_kept_by (Ok (replies.Bytes bytes)) kept = false
is_kept_by (Ok (replies.Names names)) kept = false
is_kept_by (Err refusal) kept = false

-- true if a node of this kind with so many links is a regular file with further names (stat)
abbrev pub is_shared : Kind → ℕ → Bool
is_shared Regular links = nat_lt 1 links
is_shared _ links = false

-- the owner of a regular file with further names, by the answer to a Stat (stat)
abbrev pub shared_owner : Result Reply Refusal → Option Cred
shared_owner (Ok (replies.Stat stat)) = if is_shared stat.kind stat.links then Some (record { uid = stat.uid; gid = stat.gid }) else None
shared_owner (Ok (replies.Bytes bytes)) = None
shared_owner (Ok (replies.Names names)) = None
shared_owner (Err refusal) = None

-- what is done with a file that differs: one with further names is replaced by a new one with the same owner, so that these keep what they have (rsync)
abbrev pub apart : Option Cred → FileStep → FileStep
apart (Some owner) step = steps.Replace owner
apart None step = step

-- what is done with a file, if files that are the same are left: nothing, if the path leads to these bytes and what is kept; only what is kept changes,
-- if it leads to these bytes; otherwise the file is put. A file with further names is replaced (this project)
abbrev pub compared : Tree → List ℕ → GivenFile → FileStep
compared tree path file =
    if is_body (answer tree (queries.Read user path 0 4294967295)) file.bytes.items
    then (if is_kept_by (answer tree (queries.Stat user path)) file.kept then steps.Leave else apart (shared_owner (answer tree (queries.Stat user path))) steps.Mark)
    else apart (shared_owner (answer tree (queries.Stat user path))) steps.Put

-- what is done with a file (this project)
abbrev pub step_of : Tree → Unchanged → List ℕ → GivenFile → FileStep
step_of tree unchanged.Skip path file = compared tree path file
step_of tree unchanged.Put path file = steps.Put

-- the calls for a file: none; those that give it what is kept of the host's file; those of `put`; or those that remove this name and put a new file, which
-- gets the owner given, else that of the old one (this project)
abbrev pub step_calls : FileStep → Tree → ℕ → List ℕ → GivenFile → Option Cred → List Call
step_calls steps.Leave tree now path file owner = []
step_calls steps.Mark tree now path file owner = kept_calls (target_by (answer tree (queries.Stat user path))) now path file.kept
step_calls steps.Put tree now path file owner = put_calls tree now path file.bytes.items file.kept owner
step_calls (steps.Replace old) tree now path file owner =
    calls.Unlink user now path ∷ calls_on targets.Missing now path file.bytes.items file.kept (Some (unwrap_or owner old))

-- the calls for a folder, by what its path leads to: none for a directory; otherwise it is made with permissions 0755, and gets its owner, if one is
-- given, and what is kept of the host's folder. If a file is there, the first of them is refused (mkdir)
abbrev pub folder_calls : PathKind → ℕ → List ℕ → Kept → Option Cred → List Call
folder_calls kinds.Directory now path kept owner = []
folder_calls kinds.File now path kept owner = mkdir_calls now owner path ++ kept_calls (targets.Node 0o755) now path kept
folder_calls kinds.Nothing now path kept owner = mkdir_calls now owner path ++ kept_calls (targets.Node 0o755) now path kept

-- the calls for what is to be at a path of a volume (this project)
abbrev pub node_calls : Tree → Syncing → List ℕ → TreeNode → List Call
node_calls tree syncing path (nodes.Folder kept) =
    folder_calls (found_by (answer tree (queries.Stat user path))) syncing.now path kept syncing.owner
node_calls tree syncing path (nodes.File file) = step_calls (step_of tree syncing.unchanged path file) tree syncing.now path file syncing.owner

-- true if the last name of a path is above 14 bytes (manual section 5, dir)
abbrev pub is_long_name : List ℕ → Bool
is_long_name path = nat_lt 14 (length (unwrap_or (path_file_name path) []))

-- some calls, followed by the calls for a member of a tree, unless its name is above 14 bytes (manual section 5, dir)
abbrev pub member_onto : Tree → Syncing → List Call → TreeMember → Result (List Call) PlanFault
member_onto tree syncing calls member =
    if is_long_name (string_bytes member.path) then Err (plans.Member (string_bytes member.path) members.LongName)
    else Ok (calls ++ node_calls tree syncing (place_of syncing.directory.now (string_bytes member.path)) member.node)

-- some calls, followed by those that make a directory what a tree is, decided on the unchanged volume; or the first name that is too long (rsync)
abbrev pub calls_onto : Tree → Syncing → List Call → List TreeMember → Result (List Call) PlanFault
calls_onto tree syncing calls all = each_onto (member_onto tree syncing) calls all

-- the calls that make a directory what a tree is, decided on the unchanged volume; or the first name that is too long (rsync)
abbrev pub calls_to_sync : Tree → Syncing → List TreeMember → Result (List Call) PlanFault
calls_to_sync tree syncing all = calls_onto tree syncing [] all

-- there are calls to make, and this says if they are none (this project)
abbrev pub IsSame : Result (List Call) PlanFault → Bool → Type 0
IsSame (Ok calls) same = same ≡ (length calls == 0)
IsSame (Err fault) same = ⊥

-- the line for a path: a word, and the path with unprintable bytes escaped (this project)
abbrev pub line_of : List ℕ → List ℕ → List ℕ
line_of word path = word ++ escaped (from_root path) ++ codes "\n"

-- the line for a file that something is done with (this project)
abbrev pub step_line : FileStep → List ℕ → List ℕ
step_line steps.Leave path = []
step_line steps.Mark path = line_of (codes "mark ") path
step_line steps.Put path = line_of (codes "put ") path
step_line (steps.Replace old) path = line_of (codes "put ") path

-- the line for a folder, if a directory is made (this project)
abbrev pub folder_line : PathKind → List ℕ → List ℕ
folder_line kinds.Directory path = []
folder_line kinds.File path = line_of (codes "mkdir ") path
folder_line kinds.Nothing path = line_of (codes "mkdir ") path

-- the line for what is to be at a path of a volume, if it isn't there (this project)
abbrev pub node_line : Tree → Syncing → List ℕ → TreeNode → List ℕ
node_line tree syncing path (nodes.Folder kept) = folder_line (found_by (answer tree (queries.Stat user path))) path
node_line tree syncing path (nodes.File file) = step_line (step_of tree syncing.unchanged path file) path

-- the line for a member of a tree, if it isn't the same in the volume (this project)
abbrev pub member_line : Tree → Syncing → TreeMember → List ℕ
member_line tree syncing member = node_line tree syncing (place_of syncing.directory.now (string_bytes member.path)) member.node

-- the lines that say what is done with the members of a tree: a line for each that isn't the same in the volume (this project)
abbrev pub lines_of_sync : Tree → Syncing → List TreeMember → List ℕ
lines_of_sync tree syncing all = flat_map (member_line tree syncing) all
