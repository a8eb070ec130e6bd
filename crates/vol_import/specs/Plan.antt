-- The calls that make the members of an archive.
use Rattle.std.specs.Prelude.{◌≡◌, ◌≢◌, ℕ, ◌-◌, ◌%◌, ◌==◌, ◌&&◌, ◌||◌, Bool, true, false, not, nat_lt, if◌then◌else◌, List, [], ◌∷◌, ◌++◌, length, take, filter, reverse, slice_index, codes, Option, None, Some, Result, Ok, Err}
use Rattle.std.specs.BTreeMap.{is_at}
use Rattle.std.specs.BTreeSet.{insert_key}
use Rattle.std.specs.Cmp.Lexicographic.{slice_cmp}
use Rattle.std.specs.List.{find, flat_map, list_any, slice_split}
use Rattle.std.specs.Option.{option_map}
use Rattle.std.specs.Ordering.{nat_cmp}
use Rattle.std.specs.Str.{bytes_eq}
use Rattle.pdp_words.specs.Steps.{and_then}
use Rattle.ustar.specs.declared.header.MemberKind.TheVariants as members
use Rattle.ustar.specs.declared.read.ReadHeader.{ReadHeader}
use Rattle.ustar.specs.declared.read.TypeFlag.{TypeFlag}
use Rattle.ustar.specs.declared.read.TypeFlag.TheVariants as flags
use Rattle.vol_dir.specs.Tree.{Tree}
use Rattle.vol_dir.specs.Walk.{components, is_nil}
use Rattle.vol_dir.specs.declared.cred.Cred.{Cred}
use Rattle.vol_dir.specs.declared.refusal.Refusal.{Refusal}
use Rattle.vol_layout.specs.declared.edition.Edition.{Edition}
use Rattle.vol_layout.specs.declared.mode.DeviceId.{DeviceId}
use Rattle.vol_layout.specs.declared.mode.DeviceKind.{DeviceKind}
use Rattle.vol_layout.specs.declared.mode.DeviceKind.TheVariants as devices
use Rattle.vol_layout.specs.declared.mode.Kind.{Kind}
use Rattle.vol_layout.specs.declared.mode.Kind.TheVariants as kinds
use Rattle.vol_dir.specs.Access.{user}
use Rattle.vol_volume.specs.Answer.{answer}
use Rattle.vol_layout.specs.Ids.{is_bad_id}
use Rattle.vol_volume.specs.declared.calls.Call.{Call}
use Rattle.vol_volume.specs.declared.calls.Call.TheVariants as calls
use Rattle.vol_volume.specs.declared.queries.Query.TheVariants as queries
use Rattle.vol_volume.specs.declared.queries.Reply.{Reply}
use Rattle.vol_volume.specs.declared.queries.Reply.TheVariants as replies
use Rattle.vol_batch.specs.Paths.{below}
use Rattle.vol_import.specs.declared.member_check.MadeAs.{MadeAs}
use Rattle.vol_import.specs.declared.member_check.MadeAs.TheVariants.{File, Directory, Link, Device}
use Rattle.vol_import.specs.declared.member_check.MemberFault.{MemberFault}
use Rattle.vol_import.specs.declared.member_check.MemberFault.TheVariants as faults
use Rattle.vol_import.specs.declared.draft.Draft.{Draft}
use Rattle.vol_import.specs.declared.import_plan.PlanFault.{PlanFault}
use Rattle.vol_import.specs.declared.import_plan.PlanFault.TheVariants as plans
use Rattle.vol_import.specs.declared.archive_members.Member.{Member}

-- true if a path is longer than the 4,096 bytes that a member's path may have (this project)
abbrev pub is_long_path : List ℕ → Bool
is_long_path path = nat_lt 4096 (length path)

-- the names in a path: the parts between its slashes (POSIX, ustar interchange format)
abbrev pub names_of : List ℕ → List (List ℕ)
names_of path = slice_split (λ c. c == 47) path

-- true if a name is longer than the 14 bytes that an entry of a directory can hold (manual section 5, directories)
abbrev pub is_long : List ℕ → Bool
is_long name = nat_lt 14 (length name)

-- true if a name leads to the parent (manual section 5, directories)
abbrev pub is_dot_dot : List ℕ → Bool
is_dot_dot name = bytes_eq name (codes "..")

-- checks a path: it is at most 4,096 bytes long, no name in it is longer than 14 bytes, and none is `..` (this project)
abbrev pub check_path : List ℕ → Result (Unit {0}) MemberFault
check_path path =
    if is_long_path path then Err faults.LongPath
    else if list_any is_long (names_of path) then Err faults.LongName
    else if list_any is_dot_dot (names_of path) then Err faults.DotDot
    else Ok tt

-- true if a path ends in a slash (POSIX, ustar interchange format)
abbrev pub ends_in_slash : List ℕ → Bool
ends_in_slash path = nat_lt 0 (length path) && (slice_index path (length path - 1) == 47)

-- the kind of node that a member becomes; a regular file whose path ends in a slash is a directory, as in archives before POSIX; the editions have
-- neither FIFOs nor symbolic links (POSIX, ustar interchange format)
abbrev pub made_as : TypeFlag → List ℕ → Result MadeAs MemberFault
made_as (flags.Member members.File) path = Ok (if ends_in_slash path then Directory else File)
made_as (flags.Member members.Directory) path = Ok Directory
made_as (flags.Member members.Link) path = Ok Link
made_as (flags.Member members.Character) path = Ok (Device devices.Character)
made_as (flags.Member members.Block) path = Ok (Device devices.Block)
made_as flags.SymbolicLink path = Err faults.Kind
made_as flags.Fifo path = Err faults.Kind
made_as flags.LongName path = Err faults.Kind
made_as flags.LongLink path = Err faults.Kind
made_as flags.Extended path = Err faults.Kind
made_as flags.Global path = Err faults.Kind
made_as flags.VolumeLabel path = Err faults.Kind
made_as (flags.Other c) path = Err faults.Kind

-- checks the link path of a member, if it is a link: it is at most 4,096 bytes long, no name in it is longer than 14 bytes, and none is `..` (this
-- project)
abbrev pub check_link : MadeAs → List ℕ → Result (Unit {0}) MemberFault
check_link Link link =
    if is_long_path link then Err faults.LongLinkPath
    else if list_any is_long (names_of link) then Err faults.LongLink
    else if list_any is_dot_dot (names_of link) then Err faults.DotDotLink
    else Ok tt
check_link File link = Ok tt
check_link Directory link = Ok tt
check_link (Device kind) link = Ok tt

-- checks the numbers of a special file's device: an i-node has a byte for each (mknod, section 2 of the manual)
abbrev pub check_device : MadeAs → ReadHeader → Result (Unit {0}) MemberFault
check_device (Device kind) header = if nat_lt 255 header.major || nat_lt 255 header.minor then Err faults.Device else Ok tt
check_device File header = Ok tt
check_device Directory header = Ok tt
check_device Link header = Ok tt

-- the owner and the group of a member, if both are within the edition's limits (manual section 5, file system)
abbrev pub owner_of : Edition → ReadHeader → Result Cred MemberFault
owner_of edition header =
    if is_bad_id edition header.uid header.gid then Err faults.Owner else Ok (record { uid = header.uid; gid = header.gid })

-- the kind of node that a member becomes in a volume of an edition, and its owner, or the first fault in its kind, its path, its link path, the
-- numbers of its device, and its owner (this project)
unfoldable pub check : Edition → Member → Result (MadeAs × Cred) MemberFault
check edition member =
    and_then (made_as member.header.flag member.path) (λ made.
    and_then (check_path member.path) (λ _.
    and_then (check_link made member.link) (λ _.
    and_then (check_device made member.header) (λ _.
    and_then (owner_of edition member.header) (λ owner. Ok (made, owner))))))

-- the permission bits of a member (POSIX, ustar interchange format)
abbrev pub permissions_of : ReadHeader → ℕ
permissions_of header = header.permissions % 4096

-- the time of a member's calls: the time of its last change if it fits 32 bits, else `now` (this project)
abbrev pub moment_of : ReadHeader → ℕ → ℕ
moment_of header now = if nat_lt header.modified 4294967296 then header.modified else now

-- the call that gives a file or a directory to its owner; none if that is user 0 of group 0, who makes it (this project)
abbrev pub owner_calls : ℕ → List ℕ → Cred → List Call
owner_calls moment path owner =
    if owner.uid == 0 && owner.gid == 0 then [] else calls.Chown user moment path owner.uid owner.gid ∷ []

-- the call that writes the bytes of a file, if it has any (this project)
abbrev pub write_calls : ℕ → List ℕ → List ℕ → List Call
write_calls moment path [] = []
write_calls moment path (c ∷ content) = calls.Write user moment path 0 (c ∷ content) ∷ []

-- the calls that make a regular file (this project)
abbrev pub file_calls : ℕ → List ℕ → ℕ → Cred → List ℕ → List Call
file_calls moment path perm owner content =
    calls.Create user moment path perm ∷ [] ++ write_calls moment path content ++ owner_calls moment path owner

-- the device of a special file of this kind (POSIX, ustar interchange format)
abbrev pub device_of : DeviceKind → ReadHeader → DeviceId
device_of kind header = record { kind = kind; major = header.major % 256; minor = header.minor % 256 }

-- the calls that make a special file (this project)
abbrev pub special_calls : ℕ → List ℕ → ℕ → Cred → DeviceId → List Call
special_calls moment path perm owner device = calls.Mknod user moment path perm device ∷ [] ++ owner_calls moment path owner

-- true if a node is a directory (manual section 5, file system)
abbrev pub is_directory_kind : Kind → Bool
is_directory_kind kinds.Directory = true
is_directory_kind kinds.Regular = false
is_directory_kind kinds.Special = false
is_directory_kind kinds.Free = false
is_directory_kind kinds.Odd = false

-- true if the answer to a Stat of a path says that it is a directory (this project)
abbrev pub is_directory : Result Reply Refusal → Bool
is_directory (Ok (replies.Stat stat)) = is_directory_kind stat.kind
is_directory (Ok (replies.Bytes bytes)) = false
is_directory (Ok (replies.Names names)) = false
is_directory (Err refusal) = false

-- a draft of a plan: the paths of directories that exist or that the calls make, in order, and the calls (this project)
abbrev pub Drafted : Type 0
Drafted = List (List ℕ) × List Call

-- paths in order, with one added unless it is among them (std's BTreeSet)
abbrev pub with_path : List (List ℕ) → List ℕ → List (List ℕ)
with_path known path = insert_key (slice_cmp nat_cmp) known path

-- true if a path is among paths in order (std's BTreeSet)
abbrev pub is_known : List (List ℕ) → List ℕ → Bool
is_known known path = list_any (is_at (slice_cmp nat_cmp path)) known

-- true if there is a directory at a path below another (this project)
abbrev pub is_there : Tree → List ℕ → List ℕ → Bool
is_there tree base path = is_directory (answer tree (queries.Stat user (base ++ path)))

-- true if a directory is missing at a path below another: it isn't known, and doesn't exist (this project)
abbrev pub is_missing : Tree → List ℕ → List (List ℕ) → List ℕ → Bool
is_missing tree base known path = not (is_known known path) && not (is_there tree base path)

-- the call that makes a directory on the path of a member, with permissions 0755 (this project)
abbrev pub way_call : ℕ → List ℕ → Call
way_call now path = calls.Mkdir user now path 0o755

-- a draft with a directory on the path of a member, which is made if it is missing and is then known (this project)
abbrev pub with_way_directory : Tree → List ℕ → ℕ → List ℕ → Drafted → Drafted
with_way_directory tree base now path drafted =
    (with_path drafted.0 path, drafted.1 ++ (if is_missing tree base drafted.0 path then way_call now (base ++ path) ∷ [] else []))

-- true if a name leads to another directory; `.` doesn't (manual section 5, directories)
abbrev pub is_step : List ℕ → Bool
is_step name = not (bytes_eq name (codes "."))

-- the steps of a path: its components except `.` (Lions on namei)
abbrev pub steps_of : List ℕ → List (List ℕ)
steps_of path = filter is_step (components path)

-- true if the last of these components leads nowhere else, as `.` does (Lions on namei)
unfoldable pub ends_in_dot : List (List ℕ) → Bool
ends_in_dot [] = false
ends_in_dot (name ∷ []) = not (is_step name)
ends_in_dot (name ∷ next ∷ rest) = ends_in_dot (next ∷ rest)

-- the number of directories on the way to a path: all steps but the last, or all if `.` comes after them (Lions on namei)
abbrev pub way_length : List ℕ → ℕ
way_length path = if ends_in_dot (components path) then length (steps_of path) else length (steps_of path) - 1

-- the steps on the way to a path (Lions on namei)
abbrev pub way_of : List ℕ → List (List ℕ)
way_of path = take (way_length path) (steps_of path)

-- the path made of steps, each after a slash (Lions on namei)
abbrev pub joined : List (List ℕ) → List ℕ
joined steps = flat_map (λ step. 47 ∷ step) steps

-- a draft with the directories on a path in order; the path is given by its steps below another path (this project)
unfoldable pub with_way : Tree → List ℕ → ℕ → List ℕ → List (List ℕ) → Drafted → Drafted
with_way tree base now path [] drafted = drafted
with_way tree base now path (step ∷ steps) drafted =
    with_way tree base now (path ++ 47 ∷ step) steps (with_way_directory tree base now (path ++ 47 ∷ step) drafted)

-- a draft with more calls at its end (this project)
abbrev pub with_calls : Drafted → List Call → Drafted
with_calls drafted more = (drafted.0, drafted.1 ++ more)

-- the calls that make a directory, and give it to its owner (this project)
abbrev pub directory_calls : ℕ → List ℕ → ℕ → Cred → List Call
directory_calls moment path perm owner = calls.Mkdir user moment path perm ∷ [] ++ owner_calls moment path owner

-- the calls that give a directory made by earlier calls new permissions and a new owner (this project)
abbrev pub given_calls : ℕ → List ℕ → ℕ → Cred → List Call
given_calls moment path perm owner = calls.Chmod user moment path perm ∷ calls.Chown user moment path owner.uid owner.gid ∷ []

-- a draft with a member that is a directory, at a path below another: an existing directory is left as it is; a directory made by earlier calls is
-- given the member's permissions and owner; otherwise it is made. It is then known (this project)
abbrev pub with_directory : Tree → List ℕ → List ℕ → ℕ → List ℕ → ℕ → Cred → Drafted → Drafted
with_directory tree base steps moment path perm owner drafted = (
  with_path drafted.0 steps,
  drafted.1
      ++ (if is_there tree base steps then []
      else if is_known drafted.0 steps then given_calls moment path perm owner
      else directory_calls moment path perm owner),
)

-- a draft with the calls that make a member as a node of this kind, for its owner, after the directories on its path (this project)
abbrev pub with_made : MadeAs → Tree → List ℕ → ℕ → Member → Cred → Drafted → Drafted
with_made File tree base now member owner drafted =
    with_calls drafted (file_calls (moment_of member.header now) (below base member.path) (permissions_of member.header) owner member.content)
with_made Directory tree base now member owner drafted =
    with_directory tree base (joined (steps_of member.path)) (moment_of member.header now) (below base member.path)
    (permissions_of member.header) owner drafted
with_made (Device kind) tree base now member owner drafted =
    with_calls drafted
    (special_calls (moment_of member.header now) (below base member.path) (permissions_of member.header) owner (device_of kind member.header))
with_made Link tree base now member owner drafted =
    with_calls drafted (calls.Link user (moment_of member.header now) (below base member.link) (below base member.path) ∷ [])

-- true if a draft knows more directories than a volume has i-nodes (manual section 5, file system)
abbrev pub is_crowded : Tree → Drafted → Bool
is_crowded tree drafted = nat_lt tree.geometry.last_inode (length drafted.0)

-- a draft with the directories on the path of a member, and then the calls that make it, for its owner; if these directories are more than the volume
-- has i-nodes, the member can't be made, and the fault has its path in the volume, like the fault of a refused call (this project)
abbrev pub with_member : Tree → List ℕ → ℕ → Member → MadeAs × Cred → Drafted → Result Drafted PlanFault
with_member tree base now member made drafted =
    if is_crowded tree drafted then Err (plans.Member (below base member.path) faults.NoInode) else Ok (with_made made.0 tree base now member made.1 drafted)

-- a draft with a member, if it can be made, or the reason why it can't (this project)
abbrev pub onto : Tree → List ℕ → ℕ → Drafted → Member → Result (MadeAs × Cred) MemberFault → Result Drafted PlanFault
onto tree base now drafted member (Ok made) =
    with_member tree base now member made (with_way tree base now [] (way_of member.path) drafted)
onto tree base now drafted member (Err cause) = Err (plans.Member member.path cause)

-- the result of the next step after an Ok, or the fault (this project)
abbrev pub and_next : {X Y : Type 0} → Result X PlanFault → (X → Result Y PlanFault) → Result Y PlanFault
and_next (Ok x) next = next x
and_next (Err fault) next = Err fault

-- the calls of a draft, followed by the calls that make members, in order (this project)
unfoldable pub plan_onto : Tree → List ℕ → ℕ → Drafted → List Member → Result (List Call) PlanFault
plan_onto tree base now drafted [] = Ok drafted.1
plan_onto tree base now drafted (member ∷ rest) =
    and_next (onto tree base now drafted member (check tree.geometry.edition member)) (λ next. plan_onto tree base now next rest)

-- true if a member that can be made is a directory at a path (this project)
abbrev pub is_directory_at : Result MadeAs MemberFault → List ℕ → Bool
is_directory_at (Ok Directory) path = is_nil (steps_of path)
is_directory_at (Ok File) path = false
is_directory_at (Ok Link) path = false
is_directory_at (Ok (Device kind)) path = false
is_directory_at (Err fault) path = false

-- true if a member is the directory of the import: its path has no steps (this project)
abbrev pub is_base : Member → Bool
is_base member = is_directory_at (made_as member.header.flag member.path) member.path

-- the permissions of the last member for the directory of the import, if there is one (this project)
abbrev pub permissions_given : List Member → Option ℕ
permissions_given all = option_map (λ (member : Member). permissions_of member.header) (find is_base (reverse all))

-- the permissions of a node that is a directory, else the given ones (this project)
abbrev pub permissions_told : Kind → ℕ → Option ℕ → Option ℕ
permissions_told kind permissions given = if is_directory_kind kind then Some permissions else given

-- the permissions of the directory of the import, from the answer to a Stat of it; the given ones if it doesn't exist (this project)
abbrev pub base_permissions : Result Reply Refusal → Option ℕ → Option ℕ
base_permissions (Ok (replies.Stat stat)) given = permissions_told stat.kind stat.permissions given
base_permissions (Ok (replies.Bytes bytes)) given = given
base_permissions (Ok (replies.Names names)) given = given
base_permissions (Err refusal) given = given

-- the call after the calls that make members: it gives the directory of the import the permissions that it already has, and so sets the volume's
-- time; no call if there is no such directory (this project)
abbrev pub closing_calls : ℕ → List ℕ → Option ℕ → List Call
closing_calls now base (Some permissions) = calls.Chmod user now base permissions ∷ []
closing_calls now base None = []

-- the calls that make members, followed by the closing call if there are any (this project)
abbrev pub closed : ℕ → List ℕ → Option ℕ → List Call → List Call
closed now base permissions [] = []
closed now base permissions (call ∷ more) = call ∷ more ++ closing_calls now base permissions

-- the call that gives a directory the time of the member that makes it; none for other members, nor for a directory that existed before (this
-- project)
abbrev pub time_calls : Tree → List ℕ → ℕ → Member → Result MadeAs MemberFault → List Call
time_calls tree base now member (Ok Directory) =
    if is_directory (answer tree (queries.Stat user (below base member.path))) then []
    else calls.Times user now (below base member.path) (moment_of member.header now) (moment_of member.header now) ∷ []
time_calls tree base now member (Ok File) = []
time_calls tree base now member (Ok Link) = []
time_calls tree base now member (Ok (Device kind)) = []
time_calls tree base now member (Err fault) = []

-- the calls that give directories the times of their members, in order (this project)
abbrev pub times : Tree → List ℕ → ℕ → List Member → List Call
times tree base now all = flat_map (λ (member : Member). time_calls tree base now member (made_as member.header.flag member.path)) all

-- the calls that make members, followed by the calls that end the import; or the fault (this project)
abbrev pub ended : Tree → List ℕ → ℕ → List Member → Result (List Call) PlanFault → Result (List Call) PlanFault
ended tree base now all made =
    and_next made (λ more.
    Ok (closed now base (base_permissions (answer tree (queries.Stat user base)) (permissions_given all)) more ++ times tree base now all))

-- the calls that make the members of an archive below a path, in order and each after the missing directories on its path, followed by the calls that
-- end the import; or the first member that can't be made, with the reason (this project)
abbrev pub plan : Tree → List ℕ → ℕ → List Member → Result (List Call) PlanFault
plan tree base now all = ended tree base now all (plan_onto tree base now ([], []) all)

-- a draft as contracts see it (this project)
abbrev pub drafted : Draft → Drafted
drafted draft = (draft.known.keys, draft.calls.items)

-- a fault is this one, or NoMemory (this project)
abbrev pub Tells : {X : Type 0} → Result X PlanFault → PlanFault → Type 0
Tells wanted fault = fault ≢ plans.NoMemory → wanted ≡ Err fault

-- the fault when memory runs out (this project)
abbrev pub no_memory : PlanFault
no_memory = plans.NoMemory
