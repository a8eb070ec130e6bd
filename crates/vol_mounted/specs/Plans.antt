-- The calls that requests make.
use Rattle.std.specs.Prelude.{ℕ, ◌+◌, ◌-◌, ◌*◌, ◌%◌, ◌/◌, ◌^◌, ◌==◌, ◌&&◌, ◌||◌, nat_lt, nat_le, min, Bool, true, false, not, unwrap_or, is_none, if◌then◌else◌, List, [], ◌∷◌, ◌++◌, Option, None, Some, Result, Ok, Err}
use Rattle.std.specs.Option.{ok_or, option_to_list}
use Rattle.fuse_words.specs.declared.attribute_changes.AttributeChanges.{AttributeChanges}
use Rattle.fuse_words.specs.declared.attribute_changes.NewTime.{NewTime}
use Rattle.fuse_words.specs.declared.attribute_changes.NewTime.TheVariants as times
use Rattle.fuse_words.specs.declared.request.Header.{Header}
use Rattle.vol_layout.specs.Edition.{constants}
use Rattle.vol_layout.specs.Ids.{is_bad_id}
use Rattle.vol_layout.specs.declared.edition.Edition.{Edition}
use Rattle.vol_layout.specs.declared.geometry.Geometry.{Geometry}
use Rattle.vol_layout.specs.declared.mode.DeviceKind.{DeviceKind}
use Rattle.vol_layout.specs.declared.mode.DeviceKind.TheVariants as devices
use Rattle.vol_layout.specs.declared.mode.Kind.TheVariants as kinds
use Rattle.vol_layout.specs.declared.mode.Kind.{Kind}
use Rattle.vol_dir.specs.Access.{user}
use Rattle.vol_dir.specs.Tree.{State, tree, state}
use Rattle.vol_dir.specs.declared.cred.Cred.{Cred}
use Rattle.vol_dir.specs.declared.refusal.Refusal.{Refusal}
use Rattle.vol_dir.specs.declared.refusal.Refusal.TheVariants as refusals
use Rattle.vol_change.specs.declared.new_nodes.NewFile.{NewFile}
use Rattle.vol_change.specs.declared.new_nodes.NewFile.TheVariants as files
use Rattle.vol_volume.specs.Verdict.{creation, verdict}
use Rattle.vol_volume.specs.declared.calls.Call.{Call}
use Rattle.vol_volume.specs.declared.calls.Call.TheVariants as calls
use Rattle.vol_volume.specs.declared.queries.Stat.{Stat}
use Rattle.vol_serve.specs.Nodes.{stat_in, look_up}
use Rattle.vol_serve.specs.declared.nodes.fault.NodeFault.{NodeFault}
use Rattle.vol_serve.specs.declared.nodes.fault.NodeFault.TheVariants as faults
use Rattle.vol_mounted.specs.Paths.{path_to, path_of_name}
use Rattle.pdp_words.specs.Steps.{and_then}
use Rattle.vol_mounted.specs.Refusals.{no_node, of_nodes}
use Rattle.vol_mounted.specs.declared.known.KnownNode.{KnownNode}
use Rattle.vol_mounted.specs.declared.owner.Owner.{Owner}
use Rattle.vol_mounted.specs.declared.refusal.MountedRefusal.{MountedRefusal}
use Rattle.vol_mounted.specs.declared.refusal.MountedRefusal.TheVariants as mounted

-- the values that the calls of a request depend on: the volume's geometry and image, the records of the i-numbers, the user that all nodes are shown
-- as, if any, and the current time (this project)
pub record Sight : Type 0 where
  pub geometry : Geometry
  pub image : List ℕ
  pub nodes : List KnownNode
  pub owner : Option Owner
  pub now : ℕ

-- the path of node i (this project)
abbrev pub path_at : Sight → ℕ → Result (List ℕ) MountedRefusal
path_at sight i = path_to sight.geometry sight.image sight.nodes i

-- the path of a name in directory d (this project)
abbrev pub name_at : Sight → ℕ → List ℕ → Result (List ℕ) MountedRefusal
name_at sight d name = path_of_name sight.geometry sight.image sight.nodes d name

-- a user and a group, or BadId if the edition's i-nodes can't hold them (manual section 5, file system)
abbrev pub cred_of : Edition → ℕ → ℕ → Result Cred MountedRefusal
cred_of edition uid gid = if is_bad_id edition uid gid then Err (mounted.Call refusals.BadId) else Ok (record { uid = uid; gid = gid })

-- the owner of a new node: user 0 if all nodes are shown as one user's, else the caller (this project)
abbrev pub owner_of : Edition → Option Owner → Header → Result Cred MountedRefusal
owner_of edition (Some owner) header = Ok user
owner_of edition None header = cred_of edition header.uid header.gid

-- the call that changes the owner of a new node; none for user 0 of group 0, who owns it already (this project)
abbrev pub given_to : Cred → ℕ → List ℕ → List Call
given_to owner now path =
    if owner.uid == 0 && owner.gid == 0 then []
    else calls.Chown user now path owner.uid owner.gid ∷ []

-- the calls of MKDIR in directory d (mkdir)
abbrev pub directory_calls : Sight → Header → ℕ → List ℕ → ℕ → Result (List Call) MountedRefusal
directory_calls sight header d name mode =
    and_then (owner_of sight.geometry.edition sight.owner header) (λ owner.
    and_then (name_at sight d name) (λ path. Ok (calls.Mkdir user sight.now path (mode % 4096) ∷ given_to owner sight.now path)))

-- true if the type bits of a mode are a regular file's, or none (Linux, stat.h: S_IFREG)
abbrev pub is_regular : ℕ → Bool
is_regular mode = (mode / 4096 % 16 == 8) || (mode / 4096 % 16 == 0)

-- the major number of a device, from Linux's number (Linux, kdev_t.h: new_decode_dev)
abbrev pub major_of : ℕ → ℕ
major_of device = device / 256 % 4096

-- the minor number of a device, from Linux's number (Linux, kdev_t.h: new_decode_dev)
abbrev pub minor_of : ℕ → ℕ
minor_of device = device % 256 + device / 1048576 * 256

-- the special file of a device of this kind, by Linux's number; None if its major or minor number is above 255 (mknod, section 2 of the manual)
abbrev pub special_file : DeviceKind → ℕ → Option NewFile
special_file kind device =
    if nat_lt 255 (major_of device) || nat_lt 255 (minor_of device) then None
    else Some (files.Special (record { kind = kind; major = major_of device; minor = minor_of device }))

-- the file that MKNOD makes for a user, by a mode and Linux's number of a device: a regular file, or for user 0 a character or block special file; None for any
-- other type or user, or a major or minor number above 255 (Linux, stat.h: S_IFCHR, S_IFBLK; mknod, section 2 of the manual)
abbrev pub new_file : ℕ → ℕ → ℕ → Option NewFile
new_file uid mode device =
    if is_regular mode then Some files.Regular
    else if not (uid == 0) then None
    else if mode / 4096 % 16 == 2 then special_file devices.Character device
    else if mode / 4096 % 16 == 6 then special_file devices.Block device
    else None

-- the calls of MKNOD in directory d (creat; mknod)
abbrev pub file_calls : Sight → Header → ℕ → List ℕ → ℕ → ℕ → Result (List Call) MountedRefusal
file_calls sight header d name mode device =
    and_then (ok_or (new_file header.uid mode device) mounted.NotPermitted) (λ file.
    and_then (owner_of sight.geometry.edition sight.owner header) (λ owner.
    and_then (name_at sight d name) (λ path. Ok (creation file user sight.now path (mode % 4096) ∷ given_to owner sight.now path))))

-- the call of UNLINK in directory d (unlink)
abbrev pub unlink_calls : Sight → ℕ → List ℕ → Result (List Call) MountedRefusal
unlink_calls sight d name = and_then (name_at sight d name) (λ path. Ok (calls.Unlink user sight.now path ∷ []))

-- the call of RMDIR in directory d (rmdir)
abbrev pub rmdir_calls : Sight → ℕ → List ℕ → Result (List Call) MountedRefusal
rmdir_calls sight d name = and_then (name_at sight d name) (λ path. Ok (calls.Rmdir user sight.now path ∷ []))

-- the call of LINK of node i in directory d (link)
abbrev pub link_calls : Sight → ℕ → ℕ → List ℕ → Result (List Call) MountedRefusal
link_calls sight i d name =
    and_then (path_at sight i) (λ source.
    and_then (name_at sight d name) (λ target. Ok (calls.Link user sight.now source target ∷ [])))

-- a number, or TooBig if it has more than 32 bits (errno.h: EFBIG)
abbrev pub short_number : ℕ → Result ℕ MountedRefusal
short_number n = if nat_lt n (2 ^ 32) then Ok n else Err (mounted.Call refusals.TooBig)

-- the call of WRITE into node i (write)
abbrev pub write_calls : Sight → ℕ → ℕ → List ℕ → Result (List Call) MountedRefusal
write_calls sight i offset bytes =
    and_then (short_number offset) (λ offset.
    and_then (path_at sight i) (λ path. Ok (calls.Write user sight.now path offset bytes ∷ [])))

-- the first refusal, if there is one, else the second (this project)
abbrev pub or_refused : Option Refusal → Option Refusal → Option Refusal
or_refused (Some refusal) other = Some refusal
or_refused None other = other

-- the first refusal of some calls, each on the unchanged volume (this project)
abbrev pub first_refused : State → List Call → Option Refusal
first_refused state [] = None
first_refused state (call ∷ calls) = or_refused (verdict state call) (first_refused state calls)

-- these calls, or the refusal if there is one (this project)
abbrev pub unless_refused : Option Refusal → List Call → Result (List Call) MountedRefusal
unless_refused (Some refusal) calls = Err (mounted.Call refusal)
unless_refused None calls = Ok calls

-- these calls; or, if a check of other calls on the unchanged volume finds a refusal, the first one (this project)
abbrev pub asked : Sight → List Call → List Call → Result (List Call) MountedRefusal
asked sight tests calls = unless_refused (first_refused (state sight.geometry sight.image) tests) calls

-- the Stat of node i (stat)
abbrev pub stat_at : Sight → ℕ → Result Stat MountedRefusal
stat_at sight i = of_nodes (ok_or (stat_in (tree sight.geometry sight.image) i) faults.Stale)

-- true if a kind is a directory's (manual section 5, file system)
abbrev pub is_directory : Kind → Bool
is_directory kinds.Directory = true
is_directory kind = false

-- the calls of a rename to a name that doesn't exist; both calls are checked first (rename)
abbrev pub move_calls : Sight → List ℕ → List ℕ → Result (List Call) MountedRefusal
move_calls sight source target =
    let moves = calls.Link user sight.now source target ∷ calls.Unlink user sight.now source ∷ [] in asked sight moves moves

-- the calls of a rename to the name of another node. The removal of both names is checked first, and that the file may have one more link for a
-- moment; the slot of the new name is free then (rename)
abbrev pub replace_calls : Sight → Stat → Stat → List ℕ → List ℕ → Result (List Call) MountedRefusal
replace_calls sight stat there source target =
    if is_directory there.kind then Err (mounted.Call refusals.IsDirectory)
    else if nat_le (constants sight.geometry.edition).link_limit stat.links then Err (mounted.Call refusals.TooManyLinks)
    else asked sight (calls.Unlink user sight.now target ∷ calls.Unlink user sight.now source ∷ [])
    (calls.Unlink user sight.now target ∷ calls.Link user sight.now source target ∷ calls.Unlink user sight.now source ∷ [])

-- the calls of a rename to an existing name, if it may be replaced; if both names are of one node, there are no calls (rename)
abbrev pub over_calls : Sight → ℕ → Stat → ℕ → List ℕ → List ℕ → Result (List Call) MountedRefusal
over_calls sight flags stat j source target =
    if flags == 1 then Err (mounted.Call refusals.Exists)
    else if j == stat.number then Ok []
    else and_then (stat_at sight j) (λ there. replace_calls sight stat there source target)

-- the calls of a rename of a node, by the node that its new name leads to, if any (rename)
abbrev pub named_calls : Sight → ℕ → Stat → List ℕ → List ℕ → Result ℕ NodeFault → Result (List Call) MountedRefusal
named_calls sight flags stat source target (Ok j) = over_calls sight flags stat j source target
named_calls sight flags stat source target (Err faults.NoEntry) = move_calls sight source target
named_calls sight flags stat source target (Err fault) = Err (no_node fault)

-- the calls of a rename of a node other than a directory (rename)
abbrev pub node_calls : Sight → ℕ → Stat → List ℕ → List ℕ → Result ℕ NodeFault → Result (List Call) MountedRefusal
node_calls sight flags stat source target there =
    if is_directory stat.kind then Err mounted.IsDirectory else named_calls sight flags stat source target there

-- the calls of RENAME and RENAME2, of a name in directory d to one in directory e. The only flag served requires a new name that doesn't exist (rename; renameat2: RENAME_NOREPLACE)
abbrev pub rename_calls : Sight → ℕ → ℕ → List ℕ → ℕ → List ℕ → Result (List Call) MountedRefusal
rename_calls sight flags d name e new_name =
    if nat_lt 1 flags then Err mounted.Flags
    else and_then (name_at sight d name) (λ source.
    and_then (name_at sight e new_name) (λ target.
    and_then (of_nodes (look_up (tree sight.geometry sight.image) d name)) (λ i.
    and_then (stat_at sight i) (λ stat.
    node_calls sight flags stat source target (look_up (tree sight.geometry sight.image) e new_name)))))

-- the call that changes a file's size: it truncates the file, or writes a zero byte at the new end (truncate)
abbrev pub size_call : ℕ → Stat → List ℕ → Option ℕ → Result (Option Call) MountedRefusal
size_call now stat path None = Ok None
size_call now stat path (Some size) =
    and_then (short_number size) (λ size.
    Ok (Some (if nat_le size stat.size then calls.Truncate user now path size else calls.Write user now path (size - 1) (0 ∷ []))))

-- the call that changes a node's permissions (chmod)
abbrev pub mode_call : ℕ → List ℕ → Option ℕ → Option Call
mode_call now path None = None
mode_call now path (Some mode) = Some (calls.Chmod user now path (mode % 4096))

-- the call that changes a node's user and group; if all nodes are shown as one user's, there is no call, and any other user or group is refused
-- (chown)
abbrev pub given_call : Sight → Stat → List ℕ → Option ℕ → Option ℕ → Option Owner → Result (Option Call) MountedRefusal
given_call sight stat path uid gid None =
    and_then (cred_of sight.geometry.edition (unwrap_or uid stat.uid) (unwrap_or gid stat.gid)) (λ cred.
    Ok (Some (calls.Chown user sight.now path cred.uid cred.gid)))
given_call sight stat path uid gid (Some owner) =
    if (unwrap_or uid owner.uid == owner.uid) && (unwrap_or gid owner.gid == owner.gid) then Ok None else Err mounted.NotPermitted

-- the call that changes a node's user and group, if a user or a group is given (chown)
abbrev pub owner_call : Sight → Stat → List ℕ → Option ℕ → Option ℕ → Result (Option Call) MountedRefusal
owner_call sight stat path uid gid =
    if is_none uid && is_none gid then Ok None else given_call sight stat path uid gid sight.owner

-- a time in seconds, a signed number of 64 bits, limited to the times that an i-node can hold (Linux, timestamp_truncate)
abbrev pub inode_time : ℕ → ℕ
inode_time seconds = if nat_le (2 ^ 63) seconds then 0 else min (2 ^ 32 - 1) seconds

-- a new time: the current time, or the given one (utimensat)
abbrev pub time_of : ℕ → NewTime → ℕ
time_of now times.Now = now
time_of now (times.At seconds) = inode_time seconds

-- the time to set: the new one, if it is given; else the node's present time (utimensat)
abbrev pub set_time : ℕ → ℕ → Option NewTime → ℕ
set_time now present None = present
set_time now present (Some time) = time_of now time

-- the call that sets a node's times, if a time is given; a time that isn't given stays the same (utimensat)
abbrev pub times_call : ℕ → Stat → List ℕ → Option NewTime → Option NewTime → Option Call
times_call now stat path accessed modified =
    if is_none accessed && is_none modified then None
    else Some (calls.Times user now path (set_time now stat.accessed accessed) (set_time now stat.modified modified))

-- the calls of SETATTR of node i, all of which are checked first (fuse_setattr_in)
abbrev pub attribute_calls : Sight → ℕ → AttributeChanges → Result (List Call) MountedRefusal
attribute_calls sight i changes =
    and_then (path_at sight i) (λ path.
    and_then (stat_at sight i) (λ stat.
    and_then (size_call sight.now stat path changes.size) (λ sized.
    and_then (owner_call sight stat path changes.uid changes.gid) (λ owned.
    let all = ((option_to_list sized ++ option_to_list (mode_call sight.now path changes.mode)) ++ option_to_list owned)
    ++ option_to_list (times_call sight.now stat path changes.accessed changes.modified) in asked sight all all))))
