-- The members of the list of a volume.
use Rattle.std.specs.Prelude.{◌≡◌, ◌≢◌, ◌/◌, ◌%◌, ◌==◌, ◌&&◌, ◌||◌, nat_lt, drop, Bool, ℕ, if◌then◌else◌, List, ◌∷◌, ◌++◌, Option, None, Some, Result, Ok, Err, codes, slice_get, slice_index}
use Rattle.std.specs.List.{list_all}
use Rattle.std.specs.Str.{is_utf8}
use Rattle.pdp_words.specs.Steps.{and_then}
use Rattle.pdp_words.specs.Words.{long}
use Rattle.vol_layout.specs.Inode.{device_of, device_type, inode_of, is_block, permissions_of}
use Rattle.vol_layout.specs.Super.{time_place}
use Rattle.vol_layout.specs.declared.edition.Edition.{Edition}
use Rattle.vol_layout.specs.declared.geometry.Geometry.{Geometry}
use Rattle.vol_layout.specs.declared.i_node.Inode.{Inode}
use Rattle.vol_layout.specs.declared.mode.DeviceId.{DeviceId}
use Rattle.vol_layout.specs.declared.mode.DeviceKind.{DeviceKind}
use Rattle.vol_layout.specs.declared.mode.DeviceKind.TheVariants as devices
use Rattle.vol_dir.specs.Tree.{is_number}
use Rattle.vol_archive.specs.declared.met_entries.MetEntry.{MetEntry}
use Rattle.vol_archive.specs.declared.met_entries.Reason.TheVariants as reasons
use Rattle.vol_archive.specs.declared.met_entries.Role.{Role}
use Rattle.vol_archive.specs.declared.met_entries.Role.TheVariants as roles
use Rattle.pack_lists.specs.Paths.{is_path}
use Rattle.pack_lists.specs.Words.{is_list_word}
use Rattle.pack_lists.specs.declared.members.ListedMember.{ListedMember}
use Rattle.pack_lists.specs.declared.members.ListedMember.TheVariants as members
use Rattle.pack_lists.specs.declared.members.ListedOwner.{ListedOwner}
use Rattle.pack_lists.specs.declared.members.NodeMarks.{NodeMarks}
use Rattle.command_copies.specs.declared.members.MemberFault.{MemberFault}
use Rattle.command_copies.specs.declared.members.MemberFault.TheVariants as faults
use Rattle.command_copies.specs.declared.nodes.Uncopied.{Uncopied}
use Rattle.command_copies.specs.declared.nodes.Uncopied.TheVariants.{Device, Left, NotText, Spaced}

-- the fault of an entry when memory runs out (this project)
abbrev pub no_memory_of_member : MemberFault
no_memory_of_member = faults.NoMemory

-- a list has no place for an entry, for this reason (this project)
abbrev pub unlisted : {T : Type 0} → Uncopied → Result T MemberFault
unlisted why = Err (faults.Unlisted why)

-- the fault of an entry is this one, or that memory ran out (this project)
abbrev pub TellsMember : {T : Type 0} → Result T MemberFault → MemberFault → Type 0
TellsMember wanted fault = fault ≢ faults.NoMemory → wanted ≡ Err fault

-- the path that a list has for the entry at a path below the root: with a slash before it (this project)
abbrev pub listed_path : List ℕ → Result (List ℕ) MemberFault
listed_path path = if is_list_word path then (if is_path (47 ∷ path) then Ok (47 ∷ path) else unlisted (Left reasons.LongPath)) else unlisted Spaced

-- a path, if it is text, as the names of files outside the volume are (this project)
abbrev pub text_path : List ℕ → Result (List ℕ) MemberFault
text_path path = if is_utf8 path then Ok path else unlisted NotText

-- the path of the file, outside the volume, with the bytes of the file at a path below the root: in the folder beside the list of this name (this project)
unfoldable pub host_path : List ℕ → List ℕ → List ℕ
host_path name path = name ++ (codes ".files/" ++ path)

-- i-node i, if it is one of the volume (manual section 5, file system)
abbrev pub node_of : Geometry → List ℕ → ℕ → Result Inode MemberFault
node_of g image i = if is_number g i then Ok (inode_of g.edition image i) else unlisted (Left reasons.NoNode)

-- the owner of an i-node (stat)
abbrev pub owner_of : Inode → ListedOwner
owner_of node = record { uid = node.uid; gid = node.gid }

-- the permissions, the owner and the time of last modification of an i-node (stat)
abbrev pub marks_of : Inode → NodeMarks
marks_of node = record { permissions = permissions_of node.mode.bits; owner = owner_of node; modified = node.modified }

-- the kind of a special file (stat.h)
abbrev pub device_kind : Inode → DeviceKind
device_kind node = if is_block node.mode.bits then devices.Block else devices.Character

-- the device of a special file (stat)
abbrev pub device_id : Inode → DeviceId
device_id node = record { kind = device_kind node; major = device_of node / 256; minor = device_of node % 256 }

-- the time of a volume, which its super-block has (filsys.h)
abbrev pub time_of : Geometry → List ℕ → ℕ
time_of g image = long image (time_place g.edition)

-- the member for a regular file (this project)
abbrev pub file_member : Geometry → List ℕ → List ℕ → MetEntry → Result ListedMember MemberFault
file_member g image name found =
    and_then (listed_path found.path) (λ path.
    and_then (text_path found.path) (λ text.
    and_then (node_of g image found.inode) (λ node.
    Ok (members.File path (marks_of node) (host_path name text)))))

-- the member for a directory (this project)
abbrev pub directory_member : Geometry → List ℕ → MetEntry → Result ListedMember MemberFault
directory_member g image found =
    and_then (listed_path found.path) (λ path.
    and_then (text_path found.path) (λ text.
    and_then (node_of g image found.inode) (λ node.
    Ok (members.Directory path (marks_of node)))))

-- true if the type in a mode is that of a character or a block file (stat.h)
abbrev pub is_device_type : Edition → ℕ → Bool
is_device_type edition mode = (mode / 4096 == device_type edition devices.Character) || (mode / 4096 == device_type edition devices.Block)

-- true if a special file is one that mknod makes: its type is that of a character or a block file, and its addresses are the number of its device alone
-- (mknod, ino.h)
abbrev pub is_made_device : Edition → Inode → Bool
is_made_device edition node =
    is_device_type edition node.mode.bits
    && (nat_lt (slice_index node.addresses 0) 65536 && list_all (λ address. address == 0) (drop 1 node.addresses))

-- the member for a special file, if it is one that mknod makes (this project)
abbrev pub special_member : Geometry → List ℕ → MetEntry → Result ListedMember MemberFault
special_member g image found =
    and_then (listed_path found.path) (λ path.
    and_then (node_of g image found.inode) (λ node.
    if is_made_device g.edition node then Ok (members.Device path (marks_of node) (device_id node)) else unlisted Device))

-- the path of the first name of a file (this project)
abbrev pub first_path : Option MetEntry → Result (List ℕ) MemberFault
first_path None = unlisted (Left reasons.NoNode)
first_path (Some first) = listed_path first.path

-- the member for another name of the file that was met at position k, in a list with this time (this project)
abbrev pub link_member : ℕ → List MetEntry → MetEntry → ℕ → Result ListedMember MemberFault
link_member time founds found k =
    and_then (listed_path found.path) (λ path.
    and_then (first_path (slice_get founds k)) (λ target.
    Ok (members.Link path target time)))

-- the member for an entry with this role (this project)
abbrev pub role_member : Geometry → List ℕ → List ℕ → List MetEntry → MetEntry → Role → Result ListedMember MemberFault
role_member g image name founds found roles.File = file_member g image name found
role_member g image name founds found roles.Directory = directory_member g image found
role_member g image name founds found roles.Special = special_member g image found
role_member g image name founds found (roles.Link k) = link_member (time_of g image) founds found k
role_member g image name founds found (roles.Left reason) = unlisted (Left reason)

-- the member for an entry that a walk from the root met, among all of them, in the list of this name; or the reason why a list has no place for it (this
-- project)
abbrev pub entry_member : Geometry → List ℕ → List ℕ → List MetEntry → MetEntry → Result ListedMember MemberFault
entry_member g image name founds found = role_member g image name founds found found.role
