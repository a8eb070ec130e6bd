-- The laws about the entries visited below a directory, stated for the tree that an image reads as.
use Rattle.std.specs.Prelude.{◌≡◌, ◌≢◌, ◌⊎◌, ◌<◌, ◌≤◌, ℕ, ◌↔◌, ◌/◌, ◌%◌, Bool, true, false, if◌then◌else◌, List, [], ◌∷◌, ◌++◌, length, slice_get, slice_index, filter, All, AllPairs, Any, Some, Ok}
use Rattle.std.specs.Cmp.Lexicographic.{slice_cmp}
use Rattle.std.specs.Ordering.{nat_cmp}
use Rattle.std.specs.declared.cmp.Ordering.TheVariants.{Less}
use Rattle.ustar.specs.declared.header.MemberHeader.{MemberHeader}
use Rattle.ustar.specs.declared.header.MemberKind.{MemberKind}
use Rattle.ustar.specs.declared.header.MemberKind.TheVariants as members
use Rattle.vol_file.specs.Rules.{HasKinds}
use Rattle.vol_dir.specs.Entries.{slots, IsDirectory, HasEntries}
use Rattle.vol_dir.specs.Names.{Names, get, names_of, is_dots}
use Rattle.vol_dir.specs.Tree.{Body, Directory, Device, Node, tree}
use Rattle.vol_dir.specs.Walk.{components, walk_from}
use Rattle.vol_judge.specs.Directories.{IsTree, root_of}
use Rattle.vol_layout.specs.Inode.{is_block_type}
use Rattle.vol_layout.specs.declared.geometry.Geometry.{Geometry}
use Rattle.vol_dir.specs.Access.{user}
use Rattle.vol_archive.specs.Export.{is_directory}
use Rattle.vol_archive.specs.Rescue.{IsRescue}
use Rattle.vol_archive.specs.Members.{content_at, headed, member_bytes}
use Rattle.vol_archive.specs.Walk.{path_below, is_first, IsWalk}
use Rattle.vol_archive.specs.declared.met_entries.MetEntry.{MetEntry}
use Rattle.vol_archive.specs.declared.met_entries.Role.{Role}
use Rattle.vol_archive.specs.declared.met_entries.Role.TheVariants as roles
use Rattle.vol_archive.specs.declared.met_entries.Reason.TheVariants as reasons

-- true if an entry with this role is a member of the archive (POSIX, ustar interchange format)
abbrev pub is_kept : Role → Bool
is_kept roles.File = true
is_kept roles.Directory = true
is_kept roles.Special = true
is_kept (roles.Link k) = true
is_kept (roles.Left reason) = false

-- the members among the visited entries (POSIX, ustar interchange format)
abbrev pub members_of : List MetEntry → List MetEntry
members_of founds = filter (λ (found : MetEntry). is_kept found.role) founds

-- the path of each member leads from the directory, as user 0 walks it, to the member's i-number (Lions on namei)
abbrev pub MembersAreOfTree : Type 0
MembersAreOfTree = (geometry : Geometry) (image : List ℕ) (start : ℕ) (founds : List MetEntry)
    → IsDirectory geometry image start → IsWalk geometry image start founds
    → All (λ (found : MetEntry). walk_from (tree geometry image) user start (components found.path) ≡ Ok found.inode) (members_of founds)

-- members are in ascending order: their paths are compared by the bytes of the first name in which they differ; so a directory comes before the
-- entries in it (this project)
abbrev pub MembersAscend : Type 0
MembersAscend = (geometry : Geometry) (image : List ℕ) (start : ℕ) (founds : List MetEntry) → IsWalk geometry image start founds
    → AllPairs (λ (found later : MetEntry). slice_cmp (slice_cmp nat_cmp) (components found.path) (components later.path) ≡ Less) (members_of founds)

-- no two members have the same path (this project)
abbrev pub MembersDiffer : Type 0
MembersDiffer = (geometry : Geometry) (image : List ℕ) (start : ℕ) (founds : List MetEntry) → IsWalk geometry image start founds
    → AllPairs (λ (found later : MetEntry). found.path ≢ later.path) (members_of founds)

-- an entry at this path and for this i-number was visited (this project)
abbrev pub HasMet : List MetEntry → List ℕ → ℕ → Type 0
HasMet founds path i = Any (λ (found : MetEntry). (found.path ≡ path) × (found.inode ≡ i)) founds

-- each name of directory `d`, other than `.` and `..`, was visited below the directory's path, for the i-number that a search finds (Lions on namei)
abbrev pub HasMetAllOf : Geometry → List ℕ → List MetEntry → List ℕ → ℕ → Type 0
HasMetAllOf geometry image founds path d =
    (name : List ℕ) (i : ℕ) → get (names_of (slots geometry image d)) name ≡ Some i → is_dots name ≡ false → HasMet founds (path_below path name) i

-- all names of the directory where the walk began are visited, and all names of each directory that is a member (this project)
abbrev pub DirectoriesAreWhole : Type 0
DirectoriesAreWhole = (geometry : Geometry) (image : List ℕ) (start : ℕ) (founds : List MetEntry) → IsWalk geometry image start founds
    → HasMetAllOf geometry image founds [] start
    × All (λ (found : MetEntry). found.role ≡ roles.Directory → HasMetAllOf geometry image founds found.path found.inode) founds

-- in an image where rules 3 and 9 hold, no visited entry is left out because of its name, or because it has no i-node (manual section 5, directories)
abbrev pub EntriesHaveNodes : Type 0
EntriesHaveNodes = (geometry : Geometry) (image : List ℕ) (start : ℕ) (founds : List MetEntry) → HasKinds geometry image → HasEntries geometry image
    → IsDirectory geometry image start → IsWalk geometry image start founds
    → All (λ (found : MetEntry). (found.role ≢ roles.Left reasons.BadName) × (found.role ≢ roles.Left reasons.NoNode)
    × (found.role ≢ roles.Left reasons.OddNode)) founds

-- in an image where rule 11 holds, no visited directory is left out because it was visited before: each is visited once (ncheck)
abbrev pub DirectoriesAreMetOnce : Type 0
DirectoriesAreMetOnce = (geometry : Geometry) (image : List ℕ) (start : ℕ) (founds : List MetEntry) → IsTree geometry image
    → IsDirectory geometry image start → IsWalk geometry image start founds
    → All (λ (found : MetEntry). found.role ≢ roles.Left reasons.Again) founds

-- no visited entry is left out because its path has more than 4,096 bytes (this project)
abbrev pub HasRoomForAll : List MetEntry → Type 0
HasRoomForAll founds = All (λ (found : MetEntry). found.role ≢ roles.Left reasons.LongPath) founds

-- one or more names, none of them `.` or `..` (manual section 5, directories)
pub record AreProper (names : List (List ℕ)) : Type 0 where
  pub some : names ≢ []
  pub proper : All (λ name. is_dots name ≡ false) names

-- in an image where rules 3, 9 and 11 hold, as in any sound image, the members are exactly the tree below the directory, if no path is longer than
-- 4,096 bytes: names lead to an i-number, as user 0 walks them, if and only if the path of a member for it has these names (Lions on namei)
abbrev pub MembersAreTheTree : Type 0
MembersAreTheTree = (geometry : Geometry) (image : List ℕ) (start : ℕ) (founds : List MetEntry)
    → HasKinds geometry image → HasEntries geometry image → IsTree geometry image
    → IsDirectory geometry image start → IsWalk geometry image start founds → HasRoomForAll founds
    → (names : List (List ℕ)) (i : ℕ) → AreProper names
    → (walk_from (tree geometry image) user start names ≡ Ok i)
    ↔ Any (λ (found : MetEntry). (components found.path ≡ names) × (found.inode ≡ i)) (members_of founds)

-- the header of a member for a node, with the number of bytes after it and a device number: the permissions, owner, group and time are those that a
-- Stat of its path returns (POSIX, ustar interchange format; stat)
abbrev pub header_for : Node → MemberKind → ℕ → ℕ → MemberHeader
header_for node kind size device = record {
  kind = kind;
  permissions = node.permissions;
  uid = node.uid;
  gid = node.gid;
  size = size;
  modified = node.modified;
  major = device / 256;
  minor = device % 256;
}

-- the kind of a special file with these type bits (stat.h)
abbrev pub device_kind : ℕ → MemberKind
device_kind type = if is_block_type type then members.Block else members.Character

-- a member for a node with this role has these bytes: for a regular file the header and the bytes of the file, for another name the path of the first
-- one (POSIX, ustar interchange format)
abbrev pub IsForNode : List MetEntry → MetEntry → Node → Role → List ℕ → Type 0
IsForNode founds found node roles.File bytes =
    (content : List ℕ) × (node.content ≡ Body content)
    × (bytes ≡ headed (header_for node members.File (length content) 0) found.path [] ++ content_at found.path content)
IsForNode founds found node roles.Directory bytes =
    (names : Names) × (node.content ≡ Directory names) × (bytes ≡ headed (header_for node members.Directory 0 0) (found.path ++ 47 ∷ []) [])
IsForNode founds found node roles.Special bytes =
    (type : ℕ) × (addresses : List ℕ) × (node.content ≡ Device type addresses)
    × (bytes ≡ headed (header_for node (device_kind type) 0 (slice_index addresses 0 % 65536)) found.path [])
IsForNode founds found node (roles.Link k) bytes =
    (first : MetEntry) × (slice_get founds k ≡ Some first) × (first.inode ≡ found.inode) × (is_first first.role ≡ true)
    × (bytes ≡ headed (header_for node members.Link 0 0) found.path first.path)
IsForNode founds found node (roles.Left reason) bytes = ⊥

-- each member is for the node with its i-number in the tree, and has that node's bytes in the archive (POSIX, ustar interchange format; stat, read)
abbrev pub MembersHaveNodes : Type 0
MembersHaveNodes = (geometry : Geometry) (image : List ℕ) (start : ℕ) (founds : List MetEntry) → IsWalk geometry image start founds
    → All (λ (found : MetEntry). (node : Node) × ((tree geometry image).nodes found.inode ≡ Some node)
    × IsForNode founds found node found.role (member_bytes geometry image founds found)) (members_of founds)

-- after a rescue from the root each node of the tree, from the root's i-number on, is a member; only the root's own directory is none. I-numbers have
-- 16 bits (fsck)
abbrev pub NodesAreRescued : Type 0
NodesAreRescued = (geometry : Geometry) (image orphans unreached : List ℕ) (founds : List MetEntry) → geometry.last_inode < 65536
    → IsRescue geometry image (root_of geometry) orphans unreached founds
    → (i : ℕ) (node : Node) → (tree geometry image).nodes i ≡ Some node → root_of geometry ≤ i
    → (i ≢ root_of geometry) ⊎ (is_directory geometry image i ≡ false)
    → Any (λ (found : MetEntry). (found.inode ≡ i) × (is_first found.role ≡ true)) founds
