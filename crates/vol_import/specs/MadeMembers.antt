-- The members of an archive after an import.
use Rattle.std.specs.Prelude.{◌≡◌, ◌≢◌, ◌⊎◌, ℕ, ◌+◌, ◌*◌, replicate, Bool, false, List, [], ◌∷◌, ◌++◌, Any, Result, Ok, Err}
use Rattle.std.specs.List.{flat_map, list_any}
use Rattle.std.specs.Str.{bytes_eq}
use Rattle.vol_dir.specs.Access.{user}
use Rattle.vol_dir.specs.Names.{is_dots}
use Rattle.vol_dir.specs.Tree.{Device as DeviceOf, Tree}
use Rattle.vol_dir.specs.Walk.{components, find_in, root, walk_from}
use Rattle.vol_change.specs.Nodes.{node_at}
use Rattle.vol_layout.specs.Inode.{device_type}
use Rattle.vol_layout.specs.declared.mode.DeviceKind.{DeviceKind}
use Rattle.vol_layout.specs.declared.mode.Kind.TheVariants as kinds
use Rattle.vol_volume.specs.Answer.{answer}
use Rattle.vol_volume.specs.declared.queries.Query.TheVariants as queries
use Rattle.vol_volume.specs.declared.queries.Reply.TheVariants as replies
use Rattle.vol_volume.specs.declared.queries.Stat.{Stat}
use Rattle.vol_batch.specs.Paths.{HasDirectory, HasFile, below}
use Rattle.vol_import.specs.Plan.{is_directory, joined, made_as, moment_of, permissions_of, steps_of, way_of}
use Rattle.vol_import.specs.declared.member_check.MadeAs.{MadeAs}
use Rattle.vol_import.specs.declared.member_check.MadeAs.TheVariants.{File, Directory, Link, Device}
use Rattle.vol_import.specs.declared.member_check.MemberFault.{MemberFault}
use Rattle.vol_import.specs.declared.faults.ArchiveFault.{ArchiveFault}
use Rattle.vol_import.specs.declared.archive_members.Member.{Member}

-- a Stat returns the permissions, owner and group of a member, and the time of its last change (POSIX, ustar interchange format)
pub record IsGiven (stat : Stat) (now : ℕ) (member : Member) : Type 0 where
  pub permissions : stat.permissions ≡ permissions_of member.header
  pub uid : stat.uid ≡ member.header.uid
  pub gid : stat.gid ≡ member.header.gid
  pub modified : stat.modified ≡ moment_of member.header now

-- a path leads to a file with the bytes, permissions, owner and group of its member, and the time of the member's last change (POSIX, ustar
-- interchange format)
pub record HasMemberFile (tree : Tree) (path : List ℕ) (now : ℕ) (member : Member) : Type 0 where
  pub file : HasFile tree path member.content
  pub given : IsGiven file.stat now member

-- a path leads to a special file for a device of this kind and number, with the permissions, owner and group of its member, and the time of the
-- member's last change; the old tree is of the same volume (POSIX, ustar interchange format; mknod, section 2 of the manual)
pub record HasMemberDevice (old tree : Tree) (path : List ℕ) (now : ℕ) (kind : DeviceKind) (number : ℕ) (member : Member) : Type 0 where
  pub stat : Stat
  pub found : answer tree (queries.Stat user path) ≡ Ok (replies.Stat stat)
  pub special : stat.kind ≡ kinds.Special
  pub device : (node_at tree stat.number).content ≡ DeviceOf (device_type old.geometry.edition kind) (number ∷ replicate 12 0)
  pub given : IsGiven stat now member

-- two paths lead to one file: a Stat of each returns the same, with the same i-number (link)
pub record HasLink (tree : Tree) (source target : List ℕ) : Type 0 where
  pub stat : Stat
  pub at_source : answer tree (queries.Stat user source) ≡ Ok (replies.Stat stat)
  pub at_target : answer tree (queries.Stat user target) ≡ Ok (replies.Stat stat)

-- a path leads to a directory; if there was none before and no later member is for it, it has the permissions, owner, group and time of its member (POSIX, ustar interchange format)
pub record HasMemberDirectory (old tree : Tree) (path : List ℕ) (now : ℕ) (member : Member) (again : Bool) : Type 0 where
  pub directory : HasDirectory tree path
  pub given : is_directory (answer old (queries.Stat user path)) ≡ false → again ≡ false → IsGiven directory.stat now member

-- true if a member with this result of `made_as`, at this path, is the directory with these steps (this project)
abbrev pub is_made_at : Result MadeAs MemberFault → List ℕ → List ℕ → Bool
is_made_at (Ok Directory) path steps = bytes_eq (joined (steps_of path)) steps
is_made_at (Ok File) path steps = false
is_made_at (Ok Link) path steps = false
is_made_at (Ok (Device kind)) path steps = false
is_made_at (Err fault) path steps = false

-- true if a member is the directory with these steps (this project)
abbrev pub is_for : List ℕ → Member → Bool
is_for steps member = is_made_at (made_as member.header.flag member.path) member.path steps

-- true if some member is the directory with these steps (this project)
abbrev pub is_among : List Member → List ℕ → Bool
is_among all steps = list_any (is_for steps) all

-- a tree made from an older one has, below a path, the node of a member, of the kind in this result; the result isn't a fault (POSIX, ustar
-- interchange format)
abbrev pub HasMember : Tree → Tree → List ℕ → ℕ → Member → List Member → Result MadeAs MemberFault → Type 0
HasMember old tree base now member later (Ok File) = HasMemberFile tree (below base member.path) now member
HasMember old tree base now member later (Ok Link) = HasLink tree (below base member.link) (below base member.path)
HasMember old tree base now member later (Ok Directory) =
    HasMemberDirectory old tree (below base member.path) now member (is_among later (joined (steps_of member.path)))
HasMember old tree base now member later (Ok (Device kind)) =
    HasMemberDevice old tree (below base member.path) now kind (256 * member.header.major + member.header.minor) member
HasMember old tree base now member later (Err fault) = ⊥

-- a tree has each of these members (POSIX, ustar interchange format)
unfoldable pub HasMembers : Tree → Tree → List ℕ → ℕ → List Member → Type 0
HasMembers old tree base now [] = Unit {0}
HasMembers old tree base now (member ∷ later) =
    HasMember old tree base now member later (made_as member.header.flag member.path) × HasMembers old tree base now later

-- a path leads to the same node as before, with the same kind, permissions, owner and group; a node other than a directory also has the same size and time of its last change, and a regular file the same bytes (stat, read)
pub record KeepsNode (old tree : Tree) (path : List ℕ) (told : Stat) : Type 0 where
  pub stat : Stat
  pub found : answer tree (queries.Stat user path) ≡ Ok (replies.Stat stat)
  pub number : stat.number ≡ told.number
  pub kind : stat.kind ≡ told.kind
  pub permissions : stat.permissions ≡ told.permissions
  pub uid : stat.uid ≡ told.uid
  pub gid : stat.gid ≡ told.gid
  pub size : told.kind ≢ kinds.Directory → stat.size ≡ told.size
  pub modified : told.kind ≢ kinds.Directory → stat.modified ≡ told.modified
  pub read : told.kind ≡ kinds.Regular → (offset len : ℕ)
      → answer tree (queries.Read user path offset len) ≡ answer old (queries.Read user path offset len)

-- each path that led to a node of a tree still leads to it (stat)
abbrev pub KeepsNodes : Tree → Tree → Type 0
KeepsNodes old tree = (path : List ℕ) (told : Stat) → answer old (queries.Stat user path) ≡ Ok (replies.Stat told) → KeepsNode old tree path told

-- a path ends with a name, and the names before it lead to directory `d` (Lions on namei)
pub record EndsIn (tree : Tree) (d : ℕ) (name path : List ℕ) : Type 0 where
  pub front : List (List ℕ)
  pub parts : components path ≡ front ++ name ∷ []
  pub leads : walk_from tree user (root tree) front ≡ Ok d

-- each name in a directory of the new tree is a name in the old tree, for the same i-number, or is `.` or `..`, or is the last name of one of the
-- paths in this directory (Lions on namei)
abbrev pub AddsNames : Tree → Tree → List (List ℕ) → Type 0
AddsNames old new paths = (d : ℕ) (name : List ℕ) (i : ℕ) → find_in new user d name ≡ Ok i → is_dots name ≡ false
    → (find_in old user d name ≡ Ok i) ⊎ Any (EndsIn new d name) paths

-- the paths of the directories on a path, given by its steps below another path (this project)
abbrev pub way_paths : List ℕ → List ℕ → List (List ℕ) → List (List ℕ)
way_paths base path [] = []
way_paths base path (step ∷ steps) = (base ++ (path ++ 47 ∷ step)) ∷ way_paths base (path ++ 47 ∷ step) steps

-- the paths that a member has made below another path: the directories on its path, and the path itself (this project)
abbrev pub made_paths : List ℕ → Member → List (List ℕ)
made_paths base member = way_paths base [] (way_of member.path) ++ below base member.path ∷ []

-- an archive can be read, and a tree has all its members, keeps the nodes of the old tree, and has no names but those of the old tree and of the
-- members' paths (POSIX, ustar interchange format)
unfoldable pub HasArchive : Tree → Tree → List ℕ → ℕ → Result (List Member) ArchiveFault → Type 0
HasArchive old tree base now (Ok all) = HasMembers old tree base now all × KeepsNodes old tree × AddsNames old tree (flat_map (made_paths base) all)
HasArchive old tree base now (Err fault) = ⊥
