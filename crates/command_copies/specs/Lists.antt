-- A volume, read as the list of what it has.
use Rattle.std.specs.Prelude.{◌≡◌, ◌⊎◌, ◌&&◌, ◌==◌, ◌/◌, not, ℕ, Bool, true, false, if◌then◌else◌, List, [], ◌∷◌, ◌++◌, codes, map, Option, None, Some, option_map, Result, Ok, Err}
use Rattle.std.specs.List.{flat_map, list_all}
use Rattle.pdp_words.specs.Words.{block_of}
use Rattle.vol_layout.specs.Edition.{constants}
use Rattle.vol_layout.specs.Geometry.{geometry_of}
use Rattle.vol_layout.specs.Inode.{inode_of, permissions_of}
use Rattle.vol_layout.specs.declared.edition.Edition.{Edition}
use Rattle.vol_layout.specs.declared.edition.Edition.TheVariants.{V6, V7}
use Rattle.vol_layout.specs.declared.geometry.Geometry.{Geometry}
use Rattle.vol_layout.specs.declared.i_node.Inode.{Inode}
use Rattle.vol_judge.specs.Directories.{root_of}
use Rattle.vol_judge.specs.Sound.{IsSound}
use Rattle.vol_archive.specs.Walk.{IsWalk}
use Rattle.vol_archive.specs.declared.met_entries.MetEntry.{MetEntry}
use Rattle.vol_archive.specs.declared.met_entries.Role.{Role}
use Rattle.vol_archive.specs.declared.met_entries.Role.TheVariants as roles
use Rattle.pack_lists.specs.Words.{is_list_word}
use Rattle.pack_lists.specs.declared.members.ListedMember.{ListedMember}
use Rattle.pack_lists.specs.declared.members.ListedVolume.{ListedVolume}
use Rattle.pack_lists.specs.declared.members.RootMarks.{RootMarks}
use Rattle.command_faults.specs.Faults.{IsCause, fault_line, fault_status, no_memory}
use Rattle.command_faults.specs.declared.fault.Fault.{Fault}
use Rattle.command_copies.specs.Members.{entry_member, owner_of, time_of, unlisted}
use Rattle.command_copies.specs.Nodes.{CopiedNode, copied_as, node_at}
use Rattle.command_copies.specs.Trees.{nodes_of, uncopied_line}
use Rattle.command_copies.specs.declared.lists.VolumeListed.{VolumeListed}
use Rattle.command_copies.specs.declared.members.MemberFault.{MemberFault}
use Rattle.command_copies.specs.declared.nodes.Uncopied.{Uncopied}
use Rattle.command_copies.specs.declared.nodes.Uncopied.TheVariants.{Spaced}

-- the number of blocks of the i-list (filsys.h)
abbrev pub list_blocks : Geometry → ℕ
list_blocks g = g.last_inode / (constants g.edition).inodes_per_block

-- the sizes and the time of a volume (filsys.h)
abbrev pub volume_of : Geometry → List ℕ → ListedVolume
volume_of g image = record {
  sizes = record { edition = g.edition; blocks = g.zone_end; list_blocks = list_blocks g };
  time = time_of g image;
}

-- the permissions and the owner of the root, of its i-node (stat)
abbrev pub root_marks : Inode → RootMarks
root_marks node = record { permissions = permissions_of node.mode.bits; owner = owner_of node }

-- block 0, if its bytes aren't all zeros (manual section 5, file system)
abbrev pub program_of : List ℕ → Option (List ℕ)
program_of image = if list_all (λ byte. byte == 0) (block_of image 0) then None else Some (block_of image 0)

-- the path of the file with block 0 beside the list of this name, if block 0 is saved (this project)
abbrev pub boot_path : List ℕ → Option (List ℕ) → Option (List ℕ)
boot_path name None = None
boot_path name (Some program) = Some (name ++ codes ".boot")

-- true if an i-node is allocated and has blocks (manual section 5, file system)
abbrev pub has_blocks : Inode → Bool
has_blocks node = not (node.mode.bits == 0) && not (list_all (λ address. address == 0) node.addresses)

-- true if the bad-block file, i-node 1 of the seventh edition, has blocks (manual section 5, file system)
abbrev pub has_bad_in : Edition → List ℕ → Bool
has_bad_in V6 image = false
has_bad_in V7 image = has_blocks (inode_of V7 image 1)

-- true if a volume has bad blocks that its bad-block file keeps apart (manual section 5, file system)
abbrev pub has_bad_blocks : Geometry → List ℕ → Bool
has_bad_blocks g image = has_bad_in g.edition image

-- what is saved of an entry with this role: a directory, or a regular file, once (this project)
abbrev pub saved_as : Geometry → List ℕ → MetEntry → Role → List CopiedNode
saved_as g image found roles.File = nodes_of (node_at g image found.path found.inode)
saved_as g image found roles.Directory = nodes_of (node_at g image found.path found.inode)
saved_as g image found roles.Special = []
saved_as g image found (roles.Link k) = []
saved_as g image found (roles.Left reason) = []

-- what is saved of an entry that a walk from the root met (this project)
abbrev pub saved_nodes : Geometry → List ℕ → MetEntry → List CopiedNode
saved_nodes g image found = saved_as g image found found.role

-- what gives the member for an entry (this project)
abbrev pub Membership : Type 0
Membership = MetEntry → Result ListedMember MemberFault

-- these are the members for some entries: each entry has one (this project)
abbrev pub HasMembers : Membership → List MetEntry → List ListedMember → Type 0
HasMembers member founds members = map member founds ≡ map Ok members

-- the member for an entry was appended (this project)
abbrev pub AppendsMember : Membership → MetEntry → List ListedMember → List ListedMember → Type 0
AppendsMember member found old new = (one : ListedMember) × (member found ≡ Ok one) × (new ≡ old ++ one ∷ [])

-- this fault reports, with status 1, that a list has no place for what has this path, for this reason (this project)
abbrev pub IsUnlistedAt : List ℕ → Uncopied → Fault → Type 0
IsUnlistedAt path why fault = (fault_status fault ≡ 1) × (fault_line fault ≡ uncopied_line path why)

-- a list has no place for an entry, and the fault says why, with its path from the root (this project)
abbrev pub IsUnlistedEntry : Membership → MetEntry → Fault → Type 0
IsUnlistedEntry member found fault = (why : Uncopied) × (member found ≡ unlisted why) × IsUnlistedAt (47 ∷ found.path) why fault

-- the fault of an entry that has no member: out of memory, or why a list has no place for it (this project)
abbrev pub IsEntryFault : Membership → MetEntry → Fault → Type 0
IsEntryFault member found fault = (fault ≡ no_memory) ⊎ IsUnlistedEntry member found fault

-- this fault is that of the first of some entries that a list has no place for (this project)
pub record IsFirstUnlisted (member : Membership) (founds : List MetEntry) (fault : Fault) : Type 0 where
  pub front : List MetEntry
  pub found : MetEntry
  pub rest : List MetEntry
  pub are : founds ≡ front ++ found ∷ rest
  pub members : List ListedMember
  pub have : HasMembers member front members
  pub unlisted : IsUnlistedEntry member found fault

-- the fault of some entries that don't all have members: out of memory, or that of the first without one (this project)
abbrev pub IsUnlistedAmong : Membership → List MetEntry → Fault → Type 0
IsUnlistedAmong member founds fault = (fault ≡ no_memory) ⊎ IsFirstUnlisted member founds fault

-- a list can't have this name (this project)
abbrev pub IsNameless : List ℕ → Fault → Type 0
IsNameless name fault = (is_list_word name ≡ false) × IsUnlistedAt name Spaced fault

-- a list has no place for the volume's bad blocks (this project)
abbrev pub IsBad : Geometry → List ℕ → Fault → Type 0
IsBad g image fault = (has_bad_blocks g image ≡ true) × (fault_status fault ≡ 1)
    × (fault_line fault ≡ codes "unixvol: i-node 1 has bad blocks, which a list has no place for\n")

-- there is no list of this name of a volume, whatever its tree: out of memory, the list can't have this name, or the volume has bad blocks (this project)
abbrev pub IsUnlistable : Geometry → List ℕ → List ℕ → Fault → Type 0
IsUnlistable g image name fault =
    (fault ≡ no_memory) ⊎ (IsNameless name fault ⊎ ((is_list_word name ≡ true) × IsBad g image fault))

-- a list of this name has no place for an entry of the volume, and the fault is that of the first one (this project)
pub record IsUnlistedTree (g : Geometry) (image : List ℕ) (name : List ℕ) (fault : Fault) : Type 0 where
  pub named : is_list_word name ≡ true
  pub whole : has_bad_blocks g image ≡ false
  pub founds : List MetEntry
  pub walk : IsWalk g image (root_of g) founds
  pub first : IsFirstUnlisted (entry_member g image name founds) founds fault

-- there is no list of this name of a volume (this project)
abbrev pub IsUnread : Geometry → List ℕ → List ℕ → Fault → Type 0
IsUnread g image name fault = IsUnlistable g image name fault ⊎ IsUnlistedTree g image name fault

-- a volume is read as the list of this name: with its sizes, its time, block 0, the marks of its root, and a member for each entry of its tree; and so are
-- the directories and the bytes of the files to save beside it (this project)
pub record IsListOf (g : Geometry) (image : List ℕ) (name : List ℕ) (listed : VolumeListed) : Type 0 where
  pub named : is_list_word name ≡ true
  pub whole : has_bad_blocks g image ≡ false
  pub founds : List MetEntry
  pub walk : IsWalk g image (root_of g) founds
  pub volume : listed.list.volume ≡ volume_of g image
  pub root : listed.list.root ≡ Some (root_marks (inode_of g.edition image (root_of g)))
  pub members : HasMembers (entry_member g image name founds) founds listed.list.members.items
  pub nodes : map copied_as listed.nodes.items ≡ flat_map (saved_nodes g image) founds
  pub boot : option_map (λ bytes. bytes.items) listed.boot ≡ program_of image
  pub program : listed.list.boot ≡ boot_path name (program_of image)

-- the result of reading a volume as the list of this name: the list, of a sound image; or a fault: out of memory, the first rule that the image breaks, or why
-- a list has no place for what a sound image has (this project)
abbrev pub ListsVolume : Edition → List ℕ → List ℕ → Result VolumeListed Fault → Type 0
ListsVolume edition image name (Ok listed) = IsSound edition image × IsListOf (geometry_of edition image) image name listed
ListsVolume edition image name (Err fault) =
    IsCause edition image (λ refusal. ⊥) fault ⊎ (IsSound edition image × IsUnread (geometry_of edition image) image name fault)
