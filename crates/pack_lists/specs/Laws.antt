-- Statements of the laws about the archives and the texts of lists.
use Rattle.std.specs.Prelude.{◌≡◌, ℕ, ◌<◌, ◌≤◌, All, List, length, map, true, Ok, Option, None, Some}
use Rattle.std.specs.List.{AllByRecursion}
use Rattle.std.specs.Str.{is_utf8}
use Rattle.ustar.specs.Laws.{IsBytes}
use Rattle.vol_import.specs.Members.{members as members_of}
use Rattle.vol_import.specs.WrittenMembers.{header_back}
use Rattle.vol_import.specs.declared.archive_members.Member.{Member}
use Rattle.pack_lists.specs.Archive.{archive_bytes, content_of, header_of, link_of, path_of}
use Rattle.pack_lists.specs.Lists.{Listed, list_in}
use Rattle.pack_lists.specs.Paths.{is_path}
use Rattle.pack_lists.specs.Texts.{list_text}
use Rattle.pack_lists.specs.Words.{is_list_word}
use Rattle.pack_lists.specs.declared.members.ListedMember.{ListedMember}
use Rattle.pack_lists.specs.declared.members.ListedMember.TheVariants as members
use Rattle.pack_lists.specs.declared.members.ListedOwner.{ListedOwner}
use Rattle.pack_lists.specs.declared.members.ListedVolume.{ListedVolume}
use Rattle.pack_lists.specs.declared.members.NodeMarks.{NodeMarks}
use Rattle.pack_lists.specs.declared.members.RootMarks.{RootMarks}

-- a list of bytes is a path of a list that fits a header's name (this project)
pub record IsListedPath (bytes : List ℕ) : Type 0 where
  pub path : is_path bytes ≡ true
  pub small : IsBytes bytes
  pub short : length bytes ≤ 100

-- permissions, owner and time are numbers of 16, 16, 16 and 32 bits (this project)
pub record AreMarks (marks : NodeMarks) : Type 0 where
  pub permissions : marks.permissions < 65536
  pub uid : marks.owner.uid < 65536
  pub gid : marks.owner.gid < 65536
  pub modified : marks.modified < 4294967296

-- the values of a member are those that a program can hold: its paths have the form of a list's, and its numbers the bits of their types; and no path has
-- more than 100 bytes (this project)
abbrev pub IsListed : ListedMember → Type 0
IsListed (members.Directory path marks) = IsListedPath path × AreMarks marks
IsListed (members.File path marks file) = IsListedPath path × AreMarks marks
IsListed (members.Device path marks device) = IsListedPath path × AreMarks marks × (device.major < 256) × (device.minor < 256)
IsListed (members.Link path target modified) = IsListedPath path × IsListedPath target × (modified < 4294967296)

-- the member that an import reads for a member of a list: with its kind, permissions, owner, time, path, the path that it links to, the number of its
-- device, and its bytes (this project)
abbrev pub member_back : ListedMember × List ℕ → Member
member_back (member, content) = record {
  header = header_back (header_of member (length (content_of member content)));
  path = path_of member;
  link = link_of member;
  content = content_of member content;
}

-- the archive of the members of a list, none of whose paths has more than 100 bytes, is read by an import as these members, in their order (this
-- project's law)
abbrev pub ListsAreReadBack : Type 0
ListsAreReadBack = (all : List (ListedMember × List ℕ)) → All (λ (member : ListedMember × List ℕ). IsListed member.0) all
    → members_of (archive_bytes all) ≡ Ok (map member_back all)

-- a path in a volume that is a word of a list (this project)
pub record IsPathWord (bytes : List ℕ) : Type 0 where
  pub path : is_path bytes ≡ true
  pub word : is_list_word bytes ≡ true

-- the path of a file outside the volume, in UTF-8, that is a word of a list (this project)
pub record IsFileWord (file : List ℕ) : Type 0 where
  pub utf8 : is_utf8 file ≡ true
  pub word : is_list_word file ≡ true

-- permissions are an octal number of at most 7777, and a user and a group are numbers of 16 bits (this project)
pub record AreOwned (bits : ℕ) (owner : ListedOwner) : Type 0 where
  pub permissions : bits < 4096
  pub uid : owner.uid < 65536
  pub gid : owner.gid < 65536

-- the values of a member can stand in a line of a list with this time: its paths are words, its numbers have the bits of their types, and a link has the time
-- of the list (this project)
abbrev pub IsWritable : ℕ → ListedMember → Type 0
IsWritable time (members.Directory path marks) = IsPathWord path × AreOwned marks.permissions marks.owner × (marks.modified < 4294967296)
IsWritable time (members.File path marks file) =
    IsPathWord path × AreOwned marks.permissions marks.owner × (marks.modified < 4294967296) × IsFileWord file
IsWritable time (members.Device path marks device) =
    IsPathWord path × AreOwned marks.permissions marks.owner × (marks.modified < 4294967296) × (device.major < 256) × (device.minor < 256)
IsWritable time (members.Link path target modified) = IsPathWord path × IsPathWord target × (modified ≡ time)

-- the sizes and the time of a volume are numbers of 32, 16 and 32 bits (this project)
pub record IsWritableVolume (volume : ListedVolume) : Type 0 where
  pub blocks : volume.sizes.blocks < 4294967296
  pub list_blocks : volume.sizes.list_blocks < 65536
  pub time : volume.time < 4294967296

-- the file of a boot block, if there is one, can stand in a list (this project)
abbrev pub IsWritableBoot : Option (List ℕ) → Type 0
IsWritableBoot None = Unit {0}
IsWritableBoot (Some file) = IsFileWord file

-- the marks of a root, if there are some, can stand in a list (this project)
abbrev pub IsWritableRoot : Option RootMarks → Type 0
IsWritableRoot None = Unit {0}
IsWritableRoot (Some root) = AreOwned root.permissions root.owner

-- the values of a list are those that a program can hold, and its paths are words (this project)
abbrev pub IsWritableList : Listed → Type 0
IsWritableList (volume, boot, root, all) =
    IsWritableVolume volume × IsWritableBoot boot × IsWritableRoot root × AllByRecursion (IsWritable volume.time) all

-- a list is read from its text as it was written (this project's law)
abbrev pub ListsReadAsWritten : Type 0
ListsReadAsWritten = (list : Listed) → IsWritableList list → list_in (list_text list) ≡ Ok list
