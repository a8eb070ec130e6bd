-- The lines of members, of the volume, of its time, of its boot block and of its root.
use Rattle.std.specs.Prelude.{ℕ, List, [], ◌∷◌, Option, Result, Ok, codes}
use Rattle.std.specs.List.{find}
use Rattle.std.specs.Str.{bytes_eq}
use Rattle.disk_sizes.specs.Disks.{list_default}
use Rattle.pdp_words.specs.Steps.{and_then}
use Rattle.vol_layout.specs.declared.mode.DeviceId.{DeviceId}
use Rattle.vol_layout.specs.declared.mode.DeviceKind.{DeviceKind}
use Rattle.vol_layout.specs.declared.mode.DeviceKind.TheVariants as devices
use Rattle.pack_lists.specs.Words.{blocks_in, byte_in, edition_in, ended, file_in, last_or, long_in, owner_in, path_in, permissions_in, short_in, taken}
use Rattle.pack_lists.specs.declared.faults.LineFault.{LineFault}
use Rattle.pack_lists.specs.declared.faults.ListWord.TheVariants as forms
use Rattle.pack_lists.specs.declared.member_lines.MemberKind.{MemberKind}
use Rattle.pack_lists.specs.declared.member_lines.MemberKind.TheVariants as kinds
use Rattle.pack_lists.specs.declared.members.ListedMember.{ListedMember}
use Rattle.pack_lists.specs.declared.members.ListedMember.TheVariants as members
use Rattle.pack_lists.specs.declared.members.ListedOwner.{ListedOwner}
use Rattle.pack_lists.specs.declared.members.NodeMarks.{NodeMarks}
use Rattle.pack_lists.specs.declared.members.RootMarks.{RootMarks}
use Rattle.pack_lists.specs.declared.members.VolumeSizes.{VolumeSizes}

-- the sizes after `volume`: `EDITION FSIZE [IBLOCKS]`; the default of IBLOCKS is that of mkfs (this project)
abbrev pub sizes_in : List (List ℕ) → Result VolumeSizes LineFault
sizes_in words =
    and_then (taken forms.Edition edition_in words) (λ edition.
    and_then (taken forms.Blocks blocks_in edition.1) (λ blocks.
    and_then (last_or forms.ListBlocks short_in (list_default edition.0 blocks.0) blocks.1) (λ list_blocks.
    Ok (record { edition = edition.0; blocks = blocks.0; list_blocks = list_blocks }))))

-- the time after `time`: `SECONDS` (this project)
abbrev pub time_in : List (List ℕ) → Result ℕ LineFault
time_in words = and_then (taken forms.Seconds long_in words) (λ time. ended time.0 time.1)

-- the path of a file after `boot`: `FILE` (this project)
abbrev pub boot_in : List (List ℕ) → Result (List ℕ) LineFault
boot_in words = and_then (taken forms.File file_in words) (λ file. ended file.0 file.1)

-- the marks of a root (this project)
abbrev pub root_of : ℕ → ListedOwner → RootMarks
root_of permissions owner = record { permissions = permissions; owner = owner }

-- the marks of a root after `root`: `PERM UID:GID` (this project)
abbrev pub root_in : List (List ℕ) → Result RootMarks LineFault
root_in words =
    and_then (taken forms.Permissions permissions_in words) (λ permissions.
    and_then (taken forms.Owner owner_in permissions.1) (λ owner.
    ended (root_of permissions.0 owner.0) owner.1))

-- the word for a kind of member (this project)
abbrev pub kind_word : MemberKind → List ℕ
kind_word kinds.Directory = codes "dir"
kind_word kinds.File = codes "file"
kind_word kinds.Link = codes "link"
kind_word kinds.Character = codes "char"
kind_word kinds.Block = codes "block"

-- the kind of member with a word (this project)
abbrev pub kind_named : List ℕ → Option MemberKind
kind_named word =
    find (λ kind. bytes_eq (kind_word kind) word) (kinds.Directory ∷ kinds.File ∷ kinds.Link ∷ kinds.Character ∷ kinds.Block ∷ [])

-- the marks of a node (this project)
abbrev pub marks_of : ℕ → ListedOwner → ℕ → NodeMarks
marks_of permissions owner modified = record { permissions = permissions; owner = owner; modified = modified }

-- the path, permissions and owner that a line begins with, and the words after them: `PATH PERM UID:GID` (this project)
abbrev pub start_in : List (List ℕ) → Result (List ℕ × ℕ × ListedOwner × List (List ℕ)) LineFault
start_in words =
    and_then (taken forms.Path path_in words) (λ path.
    and_then (taken forms.Permissions permissions_in path.1) (λ permissions.
    and_then (taken forms.Owner owner_in permissions.1) (λ owner.
    Ok (path.0, permissions.0, owner.0, owner.1))))

-- the directory after `dir`: `PATH PERM UID:GID [SECONDS]` (this project)
abbrev pub directory_in : ℕ → List (List ℕ) → Result ListedMember LineFault
directory_in time words =
    and_then (start_in words) (λ start.
    and_then (last_or forms.Seconds long_in time start.3) (λ modified.
    Ok (members.Directory start.0 (marks_of start.1 start.2 modified))))

-- the file after `file`: `PATH PERM UID:GID FILE [SECONDS]` (this project)
abbrev pub file_member_in : ℕ → List (List ℕ) → Result ListedMember LineFault
file_member_in time words =
    and_then (start_in words) (λ start.
    and_then (taken forms.File file_in start.3) (λ file.
    and_then (last_or forms.Seconds long_in time file.1) (λ modified.
    Ok (members.File start.0 (marks_of start.1 start.2 modified) file.0))))

-- the link after `link`: `PATH TARGET` (this project)
abbrev pub link_in : ℕ → List (List ℕ) → Result ListedMember LineFault
link_in time words =
    and_then (taken forms.Path path_in words) (λ path.
    and_then (taken forms.Path path_in path.1) (λ target.
    and_then (ended target.0 target.1) (λ target.
    Ok (members.Link path.0 target time))))

-- a device of this kind (this project)
abbrev pub device_of : DeviceKind → ℕ → ℕ → DeviceId
device_of kind major minor = record { kind = kind; major = major; minor = minor }

-- the special file after `char` or `block`: `PATH PERM UID:GID MAJOR MINOR [SECONDS]` (this project)
abbrev pub device_in : DeviceKind → ℕ → List (List ℕ) → Result ListedMember LineFault
device_in kind time words =
    and_then (start_in words) (λ start.
    and_then (taken forms.DeviceNumber byte_in start.3) (λ major.
    and_then (taken forms.DeviceNumber byte_in major.1) (λ minor.
    and_then (last_or forms.Seconds long_in time minor.1) (λ modified.
    Ok (members.Device start.0 (marks_of start.1 start.2 modified) (device_of kind major.0 minor.0))))))

-- the member after a word of this kind, at a time if the line gives none (this project)
abbrev pub member_in : MemberKind → ℕ → List (List ℕ) → Result ListedMember LineFault
member_in kinds.Directory time words = directory_in time words
member_in kinds.File time words = file_member_in time words
member_in kinds.Link time words = link_in time words
member_in kinds.Character time words = device_in devices.Character time words
member_in kinds.Block time words = device_in devices.Block time words
