-- The members of an archive that the options of an import choose.
use Rattle.std.specs.Prelude.{ℕ, ◌&&◌, Bool, true, false, if◌then◌else◌, List, [], ◌∷◌, ◌++◌, Option, None, Some, Result, Ok, Err}
use Rattle.ustar.specs.declared.header.MemberKind.TheVariants as members
use Rattle.ustar.specs.declared.read.TypeFlag.{TypeFlag}
use Rattle.ustar.specs.declared.read.TypeFlag.TheVariants as flags
use Rattle.vol_dir.specs.Tree.{Tree}
use Rattle.vol_dir.specs.declared.cred.Cred.{Cred}
use Rattle.vol_volume.specs.declared.calls.Call.{Call}
use Rattle.vol_import.specs.Make.{planned}
use Rattle.vol_import.specs.Members.{members as read_members}
use Rattle.vol_import.specs.Plan.{is_known, with_path}
use Rattle.vol_import.specs.declared.archive_members.Member.{Member}
use Rattle.vol_import.specs.declared.faults.ArchiveFault.{ArchiveFault}
use Rattle.vol_import.specs.declared.import_options.Chosen.{Chosen}
use Rattle.vol_import.specs.declared.import_options.ImportOptions.{ImportOptions}
use Rattle.vol_import.specs.declared.import_options.Sorting.{Sorting}
use Rattle.vol_import.specs.declared.make.ImportFault.{ImportFault}

-- the options that choose all members, each with its own owner (this project)
abbrev pub plain : ImportOptions
plain = record { skip_special = false; owner = None }

-- true if a member with this type flag is a special file: a character or block file, or a FIFO (POSIX, ustar interchange format)
abbrev pub is_special : TypeFlag → Bool
is_special (flags.Member members.Character) = true
is_special (flags.Member members.Block) = true
is_special (flags.Member members.File) = false
is_special (flags.Member members.Directory) = false
is_special (flags.Member members.Link) = false
is_special flags.Fifo = true
is_special flags.SymbolicLink = false
is_special flags.LongName = false
is_special flags.LongLink = false
is_special flags.Extended = false
is_special flags.Global = false
is_special flags.VolumeLabel = false
is_special (flags.Other c) = false

-- true if a member with this link path and type flag is a special file, or a link to one of these paths, which are those of the members left out
-- before it (this project)
abbrev pub is_skipped : List (List ℕ) → List ℕ → TypeFlag → Bool
is_skipped known link (flags.Member members.Link) = is_known known link
is_skipped known link flag = is_special flag

-- true if a member is left out, given the paths of the members left out before it (this project)
abbrev pub is_left_out : ImportOptions → List (List ℕ) → Member → Bool
is_left_out options known member = options.skip_special && is_skipped known member.link member.header.flag

-- a member with this owner, if there is one (POSIX, ustar interchange format)
abbrev pub owned_by : Option Cred → Member → Member
owned_by None member = member
owned_by (Some owner) member = record member { header = record member.header { uid = owner.uid; gid = owner.gid } }

-- sorted members: the paths of the members left out, both in the order of their bytes and in the order of the archive, and the other members (this
-- project)
abbrev pub Sorted : Type 0
Sorted = List (List ℕ) × List (List ℕ) × List Member

-- sorted members with one more: only its path if it is left out, else the member with its new owner (this project)
abbrev pub sorted_with : ImportOptions → Sorted → Member → Sorted
sorted_with options front member =
    if is_left_out options front.0 member then (with_path front.0 member.path, front.1 ++ member.path ∷ [], front.2)
    else (front.0, front.1, front.2 ++ owned_by options.owner member ∷ [])

-- sorted members with more members added in order (this project)
unfoldable pub sort_onto : ImportOptions → Sorted → List Member → Sorted
sort_onto options front [] = front
sort_onto options front (member ∷ rest) = sort_onto options (sorted_with options front member) rest

-- the members to make, and the paths of the members left out (this project)
abbrev pub parts_of : Sorted → List Member × List (List ℕ)
parts_of front = (front.2, front.1)

-- the members of an archive that the options choose, and the paths of the members left out, both in the archive's order (this project)
abbrev pub chosen : ImportOptions → List Member → List Member × List (List ℕ)
chosen options all = parts_of (sort_onto options ([], [], []) all)

-- the members of an archive that the options choose, if it can be read (this project)
abbrev pub chosen_members : ImportOptions → Result (List Member) ArchiveFault → Result (List Member) ArchiveFault
chosen_members options (Ok all) = Ok (chosen options all).0
chosen_members options (Err fault) = Err fault

-- the paths of the members of an archive that the options leave out, in the archive's order; none if it can't be read (this project)
abbrev pub left_out : ImportOptions → Result (List Member) ArchiveFault → List (List ℕ)
left_out options (Ok all) = (chosen options all).1
left_out options (Err fault) = []

-- the calls that make the members of an archive that the options choose, below a path of a tree, or the reason why there are none (this project)
unfoldable pub calls_with : ImportOptions → Tree → List ℕ → List ℕ → ℕ → Result (List Call) ImportFault
calls_with options tree archive base now = planned tree archive base now (chosen_members options (read_members archive))

-- the chosen members, and the paths of the members left out, as contracts see them (this project)
abbrev pub parted : Chosen → List Member × List (List ℕ)
parted parts = (parts.members.items, parts.left_out.items)

-- sorted members as contracts see them (this project)
abbrev pub sorted : Sorting → Sorted
sorted sorting = (sorting.known.keys, sorting.left_out.items, sorting.members.items)
