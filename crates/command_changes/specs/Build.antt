-- The volume that `build` makes of a list, and the reasons why it makes none.
use Rattle.std.specs.Prelude.{◌≡◌, ◌⊎◌, ℕ, false, true, List, [], ◌∷◌, Option, None, Some, option_map}
use Rattle.vol_dir.specs.declared.refusal.Refusal.TheVariants as refusals
use Rattle.vol_layout.specs.Ids.{is_bad_id}
use Rattle.vol_mkfs.specs.Blank.{IsMade, blank_of}
use Rattle.vol_mkfs.specs.Mkfs.{is_size}
use Rattle.vol_mkfs.specs.declared.blank.NewVolume.{NewVolume}
use Rattle.vol_import.specs.MadeMembers.{HasArchive}
use Rattle.vol_import.specs.Make.{Imports, calls_to_make}
use Rattle.vol_import.specs.Members.{members as members_of}
use Rattle.vol_volume.specs.Volume.{reads_as}
use Rattle.vol_volume.specs.declared.calls.Call.{Call}
use Rattle.pack_lists.specs.Archive.{archive_bytes}
use Rattle.pack_lists.specs.declared.members.ListedMember.{ListedMember}
use Rattle.pack_lists.specs.declared.members.ListedOwner.{ListedOwner}
use Rattle.pack_lists.specs.declared.members.ListedVolume.{ListedVolume}
use Rattle.pack_lists.specs.declared.members.RootMarks.{RootMarks}
use Rattle.command_terms.specs.Permissions.{change_to}
use Rattle.command_faults.specs.ChangeFaults.{IsReason, Makes}
use Rattle.command_faults.specs.Faults.{no_memory}
use Rattle.command_faults.specs.Outcomes.{Outcomes, untraced}
use Rattle.command_faults.specs.declared.fault.Fault.{Fault}
use Rattle.command_faults.specs.declared.fault.Fault.TheVariants as faults
use Rattle.command_changes.specs.Boot.{IsBooted, IsUnbooted}
use Rattle.command_changes.specs.Chmod.{chmod_call}
use Rattle.command_changes.specs.Import.{IsUnimported}
use Rattle.command_changes.specs.declared.build.FilledList.{FilledList}

-- the members of a list, each with the bytes of its file (this project)
abbrev pub Members : Type 0
Members = List (ListedMember × List ℕ)

-- the program for the boot block of a list, if it has one, as contracts see it (this project)
abbrev pub program_of : FilledList → Option (List ℕ)
program_of list = option_map (λ program. program.items) list.boot

-- the user and the group that own the root of a new volume: those that a list says, else user 0 and group 0 (this project)
abbrev pub root_owner : Option RootMarks → ListedOwner
root_owner None = record { uid = 0; gid = 0 }
root_owner (Some root) = root.owner

-- the volume that `mkfs` makes for a list, with a root that belongs to this user and group (this project)
abbrev pub new_volume : ListedVolume → ListedOwner → NewVolume
new_volume volume owner = record {
  edition = volume.sizes.edition;
  blocks = volume.sizes.blocks;
  list_blocks = volume.sizes.list_blocks;
  uid = owner.uid;
  gid = owner.gid;
  now = volume.time;
}

-- the bytes are the volume that `mkfs` makes for a list, with the program that `boot` puts into it, if there is one (this project)
abbrev pub IsStarted : ListedVolume → ListedOwner → Option (List ℕ) → List ℕ → Type 0
IsStarted volume owner None bytes = IsMade (blank_of (new_volume volume owner)) bytes
IsStarted volume owner (Some program) bytes =
    (made : List ℕ) × IsMade (blank_of (new_volume volume owner)) made × IsBooted volume.sizes.edition program made bytes

-- the path of the root, without names: below it a path of a list begins with two slashes, of which messages leave out one (Lions on namei; this project)
abbrev pub root_path : List ℕ
root_path = []

-- the call of `chmod` that gives the root of a volume these permissions, at the time of its list (chmod)
abbrev pub root_calls : ListedVolume → ℕ → List ℕ → List Call
root_calls volume permissions started =
    chmod_call (reads_as volume.sizes.edition started).tree volume.time root_path (change_to permissions) ∷ []

-- the bytes are the volume of a list without its members: the one that `mkfs` makes and `boot` changes, after `chmod` gave its root the permissions that
-- the list says, if it says any (this project)
abbrev pub IsBegun : ListedVolume → Option RootMarks → Option (List ℕ) → List ℕ → Type 0
IsBegun volume None program bytes = IsStarted volume (root_owner None) program bytes
IsBegun volume (Some root) program bytes =
    (started : List ℕ) × IsStarted volume root.owner program started
    × Makes volume.sizes.edition started (root_calls volume root.permissions started) bytes

-- a volume has these bytes once the members of an archive were imported below its root at a time: all calls of the import were accepted, and the tree has
-- the members (this project)
abbrev pub Fills : ListedVolume → List ℕ → List ℕ → List ℕ → Type 0
Fills volume begun archive bytes =
    Imports volume.sizes.edition begun (calls_to_make (reads_as volume.sizes.edition begun).tree archive root_path volume.time) bytes
    × HasArchive (reads_as volume.sizes.edition begun).tree (reads_as volume.sizes.edition bytes).tree root_path volume.time (members_of archive)

-- the bytes are the volume of a list with its members: those of the archive of the list are imported into the volume without them (this project)
abbrev pub Builds : ListedVolume → Option RootMarks → Option (List ℕ) → Members → List ℕ → Type 0
Builds volume root program members bytes =
    (begun : List ℕ) × IsBegun volume root program begun × Fills volume begun (archive_bytes members) bytes

-- a reason not to make the volume of a list: no volume of the edition has these sizes; or its root can't belong to this user and group; or out of memory
-- (this project)
abbrev pub IsUnmade : ListedVolume → ListedOwner → Fault → Type 0
IsUnmade volume owner fault =
    ((is_size volume.sizes.edition volume.sizes.blocks volume.sizes.list_blocks ≡ false) × (fault ≡ faults.Bounds))
    ⊎ ((is_size volume.sizes.edition volume.sizes.blocks volume.sizes.list_blocks ≡ true)
    × (is_bad_id volume.sizes.edition owner.uid owner.gid ≡ true) × (fault ≡ faults.Refused refusals.BadId))
    ⊎ (fault ≡ no_memory)

-- a reason not to make the volume of a list and put its program into it: it isn't made; or it is, and the program isn't put into its boot block (this
-- project)
abbrev pub IsUnstarted : ListedVolume → ListedOwner → Option (List ℕ) → Fault → Type 0
IsUnstarted volume owner program fault =
    IsUnmade volume owner fault
    ⊎ ((wanted : List ℕ) × (made : List ℕ) × (program ≡ Some wanted) × IsMade (blank_of (new_volume volume owner)) made
    × IsUnbooted volume.sizes.edition wanted made fault)

-- a reason not to make the volume of a list without its members: it isn't made, or not with its program; or it is, and `chmod` doesn't give its root the
-- permissions that the list says (this project)
abbrev pub IsUnbegun : ListedVolume → Option RootMarks → Option (List ℕ) → Fault → Type 0
IsUnbegun volume root program fault =
    IsUnstarted volume (root_owner root) program fault
    ⊎ ((marks : RootMarks) × (started : List ℕ) × (root ≡ Some marks) × IsStarted volume marks.owner program started
    × IsReason volume.sizes.edition started (root_calls volume marks.permissions started) fault)

-- a reason not to build the volume of a list: it isn't made; or it is, and its members aren't imported (this project)
abbrev pub IsUnbuilt : ListedVolume → Option RootMarks → Option (List ℕ) → Members → Fault → Type 0
IsUnbuilt volume root program members fault =
    IsUnbegun volume root program fault
    ⊎ ((begun : List ℕ) × IsBegun volume root program begun × IsUnimported volume.sizes.edition begun
    (calls_to_make (reads_as volume.sizes.edition begun).tree (archive_bytes members) root_path volume.time) fault)

-- the outcomes of `build`: a volume to save, without a trace, or a reason not to build it (this project)
abbrev pub of_build : ListedVolume → Option RootMarks → Option (List ℕ) → Members → Outcomes
of_build volume root program members =
    record { saves = untraced (Builds volume root program members); lines = []; fails = IsUnbuilt volume root program members }
