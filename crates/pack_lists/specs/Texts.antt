-- The texts of lists.
use Rattle.std.specs.Prelude.{ℕ, ◌++◌, false, List, [], ◌∷◌, Option, None, Some, codes, decimal}
use Rattle.std.specs.Fmt.{digits}
use Rattle.std.specs.List.{flat_map}
use Rattle.vol_layout.specs.declared.edition.Edition.{Edition}
use Rattle.vol_layout.specs.declared.edition.Edition.TheVariants as editions
use Rattle.vol_layout.specs.declared.mode.DeviceKind.{DeviceKind}
use Rattle.vol_layout.specs.declared.mode.DeviceKind.TheVariants as devices
use Rattle.pack_lists.specs.Lists.{Listed}
use Rattle.pack_lists.specs.MemberLines.{kind_word}
use Rattle.pack_lists.specs.declared.member_lines.MemberKind.{MemberKind}
use Rattle.pack_lists.specs.declared.member_lines.MemberKind.TheVariants as kinds
use Rattle.pack_lists.specs.declared.members.ListedMember.{ListedMember}
use Rattle.pack_lists.specs.declared.members.ListedMember.TheVariants as members
use Rattle.pack_lists.specs.declared.members.ListedOwner.{ListedOwner}
use Rattle.pack_lists.specs.declared.members.RootMarks.{RootMarks}
use Rattle.pack_lists.specs.declared.members.VolumeSizes.{VolumeSizes}

-- a line: its first word, the other words with a space before each, and a newline (this project)
unfoldable pub line_text : List ℕ → List (List ℕ) → List ℕ
line_text name words = name ++ flat_map (λ word. 32 ∷ word) words ++ codes "\n"

-- the word for an edition (this project)
abbrev pub edition_word : Edition → List ℕ
edition_word editions.V6 = codes "6"
edition_word editions.V7 = codes "7"

-- permissions in octal digits (this project)
abbrev pub permissions_word : ℕ → List ℕ
permissions_word permissions = digits 8 false permissions

-- a user and a group, with a colon between them (this project)
abbrev pub owner_word : ListedOwner → List ℕ
owner_word owner = decimal owner.uid ++ (codes ":" ++ decimal owner.gid)

-- the line of the sizes of a volume (this project)
abbrev pub sizes_text : VolumeSizes → List ℕ
sizes_text sizes = line_text (codes "volume") (edition_word sizes.edition ∷ decimal sizes.blocks ∷ decimal sizes.list_blocks ∷ [])

-- the line of the time (this project)
abbrev pub time_text : ℕ → List ℕ
time_text time = line_text (codes "time") (decimal time ∷ [])

-- the line of the file with the boot block, if there is one (this project)
abbrev pub boot_text : Option (List ℕ) → List ℕ
boot_text None = []
boot_text (Some file) = line_text (codes "boot") (file ∷ [])

-- the line of the marks of the root, if there are some (this project)
abbrev pub root_text : Option RootMarks → List ℕ
root_text None = []
root_text (Some root) = line_text (codes "root") (permissions_word root.permissions ∷ owner_word root.owner ∷ [])

-- the kind of a special file (this project)
abbrev pub device_line : DeviceKind → MemberKind
device_line devices.Character = kinds.Character
device_line devices.Block = kinds.Block

-- the kind of a member (this project)
abbrev pub line_of : ListedMember → MemberKind
line_of (members.Directory path marks) = kinds.Directory
line_of (members.File path marks file) = kinds.File
line_of (members.Device path marks device) = device_line device.kind
line_of (members.Link path target modified) = kinds.Link

-- the words of a member after the first, with its own time; a link has none (this project)
abbrev pub member_words : ListedMember → List (List ℕ)
member_words (members.Directory path marks) = path ∷ permissions_word marks.permissions ∷ owner_word marks.owner ∷ decimal marks.modified ∷ []
member_words (members.File path marks file) =
    path ∷ permissions_word marks.permissions ∷ owner_word marks.owner ∷ file ∷ decimal marks.modified ∷ []
member_words (members.Device path marks device) =
    path ∷ permissions_word marks.permissions ∷ owner_word marks.owner ∷ decimal device.major ∷ decimal device.minor ∷ decimal marks.modified ∷ []
member_words (members.Link path target modified) = path ∷ target ∷ []

-- the line of a member (this project)
abbrev pub member_text : ListedMember → List ℕ
member_text member = line_text (kind_word (line_of member)) (member_words member)

-- the text of a list, a line for each thing that it has: the sizes of the volume, its time, the file with its boot block, the marks of its root, and the
-- members in their order (this project)
unfoldable pub list_text : Listed → List ℕ
list_text (volume, boot, root, members) =
    sizes_text volume.sizes ++ time_text volume.time ++ boot_text boot ++ root_text root ++ flat_map member_text members
