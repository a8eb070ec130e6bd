-- Statements of the laws about what `repair` and `build` save, and about `sync`.
use Rattle.std.specs.Prelude.{◌≡◌, ℕ, ◌%◌, All, Bool, List, [], Option, None, Some, Ok, map, string_bytes}
use Rattle.std.specs.List.{AllByRecursion}
use Rattle.vol_dir.specs.Access.{user}
use Rattle.vol_dir.specs.Tree.{Tree}
use Rattle.vol_batch.specs.Paths.{HasDirectory}
use Rattle.vol_volume.specs.Answer.{answer}
use Rattle.vol_volume.specs.declared.queries.Query.TheVariants as queries
use Rattle.vol_volume.specs.declared.queries.Reply.TheVariants as replies
use Rattle.vol_volume.specs.declared.queries.Stat.{Stat}
use Rattle.bad_maps.specs.declared.maps.ReadRange.{ReadRange}
use Rattle.vol_layout.specs.Geometry.{Fits, geometry_of}
use Rattle.vol_layout.specs.declared.edition.Edition.{Edition}
use Rattle.vol_losses.specs.BadImages.{HasRead, IsRescued}
use Rattle.vol_losses.specs.Losses.{IsWhole}
use Rattle.vol_losses.specs.declared.given_sizes.VolumeSizes.{VolumeSizes}
use Rattle.vol_repair.specs.Copies.{IsRepairedCopy, KeepsFileIn}
use Rattle.vol_repair.specs.Kept.{FitsFile}
use Rattle.vol_repair.specs.Text.{lines_text}
use Rattle.vol_repair.specs.declared.repair_line.RepairLine.{RepairLine}
use Rattle.pack_lists.specs.Laws.{IsListed, member_back}
use Rattle.pack_lists.specs.declared.members.ListedMember.{ListedMember}
use Rattle.pack_lists.specs.declared.members.ListedVolume.{ListedVolume}
use Rattle.pack_lists.specs.declared.members.RootMarks.{RootMarks}
use Rattle.vol_import.specs.MadeMembers.{HasArchive}
use Rattle.vol_volume.specs.Volume.{reads_as}
use Rattle.command_changes.specs.Build.{Builds, IsBegun, Members, root_path}
use Rattle.command_changes.specs.Repair.{IsRepairReported}
use Rattle.command_changes.specs.RepairLosses.{IsRescueReported}
use Rattle.command_changes.specs.Sync.{calls_to_sync, place_of}
use Rattle.command_changes.specs.declared.sync.Syncing.{Syncing}
use Rattle.command_changes.specs.declared.sync.TreeMember.{TreeMember}
use Rattle.command_changes.specs.declared.sync.TreeNode.{TreeNode}
use Rattle.command_changes.specs.declared.sync.TreeNode.TheVariants as nodes

-- what is saved is a repaired copy of the image, with at least `blocks` blocks, and the text is that of the lines which tell all that differs but the number
-- of blocks (this project)
abbrev pub ReportsCopy : Edition → ℕ → List ℕ → List ℕ → List ℕ → Type 0
ReportsCopy edition blocks old new text = (lines : List RepairLine) × IsRepairedCopy edition blocks old new lines × (text ≡ lines_text lines)

-- what `repair` saves is a repaired copy of the image that was read, however many blocks are asked for (this project's law)
abbrev pub RepairsAreCopies : Type 0
RepairsAreCopies = (edition : Edition) (blocks : ℕ) (old new text : List ℕ) → IsRepairReported edition blocks old new text
    → ReportsCopy edition blocks old new text

-- what `repair` saves of an image with lost blocks is a repaired copy of that image, with zeros in these blocks, however many blocks are asked for (this
-- project's law)
abbrev pub RescuesAreCopies : Type 0
RescuesAreCopies = (edition : Edition) (blocks : ℕ) (old new text losses : List ℕ) (lost : List Bool)
    → IsRescueReported edition blocks old lost new text losses → ReportsCopy edition blocks old new text

-- a file that fits and of which nothing is lost has in what `repair` saves the same i-node, but for its link count, and the same bytes as in every volume
-- that has the bytes of the known blocks, whatever the lost blocks held, and however many blocks are asked for (this project's law)
abbrev pub RescuedFilesAreRight : Type 0
RescuedFilesAreRight = (edition : Edition) (ranges : List ReadRange) (at : ℕ) (sizes : Option VolumeSizes) (bytes volume image : List ℕ) (lost : List Bool)
    (blocks : ℕ) (new text losses : List ℕ) (i : ℕ) → IsRescued edition ranges at sizes bytes image lost → HasRead sizes ranges at bytes volume
    → Fits (geometry_of edition image) image → IsRescueReported edition blocks image lost new text losses
    → FitsFile (geometry_of edition image) image i → IsWhole (geometry_of edition image) image lost i
    → KeepsFileIn (geometry_of edition image) (geometry_of edition new) volume new i

-- a Stat of the root returns the permissions that a list says, if it says any (stat)
abbrev pub HasRoot : Tree → Option RootMarks → Type 0
HasRoot tree None = Unit {0}
HasRoot tree (Some root) =
    (stat : Stat) × (answer tree (queries.Stat user root_path) ≡ Ok (replies.Stat stat)) × (stat.permissions ≡ root.permissions % 4096)

-- a volume was built of a list: it has each of the members, with the kind, permissions, owner, time, bytes, link and device that the list says, and all that
-- the volume without them had; and its root has the permissions that the list says (this project)
abbrev pub HasListed : ListedVolume → Option RootMarks → Option (List ℕ) → Members → List ℕ → Type 0
HasListed volume root program members bytes = (begun : List ℕ) × IsBegun volume root program begun
    × HasArchive (reads_as volume.sizes.edition begun).tree (reads_as volume.sizes.edition bytes).tree root_path volume.time (Ok (map member_back members))
    × HasRoot (reads_as volume.sizes.edition bytes).tree root

-- what `build` saves has the members of its list, and its root, if none of their paths has more than 100 bytes (this project's law)
abbrev pub VolumesHaveTheirLists : Type 0
VolumesHaveTheirLists = (volume : ListedVolume) (root : Option RootMarks) (program : Option (List ℕ)) (members : Members) (bytes : List ℕ)
    → All (λ (member : ListedMember × List ℕ). IsListed member.0) members → Builds volume root program members bytes
    → HasListed volume root program members bytes

-- what is to be at a path is there: a directory; or a file, of which a Read of all bytes returns these (stat, read)
abbrev pub IsThereAt : Tree → List ℕ → TreeNode → Type 0
IsThereAt tree path (nodes.Folder kept) = HasDirectory tree path
IsThereAt tree path (nodes.File file) = answer tree (queries.Read user path 0 4294967295) ≡ Ok (replies.Bytes file.bytes.items)

-- a member of a tree is in the volume (this project)
abbrev pub IsThere : Tree → Syncing → TreeMember → Type 0
IsThere tree syncing member = IsThereAt tree (place_of syncing.directory.now (string_bytes member.path)) member.node

-- if `sync` has no call to make, each folder is a directory of the volume, and each file has its bytes there (this project's law)
abbrev pub SameTreesAreThere : Type 0
SameTreesAreThere = (tree : Tree) (syncing : Syncing) (members : List TreeMember) → calls_to_sync tree syncing members ≡ Ok []
    → AllByRecursion (IsThere tree syncing) members
