-- The lines about an image with lost blocks.
use Rattle.std.specs.Prelude.{◌≡◌, ℕ, ◌+◌, ◌-◌, ◌*◌, ◌==◌, ◌||◌, not, Bool, if◌then◌else◌, List, [], ◌∷◌, ◌++◌, length, codes, decimal, Option, None, Some}
use Rattle.std.specs.List.{count_by, flat_map, range_with_len}
use Rattle.escaped_text.specs.Escape.{escaped}
use Rattle.vol_layout.specs.Edition.{constants}
use Rattle.vol_layout.specs.declared.edition.Edition.{Edition}
use Rattle.vol_layout.specs.declared.geometry.Geometry.{Geometry}
use Rattle.vol_losses.specs.Losses.{is_lost}
use Rattle.vol_losses.specs.LossTexts.{IsLossText}
use Rattle.vol_archive.specs.declared.met_entries.MetEntry.{MetEntry}
use Rattle.vol_archive.specs.declared.met_entries.Role.{Role}
use Rattle.vol_archive.specs.declared.met_entries.Role.TheVariants as roles
use Rattle.vol_archive.specs.declared.met_entries.Reason.{Reason}
use Rattle.vol_archive.specs.declared.met_entries.Reason.TheVariants as reasons
use Rattle.vol_rescue.specs.Damage.{damage_of}
use Rattle.vol_rescue.specs.declared.damage.Damage.{Damage}
use Rattle.vol_rescue.specs.declared.damage.Damage.TheVariants as damages

-- the line that names the number of lost blocks (this project)
unfoldable pub blocks_line : List Bool → List ℕ
blocks_line lost = codes "unixvol: " ++ (decimal (count_by (λ mark. mark) lost) ++ (codes " of " ++ (decimal (length lost) ++ codes " blocks are lost\n")))

-- the line of block b of the i-list, counted from 0 (this project)
unfoldable pub inodes_line : Edition → ℕ → List ℕ
inodes_line edition b =
    codes "unixvol: i-nodes "
    ++ (decimal ((constants edition).inodes_per_block * b + 1)
    ++ (codes " to " ++ (decimal ((constants edition).inodes_per_block * b + (constants edition).inodes_per_block) ++ codes " are lost\n")))

-- the line of block b of the i-list, if it is lost (this project)
abbrev pub lost_inodes_line : Geometry → List Bool → ℕ → List ℕ
lost_inodes_line geometry lost b = if is_lost lost (b + 2) then inodes_line geometry.edition b else []

-- the lines of the lost blocks of the i-list (this project)
abbrev pub inode_lines : Geometry → List Bool → List ℕ
inode_lines geometry lost = flat_map (lost_inodes_line geometry lost) (range_with_len 0 (geometry.zone_start - 2))

-- a line about a path (this project)
unfoldable pub named_line : List ℕ → List ℕ → List ℕ → List ℕ
named_line path between text = codes "unixvol: " ++ escaped path ++ between ++ text ++ codes "\n"

-- the words for an i-node that is lost (this project)
unfoldable pub inode_text : ℕ → List ℕ
inode_text i = codes "i-node " ++ (decimal i ++ codes " is lost")

-- the reason for leaving out an entry, in plain words (this project)
abbrev pub reason_text : Reason → List ℕ
reason_text reasons.NoNode = codes "no i-node"
reason_text reasons.OddNode = codes "an i-node of no known kind"
reason_text reasons.Again = codes "a directory that was met before"
reason_text reasons.LongPath = codes "a path above 4096 bytes"
reason_text reasons.BadName = codes "the name is empty or has a slash"

-- the line of an entry with this path and role, if it is left out (this project)
abbrev pub role_line : List ℕ → Role → List ℕ
role_line path (roles.Left reason) = named_line path (codes ": ") (reason_text reason)
role_line path roles.File = []
role_line path roles.Directory = []
role_line path roles.Special = []
role_line path (roles.Link k) = []

-- the line that names the lost bytes of an entry (this project)
abbrev pub NamesLosses : Geometry → List ℕ → List Bool → MetEntry → List ℕ → List ℕ → Type 0
NamesLosses geometry image lost found between line =
    (text : List ℕ) × IsLossText geometry image lost found.inode text × (line ≡ named_line found.path between text)

-- the line of an entry with this damage, or without any (this project)
abbrev pub IsDamageLine : Geometry → List ℕ → List Bool → MetEntry → List ℕ → Option Damage → Type 0
IsDamageLine geometry image lost found line None = line ≡ role_line found.path found.role
IsDamageLine geometry image lost found line (Some damages.Inode) = line ≡ named_line found.path (codes ": ") (inode_text found.inode)
IsDamageLine geometry image lost found line (Some damages.Bytes) = NamesLosses geometry image lost found (codes ": ") line
IsDamageLine geometry image lost found line (Some damages.Names) = NamesLosses geometry image lost found (codes ": names may be missing: ") line

-- the line of an entry, if it is damaged or left out (this project)
abbrev pub IsEntryLine : Geometry → List ℕ → List Bool → MetEntry → List ℕ → Type 0
IsEntryLine geometry image lost found line = IsDamageLine geometry image lost found line (damage_of geometry image lost found)

-- the line of an entry was added, if it is damaged or left out (this project)
abbrev pub AddsEntry : Geometry → List ℕ → List Bool → MetEntry → List ℕ → List ℕ → Type 0
AddsEntry geometry image lost found old new = (line : List ℕ) × IsEntryLine geometry image lost found line × (new ≡ old ++ line)

-- the lines of the entries that are damaged or left out, in the order of the walk (this project)
pub data AreEntryLines (geometry : Geometry) (image : List ℕ) (lost : List Bool) : List MetEntry → List ℕ → Type 0 where
  none : AreEntryLines geometry image lost [] []
  more : (founds : List MetEntry) (lines : List ℕ) (found : MetEntry) (line : List ℕ) → AreEntryLines geometry image lost founds lines
      → IsEntryLine geometry image lost found line → AreEntryLines geometry image lost (founds ++ found ∷ []) (lines ++ line)

-- the directory at which a walk began, as an entry (this project)
abbrev pub top_entry : ℕ → MetEntry
top_entry start = record { path = codes "."; inode = start; role = roles.Directory }

-- all lines about an image with lost blocks, and whether something is damaged or left out (this project)
abbrev pub TellsLosses : Geometry → List ℕ → List Bool → ℕ → List MetEntry → List ℕ → Bool → Type 0
TellsLosses geometry image lost start founds lines short =
    (top : List ℕ) × (entries : List ℕ) × IsEntryLine geometry image lost (top_entry start) top × AreEntryLines geometry image lost founds entries
    × (short ≡ not (length (inode_lines geometry lost) == 0) || (not (length top == 0) || not (length entries == 0)))
    × (lines ≡ blocks_line lost ++ (inode_lines geometry lost ++ (top ++ entries)))

-- all lines about some entries of an image with lost blocks, and whether one of them is damaged or left out (this project)
abbrev pub TellsNamed : Geometry → List ℕ → List Bool → List MetEntry → List ℕ → Bool → Type 0
TellsNamed geometry image lost founds lines short =
    (entries : List ℕ) × AreEntryLines geometry image lost founds entries × (short ≡ not (length entries == 0)) × (lines ≡ blocks_line lost ++ entries)
