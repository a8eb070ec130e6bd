-- The damage of the entries that were visited in an image with lost blocks, and the entries that are kept.
use Rattle.std.specs.Prelude.{ℕ, not, Bool, true, false, if◌then◌else◌, List, [], ◌∷◌, map, Option, None, Some}
use Rattle.vol_dir.specs.Tree.{is_number}
use Rattle.vol_layout.specs.declared.geometry.Geometry.{Geometry}
use Rattle.vol_losses.specs.Losses.{is_lost, is_whole, node_block}
use Rattle.vol_archive.specs.declared.met_entries.MetEntry.{MetEntry}
use Rattle.vol_archive.specs.declared.met_entries.Role.{Role}
use Rattle.vol_archive.specs.declared.met_entries.Role.TheVariants as roles
use Rattle.vol_archive.specs.declared.met_entries.Reason.TheVariants as reasons
use Rattle.vol_rescue.specs.declared.damage.Damage.{Damage}
use Rattle.vol_rescue.specs.declared.damage.Damage.TheVariants as damages

-- the damage of an entry with this role, whose i-node isn't lost but bytes of its file are (this project)
abbrev pub content_damage : Role → Option Damage
content_damage roles.File = Some damages.Bytes
content_damage roles.Special = Some damages.Bytes
content_damage (roles.Link k) = Some damages.Bytes
content_damage roles.Directory = Some damages.Names
content_damage (roles.Left reason) = None

-- the damage of an entry for an i-node of the volume (this project)
abbrev pub number_damage : Geometry → List ℕ → List Bool → MetEntry → Option Damage
number_damage geometry image lost found =
    if is_lost lost (node_block geometry.edition found.inode) then Some damages.Inode
    else if is_whole geometry image lost found.inode then None else content_damage found.role

-- the damage of an entry (this project)
abbrev pub damage_of : Geometry → List ℕ → List Bool → MetEntry → Option Damage
damage_of geometry image lost found = if is_number geometry found.inode then number_damage geometry image lost found else None

-- true if an entry with this damage is left out; with `damaged`, only one whose i-node is lost (this project)
abbrev pub is_left_out : Bool → Option Damage → Bool
is_left_out damaged None = false
is_left_out damaged (Some damages.Inode) = true
is_left_out damaged (Some damages.Bytes) = not damaged
is_left_out damaged (Some damages.Names) = false

-- an entry with this damage, which is left out if it is to be (this project)
abbrev pub kept_entry : Bool → Option Damage → MetEntry → MetEntry
kept_entry damaged damage found =
    record { path = found.path; inode = found.inode; role = if is_left_out damaged damage then roles.Left reasons.NoNode else found.role }

-- a visited entry, left out if its damage is a reason (this project)
abbrev pub marked : Geometry → List ℕ → List Bool → Bool → MetEntry → MetEntry
marked geometry image lost damaged found = kept_entry damaged (damage_of geometry image lost found) found

-- the visited entries, without those that are damaged (this project)
abbrev pub kept_entries : Geometry → List ℕ → List Bool → Bool → List MetEntry → List MetEntry
kept_entries geometry image [] damaged founds = founds
kept_entries geometry image (mark ∷ lost) damaged founds = map (marked geometry image (mark ∷ lost) damaged) founds
