-- The lines about a repaired image with lost blocks: what is lost of the image, by the paths in its copy.
use Rattle.std.specs.Prelude.{ℕ, ◌+◌, ◌==◌, ◌&&◌, ◌||◌, Bool, if◌then◌else◌, List, [], ◌∷◌, ◌++◌, codes, decimal}
use Rattle.std.specs.List.{flat_map, list_any, range_with_len}
use Rattle.vol_layout.specs.declared.geometry.Geometry.{Geometry}
use Rattle.vol_losses.specs.Losses.{is_lost, node_block}
use Rattle.vol_archive.specs.Walk.{IsWalk, is_first}
use Rattle.vol_archive.specs.declared.met_entries.MetEntry.{MetEntry}
use Rattle.vol_archive.specs.declared.met_entries.Role.TheVariants as roles
use Rattle.vol_rescue.specs.Lines.{TellsLosses}

-- true if a visited entry is the first member for i-number i (this project)
abbrev pub is_member_of : ℕ → MetEntry → Bool
is_member_of i found = (found.inode == i) && is_first found.role

-- the entry of an i-node by its number, for an i-node to which no path leads (this project)
unfoldable pub numbered_entry : ℕ → MetEntry
numbered_entry i = record { path = codes "i-node " ++ decimal i; inode = i; role = roles.File }

-- the entry of i-node i by its number, unless a visited entry is a member for it, or it is `start`, or its block is lost (this project)
abbrev pub other_entry : Geometry → List Bool → ℕ → List MetEntry → ℕ → List MetEntry
other_entry geometry lost start founds i =
    if (i == start) || (list_any (is_member_of i) founds || is_lost lost (node_block geometry.edition i)) then [] else numbered_entry i ∷ []

-- the same for the i-node after i-number `before` (this project)
abbrev pub entry_after : Geometry → List Bool → ℕ → List MetEntry → ℕ → List MetEntry
entry_after geometry lost start founds before = other_entry geometry lost start founds (before + 1)

-- the entries of the i-nodes that aren't visited, by their numbers (this project)
abbrev pub other_entries : Geometry → List Bool → ℕ → List MetEntry → List MetEntry
other_entries geometry lost start founds = flat_map (entry_after geometry lost start founds) (range_with_len 0 geometry.last_inode)

-- the lines about what is lost of an image that was repaired to a copy: the number of the lost blocks, the lost i-nodes, and a line for each other i-node of
-- which something is lost in the image, by its paths below `start` in the copy, or by its number if it has none (this project)
abbrev pub TellsRepaired : Geometry → List ℕ → List Bool → List ℕ → ℕ → List ℕ → Type 0
TellsRepaired geometry old lost new start lines =
    (founds : List MetEntry) × (short : Bool) × IsWalk geometry new start founds
    × TellsLosses geometry old lost start (founds ++ other_entries geometry lost start founds) lines short
