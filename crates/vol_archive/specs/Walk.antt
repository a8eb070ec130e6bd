-- The entries visited below a directory, and their roles in an archive.
use Rattle.std.specs.Prelude.{ℕ, ◌==◌, ◌&&◌, ◌||◌, Bool, true, false, not, nat_le, if◌then◌else◌, List, [], ◌∷◌, ◌++◌, length, map, Option, None, Some, codes, decimal}
use Rattle.std.specs.List.{list_any, flat_map, position}
use Rattle.std.specs.Option.{is_some}
use Rattle.std.specs.Str.{bytes_eq}
use Rattle.vol_file.specs.Rules.{kind_at}
use Rattle.vol_dir.specs.Entries.{slots}
use Rattle.vol_dir.specs.Names.{Names, names_of, is_dots}
use Rattle.vol_dir.specs.Tree.{is_number}
use Rattle.vol_dir.specs.Walk.{is_nil, is_plain}
use Rattle.vol_layout.specs.declared.geometry.Geometry.{Geometry}
use Rattle.vol_layout.specs.declared.mode.Kind.{Kind}
use Rattle.vol_layout.specs.declared.mode.Kind.TheVariants as kinds
use Rattle.vol_archive.specs.declared.met_entries.MetEntry.{MetEntry}
use Rattle.vol_archive.specs.declared.met_entries.Role.{Role}
use Rattle.vol_archive.specs.declared.met_entries.Role.TheVariants as roles
use Rattle.vol_archive.specs.declared.met_entries.Reason.TheVariants as reasons
use Rattle.vol_archive.specs.declared.pending.Pending.{Pending}

-- the path of a name in the directory at a path (this project)
abbrev pub path_below : List ℕ → List ℕ → List ℕ
path_below [] name = name
path_below (c ∷ path) name = (c ∷ path) ++ 47 ∷ name

-- an entry of the directory at a path; `.` and `..` are left out (this project)
abbrev pub entry_below : List ℕ → List ℕ × ℕ → List Pending
entry_below path entry =
    if is_dots entry.0 then []
    else record { path = path_below path entry.0; inode = entry.1; is_plain = is_plain entry.0 } ∷ []

-- the entries in the map of a directory at a path, in ascending order of their names (this project)
unfoldable pub pending_below : List ℕ → Names → List Pending
pending_below path names = flat_map (entry_below path) names

-- the entries of directory `d` at a path (this project)
abbrev pub entries_below : Geometry → List ℕ → List ℕ → ℕ → List Pending
entries_below geometry image path d = pending_below path (names_of (slots geometry image d))

-- true if later names of its i-number become links to a member with this role (this project)
abbrev pub is_first : Role → Bool
is_first roles.File = true
is_first roles.Directory = true
is_first roles.Special = true
is_first (roles.Link k) = false
is_first (roles.Left reason) = false

-- the position of the first member for i-number `i`, if there is one (this project)
unfoldable pub first_met : ℕ → List MetEntry → Option ℕ
first_met i founds = position (λ (found : MetEntry). found.inode == i && is_first found.role) founds

-- the role of a file; if there is already a member for its i-number, this is another name for it, and its position is given (this project)
abbrev pub role_after : Role → Option ℕ → Role
role_after role None = role
role_after role (Some k) = roles.Link k

-- true if a path has at most 4,096 bytes, as many as an import accepts (Linux, PATH_MAX)
abbrev pub has_room : List ℕ → Bool
has_room path = nat_le (length path) 4096

-- the role of a file at a path (this project)
abbrev pub file_role : Role → Option ℕ → List ℕ → Role
file_role role first path = if has_room path then role_after role first else roles.Left reasons.LongPath

-- the role of an entry for an i-node of this kind (this project)
abbrev pub node_role : ℕ → Option ℕ → Pending → Kind → Role
node_role start first entry kinds.Free = roles.Left reasons.NoNode
node_role start first entry kinds.Odd = roles.Left reasons.OddNode
node_role start first entry kinds.Regular = file_role roles.File first entry.path
node_role start first entry kinds.Special = file_role roles.Special first entry.path
node_role start first entry kinds.Directory =
    if (entry.inode == start) || is_some first then roles.Left reasons.Again
    else if has_room (entry.path ++ 47 ∷ []) then roles.Directory else roles.Left reasons.LongPath

-- the role of an entry visited below directory `start`; if there is already a member for its i-number, its position is given (this project)
abbrev pub role_of : Geometry → List ℕ → ℕ → Option ℕ → Pending → Role
role_of geometry image start first entry =
    if entry.is_plain
    then (if is_number geometry entry.inode then node_role start first entry (kind_at geometry image entry.inode) else roles.Left reasons.NoNode)
    else roles.Left reasons.BadName

-- an entry, after other entries were visited (this project)
abbrev pub met : Geometry → List ℕ → ℕ → List MetEntry → Pending → MetEntry
met geometry image start founds entry = record {
  path = entry.path;
  inode = entry.inode;
  role = role_of geometry image start (first_met entry.inode founds) entry;
}

-- the entries below a visited entry: those in it if its role is that of a directory, else none (this project)
abbrev pub below : Geometry → List ℕ → MetEntry → Role → List Pending
below geometry image found roles.Directory = entries_below geometry image found.path found.inode
below geometry image found roles.File = []
below geometry image found roles.Special = []
below geometry image found (roles.Link k) = []
below geometry image found (roles.Left reason) = []

-- after the entries visited so far, the walk continues over the pending entries and ends with all visited entries: it visits each entry in order, and
-- the entries below it before the next (this project)
pub data Walks (geometry : Geometry) (image : List ℕ) (start : ℕ) : List MetEntry → List Pending → List MetEntry → Type 0 where
  ends : (founds : List MetEntry) → Walks geometry image start founds [] founds
  meets : (founds : List MetEntry) (entry : Pending) (rest : List Pending) (all : List MetEntry)
      → Walks geometry image start (founds ++ met geometry image start founds entry ∷ [])
      (below geometry image (met geometry image start founds entry) (met geometry image start founds entry).role ++ rest) all
      → Walks geometry image start founds (entry ∷ rest) all

-- everything that a walk visits below directory `start` (this project)
abbrev pub IsWalk : Geometry → List ℕ → ℕ → List MetEntry → Type 0
IsWalk geometry image start all = Walks geometry image start [] (entries_below geometry image [] start) all

-- the path of the directory of lost i-nodes (fsck)
abbrev pub lost_found : List ℕ
lost_found = codes "lost+found"

-- the entry of a lost i-node: its name in that directory is its number (fsck)
unfoldable pub lost_entry : ℕ → Pending
lost_entry i = record { path = codes "lost+found/#" ++ decimal i; inode = i; is_plain = true }

-- true if a visited entry has this path (this project)
abbrev pub has_path : List ℕ → List MetEntry → Bool
has_path path founds = list_any (λ (found : MetEntry). bytes_eq found.path path) founds

-- the entry of the directory of lost i-nodes, visited below directory `start`, with the i-node of `start` (this project)
abbrev pub lost_directory : ℕ → MetEntry
lost_directory start = record { path = lost_found; inode = start; role = roles.Directory }

-- the entries visited below directory `start`, followed by the directory of lost i-nodes if there are any and no entry has its path (this project)
abbrev pub with_lost_directory : ℕ → List ℕ → List MetEntry → List MetEntry
with_lost_directory start lost founds =
    if not (is_nil lost) && not (has_path lost_found founds) then founds ++ lost_directory start ∷ [] else founds

-- everything visited below directory `start`, followed by these i-nodes, each under its number in a directory of their own, with everything below
-- them (this project)
abbrev pub IsLostWalk : Geometry → List ℕ → ℕ → List ℕ → List MetEntry → Type 0
IsLostWalk geometry image start lost all =
    (founds : List MetEntry) × IsWalk geometry image start founds
    × Walks geometry image start (with_lost_directory start lost founds) (map lost_entry lost) all

-- these i-nodes, each under its number in a directory of lost i-nodes, with everything below them; for a volume whose root, `start`, is no directory
-- (fsck)
abbrev pub IsOrphanWalk : Geometry → List ℕ → ℕ → List ℕ → List MetEntry → Type 0
IsOrphanWalk geometry image start lost all = Walks geometry image start [] (map lost_entry lost) all
