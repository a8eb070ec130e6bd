-- The nodes on a path of an image with lost blocks, and the lines about one that can't be trusted.
use Rattle.std.specs.Prelude.{◌≡◌, ℕ, ◌&&◌, ◌||◌, Bool, not, if◌then◌else◌, List, [], ◌∷◌, Option, None, Some, Result, Ok, Err, codes, decimal}
use Rattle.std.specs.Option.{option_map_or}
use Rattle.vol_layout.specs.Geometry.{geometry_read}
use Rattle.vol_layout.specs.declared.edition.Edition.{Edition}
use Rattle.vol_layout.specs.declared.geometry.Geometry.{Geometry}
use Rattle.vol_layout.specs.declared.geometry.GeometryFault.{GeometryFault}
use Rattle.vol_dir.specs.Entries.{slots}
use Rattle.vol_dir.specs.Names.{get, names_of}
use Rattle.vol_dir.specs.Tree.{is_number}
use Rattle.vol_dir.specs.Walk.{components}
use Rattle.vol_dir.specs.declared.directories.DirectoryFault.{DirectoryFault}
use Rattle.vol_dir.specs.declared.directories.DirectoryFault.TheVariants as starts
use Rattle.vol_judge.specs.Directories.{root_of}
use Rattle.vol_losses.specs.Losses.{is_lost, is_whole, node_block}
use Rattle.vol_archive.specs.Export.{is_directory}
use Rattle.vol_archive.specs.declared.met_entries.MetEntry.{MetEntry}
use Rattle.vol_archive.specs.declared.met_entries.Role.TheVariants as roles
use Rattle.vol_rescue.specs.Lines.{TellsNamed}
use Rattle.vol_listing.specs.Places.{joined}

-- the i-number that a name has in node i, if that is a directory and has the name (Lions on namei)
abbrev pub number_in : Geometry → List ℕ → ℕ → List ℕ → Option ℕ
number_in geometry image i name = if is_directory geometry image i then get (names_of (slots geometry image i)) name else None

-- true if it can't be trusted where paths lead from node i: its i-node is lost, or bytes of it are and it is a directory (Lions on namei; this project)
abbrev pub is_unsure_node : Geometry → List ℕ → List Bool → ℕ → Bool
is_unsure_node geometry image lost i = is_number geometry i
    && (is_lost lost (node_block geometry.edition i) || (is_directory geometry image i && not (is_whole geometry image lost i)))

-- a node on a path, as an entry with that path (this project)
abbrev pub way_entry : List ℕ → ℕ → MetEntry
way_entry place i = record { path = place; inode = i; role = roles.Directory }

-- node i, at this path, if it can't be trusted where paths lead from it, else what was seen before (this project)
abbrev pub last_seen : Geometry → List ℕ → List Bool → Option MetEntry → List ℕ → ℕ → Option MetEntry
last_seen geometry image lost seen place i = if is_unsure_node geometry image lost i then Some (way_entry place i) else seen

-- the last of the nodes after node i, which is at path `place`, along these names, from which it can't be trusted where paths lead; if there is none,
-- what was seen up to node i (Lions on namei; this project)
unfoldable pub last_unsure : Geometry → List ℕ → List Bool → Option MetEntry → List ℕ → ℕ → List (List ℕ) → Option MetEntry
last_unsure geometry image lost seen place i [] = seen
last_unsure geometry image lost seen place i (name ∷ names) =
    option_map_or (λ next. last_unsure geometry image lost (last_seen geometry image lost seen (joined place name) next) (joined place name) next names)
    (number_in geometry image i name) seen

-- the last of the nodes on a path, up to where it leads or ends, from which it can't be trusted where paths lead (Lions on namei; this project)
abbrev pub unsure_on : Geometry → List ℕ → List Bool → List ℕ → Option MetEntry
unsure_on geometry image lost path =
    last_unsure geometry image lost (last_seen geometry image lost None (codes "/") (root_of geometry)) (codes "/") (root_of geometry) (components path)

-- the lines about a node that can't be trusted, if there is one: the number of lost blocks, and what is lost of it (this project)
abbrev pub IsWayLine : Geometry → List ℕ → List Bool → Option (List ℕ) → Option MetEntry → Type 0
IsWayLine geometry image lost told None = told ≡ None
IsWayLine geometry image lost told (Some found) =
    (lines : List ℕ) × (short : Bool) × (told ≡ Some lines) × TellsNamed geometry image lost (found ∷ []) lines short

-- the lines about the last node on a path of an image that can't be trusted, given the result of reading its geometry (this project)
abbrev pub IsWayLineRead : List ℕ → List Bool → List ℕ → Option (List ℕ) → Result Geometry GeometryFault → Type 0
IsWayLineRead image lost path told (Ok geometry) = IsWayLine geometry image lost told (unsure_on geometry image lost path)
IsWayLineRead image lost path told (Err fault) = told ≡ None

-- the lines about what is lost on a path that leads to no directory for this reason; none if no block is lost, or nothing is lost on the path (this
-- project)
abbrev pub TellsWay : Edition → List ℕ → List Bool → List ℕ → DirectoryFault → Option (List ℕ) → Type 0
TellsWay edition image [] path why told = told ≡ None
TellsWay edition image (mark ∷ lost) path (starts.Unsound fault) told = told ≡ None
TellsWay edition image (mark ∷ lost) path (starts.Refused refusal) told =
    IsWayLineRead image (mark ∷ lost) path told (geometry_read edition image)

-- the entry of an i-node that a command names by its number, with this number in place of a path (this project)
unfoldable pub number_entry : ℕ → MetEntry
number_entry i = record { path = decimal i; inode = i; role = roles.File }

-- the i-node with this number, which may be any, if it is lost (this project)
abbrev pub lost_number : Geometry → List Bool → ℕ → Option MetEntry
lost_number geometry lost i = if is_number geometry i && is_lost lost (node_block geometry.edition i) then Some (number_entry i) else None

-- the lines about an i-node that is named by its number, if it is lost, given the result of reading the image's geometry (this project)
abbrev pub IsNumberLineRead : List ℕ → List Bool → ℕ → Option (List ℕ) → Result Geometry GeometryFault → Type 0
IsNumberLineRead image lost i told (Ok geometry) = IsWayLine geometry image lost told (lost_number geometry lost i)
IsNumberLineRead image lost i told (Err fault) = told ≡ None
