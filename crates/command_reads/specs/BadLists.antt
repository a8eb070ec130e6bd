-- What `ls` shows of an image with lost blocks.
use Rattle.std.specs.Prelude.{◌≡◌, ◌⊎◌, ◌==◌, ◌++◌, ◌∷◌, ℕ, Bool, false, true, if◌then◌else◌, List, [], length, Some, Ok}
use Rattle.std.specs.List.{flat_map}
use Rattle.vol_archive.specs.Export.{is_directory}
use Rattle.vol_archive.specs.declared.met_entries.MetEntry.{MetEntry}
use Rattle.vol_archive.specs.declared.met_entries.Role.{Role}
use Rattle.vol_archive.specs.declared.met_entries.Role.TheVariants as roles
use Rattle.vol_dir.specs.Entries.{slots}
use Rattle.vol_dir.specs.Names.{is_dots, names_of}
use Rattle.vol_dir.specs.Tree.{tree}
use Rattle.vol_layout.specs.declared.edition.Edition.{Edition}
use Rattle.vol_layout.specs.declared.geometry.Geometry.{Geometry}
use Rattle.vol_listing.specs.Listings.{IsListingOf, shown_path, start_of}
use Rattle.vol_listing.specs.Places.{joined}
use Rattle.vol_listing.specs.declared.options.Depth.{Depth}
use Rattle.vol_listing.specs.declared.options.Depth.TheVariants as depths
use Rattle.vol_listing.specs.declared.options.ListOptions.{ListOptions}
use Rattle.vol_listing.specs.declared.options.Screen.{Screen}
use Rattle.vol_rescue.specs.Lines.{TellsNamed}
use Rattle.command_reads.specs.BadFiles.{IsFileUnreached, IsFileUnreachedFault, told_entries, way_entries}
use Rattle.command_reads.specs.Export.{told_status}
use Rattle.command_reads.specs.Node.{number_at}
use Rattle.command_reads.specs.Print.{Sights, telling}
use Rattle.command_reads.specs.Unsound.{IsUnshown, IsUnsoundListing, listable}
use Rattle.command_reads.specs.Ways.{is_unsure_node, unsure_on}

-- the role of node i, if it is in the archive: a directory, or else a file (this project)
abbrev pub listed_role : Geometry → List ℕ → ℕ → Role
listed_role geometry image i = if is_directory geometry image i then roles.Directory else roles.File

-- a name of the directory at a path, as an entry; none for `.` and `..` (this project)
abbrev pub name_entries : Geometry → List ℕ → List ℕ → List ℕ × ℕ → List MetEntry
name_entries geometry image path entry =
    if is_dots entry.0 then [] else record { path = joined path entry.0; inode = entry.1; role = listed_role geometry image entry.1 } ∷ []

-- true if a listing at this depth has the names in node i (ls)
abbrev pub has_names : Geometry → List ℕ → Depth → ℕ → Bool
has_names geometry image depths.Itself i = false
has_names geometry image depths.Names i = is_directory geometry image i
has_names geometry image depths.Below i = is_directory geometry image i

-- the names in node i at a path, as entries, if a listing at this depth has them (ls)
abbrev pub names_in : Geometry → List ℕ → Depth → List ℕ → ℕ → List MetEntry
names_in geometry image depth path i =
    if has_names geometry image depth i then flat_map (name_entries geometry image path) (names_of (slots geometry image i)) else []

-- what is told of node i itself, at a path, and of the way there: if it can't be trusted where paths lead from it, it is the last such node on the way
-- (this project)
abbrev pub told_node : Geometry → List ℕ → List Bool → List ℕ → ℕ → List MetEntry
told_node geometry image lost path i =
    if is_unsure_node geometry image lost i then way_entries (unsure_on geometry image lost path) else told_entries geometry image lost path i

-- what is told of a listing of node i, at a path: the way there, the node, and the names that are listed (this project)
abbrev pub told_names : Geometry → List ℕ → List Bool → Depth → List ℕ → ℕ → List MetEntry
told_names geometry image lost depth path i =
    told_node geometry image lost path i ++ names_in geometry image depth (shown_path path) i

-- a listing of the node at a path of the tree that an image with lost blocks reads as, and the lines about what is lost of it, of the names that it has, and
-- on the way (ls)
pub record IsKnownListing (edition : Edition) (image : List ℕ) (lost : List Bool) (path : List ℕ) (listing : ListOptions) (screen : Screen)
    (text lines : List ℕ) : Type 0 where
  pub inode : ℕ
  pub found : number_at edition image path ≡ Ok inode
  pub geometry : Geometry
  pub opened : listable listing edition image inode ≡ Ok geometry
  pub listed : IsListingOf (tree geometry image) listing screen (start_of path inode) text
  pub short : Bool
  pub told : TellsNamed geometry image lost (told_names geometry image lost listing.depth path inode) lines short

-- such a listing, with status 5 if something is lost of what it shows or on the way, else 1 (this project)
abbrev pub IsKnownSight : Edition → List ℕ → List Bool → List ℕ → ListOptions → Screen → List ℕ → ℕ → List ℕ → Type 0
IsKnownSight edition image lost path listing screen text status lines =
    (known : IsKnownListing edition image lost path listing screen text lines) × (status ≡ (if length lines == 0 then 0 else told_status true known.short))

-- what `ls` may come to of an image with lost blocks: a listing; or the lines about what is lost on the way to a node that isn't listed; or a fault (this
-- project)
abbrev pub known_list_sights : Edition → List ℕ → List Bool → List ℕ → ListOptions → Screen → Sights
known_list_sights edition image lost path listing screen = record {
  shows = λ text status lines. IsKnownSight edition image lost path listing screen text status lines
      ⊎ IsFileUnreached edition image lost (Some path) (number_at edition image path) (listable listing edition image) text status lines;
  fails = IsFileUnreachedFault edition image lost (Some path) (number_at edition image path) (listable listing edition image);
}

-- what `ls` may come to of an image of which blocks may be lost: if none is, what it comes to of an image that need not be sound (this project)
abbrev pub list_sights : Edition → List ℕ → List Bool → List ℕ → ListOptions → Screen → Sights
list_sights edition image [] path listing screen =
    telling 1 (IsUnsoundListing edition image path listing screen) (IsUnshown edition image path (listable listing edition image))
list_sights edition image (mark ∷ lost) path listing screen = known_list_sights edition image (mark ∷ lost) path listing screen
