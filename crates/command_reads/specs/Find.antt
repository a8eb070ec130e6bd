-- The command that prints the paths of everything below a directory.
use Rattle.std.specs.Prelude.{◌≡◌, ◌⊎◌, ℕ, ◌==◌, Bool, true, if◌then◌else◌, List, [], ◌∷◌, ◌++◌, length, codes, Option, None, Some, Ok}
use Rattle.std.specs.List.{flat_map}
use Rattle.serde_json.specs.Data.{Data, member, no_members, object, string}
use Rattle.escaped_text.specs.Escape.{escaped}
use Rattle.name_patterns.specs.Like.{is_like, last_name}
use Rattle.vol_dir.specs.declared.directories.FoundDirectory.{FoundDirectory}
use Rattle.vol_archive.specs.declared.met_entries.MetEntry.{MetEntry}
use Rattle.vol_layout.specs.declared.edition.Edition.{Edition}
use Rattle.vol_layout.specs.declared.geometry.Geometry.{Geometry}
use Rattle.vol_listing.specs.Json.{count, entries_text}
use Rattle.vol_listing.specs.Lines.{shown}
use Rattle.vol_listing.specs.Listings.{shown_path}
use Rattle.vol_listing.specs.Places.{joined}
use Rattle.vol_listing.specs.declared.options.Screen.{Screen}
use Rattle.vol_rescue.specs.Lines.{TellsLosses}
use Rattle.command_reads.specs.Export.{AreFound as AreVisited, begun, told_status}
use Rattle.command_reads.specs.Print.{Sights}
use Rattle.command_reads.specs.Remarks.{limit_lines}
use Rattle.command_reads.specs.Unreached.{IsUnreached, IsUnreachedFault}
use Rattle.command_terms.specs.declared.looks.OutputForm.{OutputForm}
use Rattle.command_terms.specs.declared.looks.OutputForm.TheVariants as forms

-- true if the last name of a path matches the pattern, or if there is no pattern (find)
abbrev pub is_wanted : Option (List ℕ) → List ℕ → Bool
is_wanted None path = true
is_wanted (Some pattern) path = is_like pattern (last_name path path)

-- the line of an entry that the walk found below the directory at a path, if it is wanted: its path, which begins with the directory's (find)
unfoldable pub found_line : Screen → Option (List ℕ) → List ℕ → MetEntry → List ℕ
found_line screen pattern top found = if is_wanted pattern found.path then shown screen (joined top found.path) ++ 10 ∷ [] else []

-- the object of an entry that the walk found below the directory at path `top` (this project)
abbrev pub path_data : List ℕ → MetEntry → Data
path_data top found = object (member (codes "ino") (count found.inode) (member (codes "path") (string (escaped (joined top found.path))) no_members))

-- the object of an entry, if it is wanted (find)
abbrev pub found_data : Option (List ℕ) → List ℕ → MetEntry → List Data
found_data pattern top found = if is_wanted pattern found.path then path_data top found ∷ [] else []

-- the entries that are wanted, as one object on one line (this project)
abbrev pub found_json : Option (List ℕ) → List ℕ → List MetEntry → List ℕ
found_json pattern top founds = entries_text (flat_map (found_data pattern top) founds)

-- the paths of the entries that are wanted, in this format (find)
abbrev pub found_in : Screen → Option (List ℕ) → List ℕ → List MetEntry → OutputForm → List ℕ
found_in screen pattern top founds forms.Text = flat_map (found_line screen pattern top) founds
found_in screen pattern top founds forms.Json = found_json pattern top founds

-- the lines about the entries, and whether something is damaged or left out: if there are lost blocks, what is lost; else the entries at which the walk
-- stopped because their paths are too long (this project)
abbrev pub TellsFound : Geometry → List ℕ → List Bool → ℕ → List MetEntry → List ℕ → Bool → Type 0
TellsFound geometry image [] start founds lines short = (lines ≡ limit_lines founds) × (short ≡ true)
TellsFound geometry image (mark ∷ marks) start founds lines short = TellsLosses geometry image (mark ∷ marks) start founds lines short

-- the paths of everything below the directory at a path of an image, of which blocks may be lost, in the order of the walk over it, in this format, and
-- the lines about them (find)
pub record AreFound (edition : Edition) (image : List ℕ) (marks : List Bool) (path : List ℕ) (pattern : Option (List ℕ)) (lost : Bool) (form : OutputForm)
    (screen : Screen) (short : Bool) (text lines : List ℕ) : Type 0 where
  pub start : FoundDirectory
  pub founds : List MetEntry
  pub begins : begun lost edition image path ≡ Ok start
  pub walk : AreVisited lost start.geometry image start.inode founds
  pub paths : text ≡ found_in screen pattern (shown_path path) founds form
  pub told : TellsFound start.geometry image marks start.inode founds lines short

-- the paths of everything below the directory at a path of an image of which blocks may be lost, or a fault; the status is 0 if there are no lines, 5 if
-- they say that something is damaged or left out, else 1; or the path can't be reached for what is lost on the way (this project)
abbrev pub found_sights : Edition → List ℕ → List Bool → List ℕ → Option (List ℕ) → Bool → OutputForm → Screen → Sights
found_sights edition image marks path pattern lost form screen = record {
  shows = λ text status lines. ((short : Bool) × AreFound edition image marks path pattern lost form screen short text lines
      × (status ≡ (if length lines == 0 then 0 else told_status true short))) ⊎ IsUnreached lost edition image marks path text status lines;
  fails = IsUnreachedFault lost edition image marks path;
}
