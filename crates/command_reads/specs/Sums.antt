-- The manifest of a tree.
use Rattle.std.specs.Prelude.{◌≡◌, ◌⊎◌, ℕ, ◌==◌, true, false, Bool, if◌then◌else◌, List, [], ◌∷◌, length, Ok, Err}
use Rattle.vol_dir.specs.declared.directories.FoundDirectory.{FoundDirectory}
use Rattle.vol_dir.specs.declared.directories.DirectoryFault.{DirectoryFault}
use Rattle.vol_archive.specs.declared.met_entries.MetEntry.{MetEntry}
use Rattle.vol_dir.specs.Tree.{Tree, tree}
use Rattle.vol_layout.specs.declared.geometry.Geometry.{Geometry}
use Rattle.vol_layout.specs.declared.edition.Edition.{Edition}
use Rattle.vol_listing.specs.KnownSums.{IsKnownJson, known_text}
use Rattle.vol_listing.specs.Listings.{shown_path}
use Rattle.vol_listing.specs.Sums.{sums_json, sums_text}
use Rattle.vol_rescue.specs.Damage.{kept_entries}
use Rattle.command_faults.specs.Faults.{no_memory}
use Rattle.command_faults.specs.declared.fault.Fault.{Fault}
use Rattle.command_reads.specs.Export.{AreFound, begun, told_status, unstarted}
use Rattle.command_reads.specs.Losses.{TellsExport, is_graded}
use Rattle.command_reads.specs.Print.{Sights}
use Rattle.command_reads.specs.Unreached.{IsUnreached, IsUnreachedFault}
use Rattle.command_terms.specs.declared.looks.ExportOptions.{ExportOptions}
use Rattle.command_terms.specs.declared.looks.OutputForm.{OutputForm}
use Rattle.command_terms.specs.declared.looks.OutputForm.TheVariants as forms

-- the options of the export that has the same entries and the same remarks (this project)
abbrev pub as_exported : Bool → ExportOptions
as_exported lost = record { lost = lost; graded = false; losses = record { cut = false; damaged = false } }

-- the manifest of the entries that the walk found below the directory at path `top`, in this format (sha256sum; this project)
abbrev pub sums_in : Tree → List ℕ → List MetEntry → OutputForm → List ℕ
sums_in tree top founds forms.Text = sums_text tree founds
sums_in tree top founds forms.Json = sums_json tree top founds

-- a text is the manifest of the entries that the walk found below the directory at path `top`, in this format; if blocks are lost, a file of which bytes
-- are lost has no sum (this project)
abbrev pub AreSumsIn : Geometry → List ℕ → List Bool → List ℕ → List MetEntry → OutputForm → List ℕ → Type 0
AreSumsIn g image [] top founds form text = text ≡ sums_in (tree g image) top founds form
AreSumsIn g image (mark ∷ lost) top founds forms.Text text = text ≡ known_text g image (mark ∷ lost) founds
AreSumsIn g image (mark ∷ lost) top founds forms.Json text = IsKnownJson g image (mark ∷ lost) top founds text

-- a text is the manifest of the directory at a path, with the entries of an export that has damaged files too, and these lines are the remarks of that
-- export (this project)
pub record IsManifest (edition : Edition) (image : List ℕ) (marks : List Bool) (path : List ℕ) (form : OutputForm) (lost : Bool) (text lines : List ℕ) : Type 0 where
  pub start : FoundDirectory
  pub begins : begun lost edition image path ≡ Ok start
  pub founds : List MetEntry
  pub walk : AreFound lost start.geometry image start.inode founds
  pub words : AreSumsIn start.geometry image marks (shown_path path) (kept_entries start.geometry image marks true founds) form text
  pub short : Bool
  pub told : TellsExport edition image marks start founds (as_exported lost) lines short

-- the reason why there is no manifest: memory ran out, or there is nothing to export (this project)
abbrev pub IsManifestFault : Edition → List ℕ → List ℕ → Bool → Fault → Type 0
IsManifestFault edition image path lost fault =
    (fault ≡ no_memory) ⊎ ((why : DirectoryFault) × (begun lost edition image path ≡ Err why) × (fault ≡ unstarted why))

-- the manifest of the directory at a path of an image of which blocks may be lost, or a fault; the status is 0 if there are no lines; if blocks are lost,
-- 5 if they say that something is damaged or left out; else 1; or the path can't be reached for what is lost on the way (this project)
abbrev pub sums_sights : Edition → List ℕ → List Bool → List ℕ → OutputForm → Bool → Sights
sums_sights edition image marks path form lost = record {
  shows = λ text status lines. ((manifest : IsManifest edition image marks path form lost text lines)
      × (status ≡ (if length lines == 0 then 0 else told_status (is_graded false marks) manifest.short)))
      ⊎ IsUnreached lost edition image marks path text status lines;
  fails = IsUnreachedFault lost edition image marks path;
}
