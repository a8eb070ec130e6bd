-- What `get` and `cat` show of an image with lost blocks.
use Rattle.std.specs.Prelude.{◌≡◌, ◌⊎◌, ◌||◌, ◌++◌, ◌==◌, ℕ, Bool, true, if◌then◌else◌, List, [], ◌∷◌, length, Option, None, Some, Result, Ok, Err}
use Rattle.vol_archive.specs.declared.met_entries.MetEntry.{MetEntry}
use Rattle.vol_archive.specs.declared.met_entries.Role.TheVariants as roles
use Rattle.vol_dir.specs.declared.directories.DirectoryFault.{DirectoryFault}
use Rattle.vol_dir.specs.declared.directories.DirectoryFault.TheVariants as starts
use Rattle.vol_layout.specs.Body.{body}
use Rattle.vol_layout.specs.Geometry.{geometry_read}
use Rattle.vol_layout.specs.declared.edition.Edition.{Edition}
use Rattle.vol_layout.specs.declared.geometry.Geometry.{Geometry}
use Rattle.vol_losses.specs.Losses.{is_whole}
use Rattle.vol_rescue.specs.Lines.{TellsNamed}
use Rattle.command_faults.specs.Faults.{no_memory}
use Rattle.command_faults.specs.declared.fault.Fault.{Fault}
use Rattle.command_terms.specs.declared.looks.NodeName.{NodeName}
use Rattle.command_terms.specs.declared.looks.NodeName.TheVariants as nodes
use Rattle.command_reads.specs.Cat.{file_of}
use Rattle.command_reads.specs.Export.{told_status}
use Rattle.command_reads.specs.Node.{node_fault, number_at, number_of}
use Rattle.command_reads.specs.Print.{Sights, plainly, telling}
use Rattle.command_reads.specs.Unsound.{IsUnopened, IsUnshown, IsUnsoundFile, readable}
use Rattle.command_reads.specs.Ways.{IsNumberLineRead, TellsWay, number_entry, unsure_on}
use Rattle.command_reads.specs.declared.node.NodeFault.{NodeFault}
use Rattle.command_reads.specs.declared.node.NodeFault.TheVariants as reasons
use Rattle.command_reads.specs.declared.unsound.FoundFile.{FoundFile}

-- the path by which a node is named, if it isn't named by its number (this project)
abbrev pub place_of : NodeName → Option (List ℕ)
place_of (nodes.Number number) = None
place_of (nodes.Path path) = Some path.now

-- this node is opened, by what its name leads to; or it isn't, for this reason (this project)
abbrev pub IsOpened : Result ℕ NodeFault → (ℕ → Result Geometry NodeFault) → Result FoundFile NodeFault → Type 0
IsOpened number opened (Ok file) = (number ≡ Ok file.inode) × (opened file.inode ≡ Ok file.geometry)
IsOpened number opened (Err why) = IsUnopened number opened why

-- a node on the way that can't be trusted, if there is one (this project)
abbrev pub way_entries : Option MetEntry → List MetEntry
way_entries None = []
way_entries (Some found) = found ∷ []

-- what is told of a file at a path: the last node on the way from which it can't be trusted where paths lead, if there is one, and the file (this project)
abbrev pub told_entries : Geometry → List ℕ → List Bool → List ℕ → ℕ → List MetEntry
told_entries geometry image lost path i =
    way_entries (unsure_on geometry image lost path) ++ record { path = path; inode = i; role = roles.File } ∷ []

-- what is told of a file that is named by a path, or else by its number: no way leads to that (this project)
abbrev pub told_of : Geometry → List ℕ → List Bool → Option (List ℕ) → ℕ → List MetEntry
told_of geometry image lost (Some path) i = told_entries geometry image lost path i
told_of geometry image lost None i = number_entry i ∷ []

-- the bytes of a file, or none if some of them are lost, unless damaged files are shown too; and the lines about what is lost of it and on the way (read)
pub record IsKnownFile (image : List ℕ) (lost : List Bool) (place : Option (List ℕ)) (number : Result ℕ NodeFault)
    (opened : ℕ → Result Geometry NodeFault) (damaged : Bool) (text lines : List ℕ) : Type 0 where
  pub geometry : Geometry
  pub inode : ℕ
  pub found : number ≡ Ok inode
  pub opens : opened inode ≡ Ok geometry
  pub bytes : text ≡ (if damaged || is_whole geometry image lost inode then body geometry image inode else [])
  pub short : Bool
  pub told : TellsNamed geometry image lost (told_of geometry image lost place inode) lines short

-- the reason why there is no node, as one why there is no directory (this project)
abbrev pub as_start : NodeFault → DirectoryFault
as_start (reasons.Unsound fault) = starts.Unsound fault
as_start (reasons.Refused refusal) = starts.Refused refusal

-- the lines about what is lost of the way to a node that isn't opened for this reason, or of the i-node itself if it is named by its number; none if
-- nothing is (this project)
abbrev pub TellsUnopened : Edition → List ℕ → List Bool → NodeFault → Option (List ℕ) → Option (List ℕ) → Result ℕ NodeFault → Type 0
TellsUnopened edition image lost why told (Some path) number = TellsWay edition image lost path (as_start why) told
TellsUnopened edition image lost why told None (Ok i) = IsNumberLineRead image lost i told (geometry_read edition image)
TellsUnopened edition image lost why told None (Err fault) = told ≡ None

-- a node isn't opened, but something is lost of it or on the way: nothing is shown, with the lines about that and status 5 (this project)
abbrev pub IsFileUnreached : Edition → List ℕ → List Bool → Option (List ℕ) → Result ℕ NodeFault → (ℕ → Result Geometry NodeFault) → List ℕ → ℕ → List ℕ → Type 0
IsFileUnreached edition image lost place number opened text status lines =
    (why : NodeFault) × IsUnopened number opened why × TellsUnopened edition image lost why (Some lines) place number × (text ≡ []) × (status ≡ 5)

-- the reason why nothing is shown: memory ran out, or the node isn't opened, and nothing is lost of it and on the way (this project)
abbrev pub IsFileUnreachedFault : Edition → List ℕ → List Bool → Option (List ℕ) → Result ℕ NodeFault → (ℕ → Result Geometry NodeFault) → Fault → Type 0
IsFileUnreachedFault edition image lost place number opened fault =
    (fault ≡ no_memory)
    ⊎ ((why : NodeFault) × IsUnopened number opened why × TellsUnopened edition image lost why None place number × (fault ≡ node_fault why))

-- what `get` and `cat` may come to of an image with lost blocks: the bytes of a file, with status 5 if something is lost of it or on the way, else 1; or the
-- lines about what is lost of a node that isn't opened, or on the way to it; or a fault (this project)
abbrev pub file_sights : Edition → List ℕ → List Bool → Option (List ℕ) → Result ℕ NodeFault → (ℕ → Result Geometry NodeFault) → Bool → Sights
file_sights edition image lost place number opened damaged = record {
  shows = λ text status lines. ((file : IsKnownFile image lost place number opened damaged text lines)
      × (status ≡ (if length lines == 0 then 0 else told_status true file.short)))
      ⊎ IsFileUnreached edition image lost place number opened text status lines;
  fails = IsFileUnreachedFault edition image lost place number opened;
}

-- what `get` may come to of an image of which blocks may be lost: if none is, what it comes to of an image that need not be sound (this project)
abbrev pub get_sights : Edition → List ℕ → List Bool → List ℕ → Bool → Sights
get_sights edition image [] path damaged = telling 1 (IsUnsoundFile edition image path) (IsUnshown edition image path (readable edition image))
get_sights edition image (mark ∷ lost) path damaged =
    file_sights edition image (mark ∷ lost) (Some path) (number_at edition image path) (readable edition image) damaged

-- the bytes of a node of an image, by what its name leads to (read)
abbrev pub IsBody : Edition → List ℕ → Result ℕ NodeFault → List ℕ → Type 0
IsBody edition image number text =
    (geometry : Geometry) × (i : ℕ) × (number ≡ Ok i) × (file_of edition image i ≡ Ok geometry) × (text ≡ body geometry image i)

-- the reason why the bytes of a node aren't shown (this project)
abbrev pub IsBodyFault : Edition → List ℕ → Result ℕ NodeFault → Fault → Type 0
IsBodyFault edition image number fault = (why : NodeFault) × IsUnopened number (file_of edition image) why × (fault ≡ node_fault why)

-- what `cat` may come to of an image of which blocks may be lost: if none is, the bytes of a node and no line, or a fault (this project)
abbrev pub cat_sights : Edition → List ℕ → List Bool → NodeName → Bool → Sights
cat_sights edition image [] node damaged = plainly (IsBody edition image (number_of edition image node)) (IsBodyFault edition image (number_of edition image node))
cat_sights edition image (mark ∷ lost) node damaged =
    file_sights edition image (mark ∷ lost) (place_of node) (number_of edition image node) (file_of edition image) damaged
