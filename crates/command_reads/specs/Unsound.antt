-- What `ls` and `get` show of an image that need not be sound.
use Rattle.std.specs.Prelude.{◌≡◌, ◌⊎◌, ◌&&◌, not, ℕ, true, if◌then◌else◌, List, [], Option, None, Some, Result, Ok, Err}
use Rattle.vol_layout.specs.Body.{body}
use Rattle.vol_layout.specs.Geometry.{geometry_read}
use Rattle.vol_layout.specs.declared.edition.Edition.{Edition}
use Rattle.vol_layout.specs.declared.geometry.Geometry.{Geometry}
use Rattle.vol_layout.specs.declared.geometry.GeometryFault.{GeometryFault}
use Rattle.vol_judge.specs.Sound.{IsJudged}
use Rattle.vol_dir.specs.Tree.{tree}
use Rattle.vol_dir.specs.declared.refusal.Refusal.TheVariants as refusals
use Rattle.vol_archive.specs.Export.{is_directory}
use Rattle.vol_listing.specs.Depths.{is_bare}
use Rattle.vol_listing.specs.Listings.{start_of, IsListingOf}
use Rattle.vol_listing.specs.declared.options.ListOptions.{ListOptions}
use Rattle.vol_listing.specs.declared.options.Screen.{Screen}
use Rattle.command_faults.specs.Faults.{line_of_rule, no_memory}
use Rattle.command_faults.specs.declared.fault.Fault.{Fault}
use Rattle.command_reads.specs.Cat.{file_of}
use Rattle.command_reads.specs.Node.{node_fault, number_at}
use Rattle.command_reads.specs.declared.node.NodeFault.{NodeFault}
use Rattle.command_reads.specs.declared.node.NodeFault.TheVariants as reasons

-- the line of the first rule that an image breaks, or nothing if it is sound (this project)
abbrev pub rule_line : Option ℕ → List ℕ
rule_line None = []
rule_line (Some rule) = line_of_rule rule

-- these are the line of the first rule that an image breaks, or nothing if it is sound (this project)
abbrev pub TellsRule : Edition → List ℕ → List ℕ → Type 0
TellsRule edition image lines = (least : Option ℕ) × IsJudged true edition image least × (lines ≡ rule_line least)

-- the geometry of an image whose i-node i can be listed, which must be a directory if the listing is bare, or the reason why it can't be (ls)
abbrev pub listable_by : ListOptions → List ℕ → ℕ → Result Geometry GeometryFault → Result Geometry NodeFault
listable_by listing image i (Ok geometry) =
    if is_bare listing && not (is_directory geometry image i) then Err (reasons.Refused refusals.NotDirectory) else Ok geometry
listable_by listing image i (Err fault) = Err (reasons.Unsound fault)

-- the geometry read from an image whose i-node i can be listed, or the reason why it can't be (ls)
abbrev pub listable : ListOptions → Edition → List ℕ → ℕ → Result Geometry NodeFault
listable listing edition image i = listable_by listing image i (geometry_read edition image)

-- the geometry of an image whose i-node i, which can be printed, is no directory, or the reason why it can't be read (read)
abbrev pub readable_by : List ℕ → ℕ → Result Geometry NodeFault → Result Geometry NodeFault
readable_by image i (Ok geometry) = if is_directory geometry image i then Err (reasons.Refused refusals.IsDirectory) else Ok geometry
readable_by image i (Err why) = Err why

-- the geometry read from an image whose i-node i is a regular file, or the reason why it can't be read (read)
abbrev pub readable : Edition → List ℕ → ℕ → Result Geometry NodeFault
readable edition image i = readable_by image i (file_of edition image i)

-- the reason why a node isn't opened, by what its name leads to: there is no such node, or it can't be opened (this project)
abbrev pub IsUnopened : Result ℕ NodeFault → (ℕ → Result Geometry NodeFault) → NodeFault → Type 0
IsUnopened number opened why = (number ≡ Err why) ⊎ ((i : ℕ) × (number ≡ Ok i) × (opened i ≡ Err why))

-- the reason why nothing is shown of the node at a path: the path leads to none, or the node can't be opened (this project)
abbrev pub IsUnfound : Edition → List ℕ → List ℕ → (ℕ → Result Geometry NodeFault) → NodeFault → Type 0
IsUnfound edition image path opened why = IsUnopened (number_at edition image path) opened why

-- the fault of a command that shows nothing of the node at a path: memory ran out, or the image has no such node (this project)
abbrev pub IsUnshown : Edition → List ℕ → List ℕ → (ℕ → Result Geometry NodeFault) → Fault → Type 0
IsUnshown edition image path opened fault =
    (fault ≡ no_memory) ⊎ ((why : NodeFault) × IsUnfound edition image path opened why × (fault ≡ node_fault why))

-- a listing of the file or directory at a path of the tree that an image reads as, sound or not, and the line of the first rule that it breaks (ls)
pub record IsUnsoundListing (edition : Edition) (image path : List ℕ) (listing : ListOptions) (screen : Screen) (text lines : List ℕ) : Type 0 where
  pub inode : ℕ
  pub found : number_at edition image path ≡ Ok inode
  pub geometry : Geometry
  pub opened : listable listing edition image inode ≡ Ok geometry
  pub listed : IsListingOf (tree geometry image) listing screen (start_of path inode) text
  pub told : TellsRule edition image lines

-- a path leads to this regular file of an image with this geometry (namei)
pub record IsFileAt (edition : Edition) (image path : List ℕ) (geometry : Geometry) (inode : ℕ) : Type 0 where
  pub found : number_at edition image path ≡ Ok inode
  pub opened : readable edition image inode ≡ Ok geometry

-- the bytes of the regular file at a path of an image, sound or not, and the line of the first rule that the image breaks (read)
pub record IsUnsoundFile (edition : Edition) (image path : List ℕ) (text lines : List ℕ) : Type 0 where
  pub geometry : Geometry
  pub inode : ℕ
  pub file : IsFileAt edition image path geometry inode
  pub bytes : text ≡ body geometry image inode
  pub told : TellsRule edition image lines
