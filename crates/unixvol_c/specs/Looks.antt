-- What the functions that show an image are asked for, and what they show: what the commands show.
use Rattle.std.specs.Prelude.{◌≡◌, ◌⊎◌, ◌<◌, ℕ, Bool, true, false, if◌then◌else◌, codes, List, length, Option, None, Some, option_map}
use Rattle.std.specs.Str.{IsUtf8}
use Rattle.command_faults.specs.Streams.{Streams}
use Rattle.command_reads.specs.Comparison.{ShowsComparison}
use Rattle.command_reads.specs.Export.{Exports}
use Rattle.command_reads.specs.BadLooks.{LooksBad}
use Rattle.command_reads.specs.Look.{Looks}
use Rattle.command_terms.specs.declared.comparison.Comparison.{Comparison}
use Rattle.command_terms.specs.declared.comparison.Comparison.TheVariants as comparisons
use Rattle.command_reads.specs.declared.diff.NamedImage.{NamedImage}
use Rattle.command_reads.specs.declared.bad_looks.BadBlocks.TheVariants as bads
use Rattle.command_terms.specs.declared.bad_looks.BadLook.{BadLook}
use Rattle.command_terms.specs.declared.bad_looks.BadLook.TheVariants as bad_looks
use Rattle.command_reads.specs.declared.bad_looks.BadMap.{BadMap}
use Rattle.command_terms.specs.declared.looks.DumpForm.{DumpForm}
use Rattle.command_terms.specs.declared.looks.DumpForm.TheVariants as dumps
use Rattle.command_terms.specs.declared.looks.DumpTarget.{DumpTarget}
use Rattle.command_terms.specs.declared.looks.DumpTarget.TheVariants as targets
use Rattle.command_terms.specs.declared.looks.ExportOptions.{ExportOptions}
use Rattle.command_terms.specs.declared.looks.Look.{Look}
use Rattle.command_terms.specs.declared.looks.Look.TheVariants as looks
use Rattle.command_terms.specs.declared.looks.NodeName.{NodeName}
use Rattle.command_terms.specs.declared.looks.NodeName.TheVariants as nodes
use Rattle.command_terms.specs.declared.looks.OutputForm.{OutputForm}
use Rattle.command_terms.specs.declared.looks.OutputForm.TheVariants as forms
use Rattle.command_terms.specs.declared.looks.Picture.{Picture}
use Rattle.command_terms.specs.declared.looks.Picture.TheVariants as pictures
use Rattle.vol_fields.specs.declared.lines.Radix.TheVariants.{Hex}
use Rattle.vol_layout.specs.declared.edition.Edition.{Edition}
use Rattle.vol_listing.specs.declared.options.ListOptions.{ListOptions}
use Rattle.vol_listing.specs.declared.options.Depth.TheVariants as depths
use Rattle.vol_listing.specs.declared.options.Lines.TheVariants as lines
use Rattle.vol_listing.specs.declared.options.Screen.TheVariants.{Stream}
use Rattle.unixvol_c.specs.declared.structs.RescueView.{RescueView}
use Rattle.unixvol_c.specs.declared.structs.View.{View}
use Rattle.unixvol_c.specs.declared.TheConstants as numbers

-- the form of a text (this project)
abbrev pub form_of : Bool → OutputForm
form_of json = if json then forms.Json else forms.Text

-- the form of a dump (this project)
abbrev pub dump_form_of : Bool → DumpForm
dump_form_of json = if json then dumps.Json else dumps.Text Hex

-- the node is that at the path; that with the i-number if the path is empty (this project)
abbrev pub IsNodeAt : ℕ → List ℕ → NodeName → Type 0
IsNodeAt inode path (nodes.Number number) = (length path ≡ 0) × (number ≡ inode)
IsNodeAt inode path (nodes.Path word) = (0 < length path) × (word.now ≡ path)

-- what is dumped: the block, or the node at the path, or with the i-number if the path is empty (this project)
abbrev pub IsDumpAt : View → List ℕ → DumpTarget → Type 0
IsDumpAt view path (targets.Block block) = (view.kind ≡ numbers.LOOK_DUMP) × (block ≡ view.block)
IsDumpAt view path (targets.Inode number) = (view.kind ≡ numbers.LOOK_DUMP_NODE) × (length path ≡ 0) × (number ≡ view.inode)
IsDumpAt view path (targets.Path word) = (view.kind ≡ numbers.LOOK_DUMP_NODE) × (0 < length path) × (word.now ≡ path)

-- the options of a listing: of the names in a directory, with attributes (this project)
abbrev pub listing_of : Bool → ListOptions
listing_of json = record { lines = if json then lines.Json else lines.Long; depth = depths.Names }

-- this is the word, or there is none if it is empty (this project)
abbrev pub IsGiven : List ℕ → Option (List ℕ) → Type 0
IsGiven word None = length word ≡ 0
IsGiven word (Some given) = (0 < length word) × (given ≡ word)

-- the look is this picture of the use of each block, or of the blocks of the file or directory at the path unless that is empty (this project)
abbrev pub IsPictured : Picture → List ℕ → Look → Type 0
IsPictured picture path (looks.Map shown file) = (shown ≡ picture) × IsGiven path (option_map (λ word. word.now) file)
IsPictured picture path look = ⊥

-- a view, with a path and a pattern, asks for this look (this project)
abbrev pub IsAsked : View → List ℕ → List ℕ → Look → Type 0
IsAsked view path pattern (looks.Export word options) = ⊥
IsAsked view path pattern (looks.ListUnsound word listing) = ⊥
IsAsked view path pattern (looks.ReadUnsound word) = ⊥
IsAsked view path pattern (looks.Inode node form) = (view.kind ≡ numbers.LOOK_INODE) × IsNodeAt view.inode path node × (form ≡ form_of view.json)
IsAsked view path pattern (looks.Super form) = (view.kind ≡ numbers.LOOK_SUPER) × (form ≡ form_of view.json)
IsAsked view path pattern (looks.Df form) = (view.kind ≡ numbers.LOOK_DF) × (form ≡ form_of view.json)
IsAsked view path pattern (looks.Free form) = (view.kind ≡ numbers.LOOK_FREE) × (form ≡ form_of view.json)
IsAsked view path pattern (looks.Block block form) = (view.kind ≡ numbers.LOOK_BLOCK) × (block ≡ view.block) × (form ≡ form_of view.json)
IsAsked view path pattern (looks.Find word name lost form) = (view.kind ≡ numbers.LOOK_FIND) × (word.now ≡ path)
    × IsGiven pattern (option_map (λ word. word.now) name) × (lost ≡ view.lost) × (form ≡ form_of view.json)
IsAsked view path pattern (looks.Sums word form lost) = (view.kind ≡ numbers.LOOK_SUMS) × (word.now ≡ path) × (lost ≡ view.lost)
    × (form ≡ form_of view.json)
IsAsked view path pattern (looks.Check graded form) = (view.kind ≡ numbers.LOOK_CHECK) × (graded ≡ true) × (form ≡ form_of view.json)
IsAsked view path pattern (looks.Map pictures.Cells file) = (view.kind ≡ numbers.LOOK_MAP) × (view.json ≡ false)
    × IsGiven path (option_map (λ word. word.now) file)
IsAsked view path pattern looks.Uses = (view.kind ≡ numbers.LOOK_MAP) × (view.json ≡ true) × (length path ≡ 0)
IsAsked view path pattern (looks.Map pictures.Svg file) = (view.kind ≡ numbers.LOOK_SVG) × IsGiven path (option_map (λ word. word.now) file)
IsAsked view path pattern (looks.Slots word form) = (view.kind ≡ numbers.LOOK_SLOTS) × (word.now ≡ path) × (form ≡ form_of view.json)
IsAsked view path pattern (looks.List word listing) = (view.kind ≡ numbers.LOOK_LIST) × (word.now ≡ path) × (listing ≡ listing_of view.json)
IsAsked view path pattern (looks.Dump target form) = IsDumpAt view path target × (form ≡ dump_form_of view.json)

-- no look is asked for: the number is none of a look, or a map of one file is asked for as JSON, or the path or the pattern isn't UTF-8 (this project)
abbrev pub IsNoLook : View → List ℕ → List ℕ → Type 0
IsNoLook view path pattern = (view.kind ≡ 0) ⊎ (numbers.LOOK_DUMP_NODE < view.kind)
    ⊎ ((view.kind ≡ numbers.LOOK_MAP) × (view.json ≡ true) × (0 < length path)) ⊎ (IsUtf8 path → ⊥) ⊎ (IsUtf8 pattern → ⊥)

-- an image is shown as a view asks for it (this project)
abbrev pub LooksAt : Edition → List ℕ → View → List ℕ → List ℕ → Streams → ℕ → Type 0
LooksAt edition image view path pattern streams status = (look : Look) × IsAsked view path pattern look × Looks edition image Stream streams status look

-- the comparison with a number, in lines or as JSON (this project)
abbrev pub IsComparison : ℕ → Comparison → Type 0
IsComparison by (comparisons.Tree times forms.Text) = by ≡ (if times then numbers.BY_ALL_TIMES else numbers.BY_TREE)
IsComparison by (comparisons.Tree times forms.Json) = by ≡ (if times then numbers.BY_ALL_TIMES_JSON else numbers.BY_TREE_JSON)
IsComparison by (comparisons.Fields all forms.Text) = by ≡ (if all then numbers.BY_ALL_FIELDS else numbers.BY_FIELDS)
IsComparison by (comparisons.Fields all forms.Json) = by ≡ (if all then numbers.BY_ALL_FIELDS_JSON else numbers.BY_FIELDS_JSON)

-- no comparison has this number (this project)
abbrev pub IsNoComparison : ℕ → Type 0
IsNoComparison by = (by ≡ 0) ⊎ (numbers.BY_ALL_FIELDS_JSON < by)

-- an image, under this name (this project)
abbrev pub IsNamed : List ℕ → List ℕ → NamedImage → Type 0
IsNamed name image named = (named.name.now ≡ name) × (named.bytes.items ≡ image)

-- two images, named `old` and `new`, are compared in this way (this project)
pub record Compares (edition : Edition) (old new : List ℕ) (by : Comparison) (streams : Streams) (status : ℕ) : Type 0 where
  pub before : NamedImage
  pub after : NamedImage
  pub first : IsNamed (codes "old") old before
  pub second : IsNamed (codes "new") new after
  pub shown : ShowsComparison edition before after by streams status

-- two images, named `old` and `new`, are compared in the way with a number (this project)
abbrev pub ComparesAs : Edition → List ℕ → List ℕ → ℕ → Streams → ℕ → Type 0
ComparesAs edition old new number streams status = (by : Comparison) × IsComparison number by × Compares edition old new by streams status

-- the options of an export of an image with lost blocks (this project)
abbrev pub rescue_options : RescueView → ExportOptions
rescue_options view = record { lost = view.lost; graded = true; losses = record { cut = true; damaged = view.damaged } }

-- a map, under the name `map` (this project)
abbrev pub IsMapped : RescueView → List ℕ → BadMap → Type 0
IsMapped view text map = (map.name.now ≡ codes "map") × (map.text.items ≡ text) × (map.at ≡ view.at)

-- the look is the export of everything below the directory at a path, with these options (this project)
abbrev pub IsExportOf : List ℕ → ExportOptions → BadLook → Type 0
IsExportOf path options (bad_looks.Export word chosen) = (word.now ≡ path) × (chosen ≡ options)
IsExportOf path options (bad_looks.Find word name lost form) = ⊥
IsExportOf path options (bad_looks.Sums word form lost) = ⊥
IsExportOf path options (bad_looks.Check graded form) = ⊥
IsExportOf path options (bad_looks.Block block form) = ⊥
IsExportOf path options (bad_looks.Map picture) = ⊥
IsExportOf path options bad_looks.Uses = ⊥
IsExportOf path options (bad_looks.List word listing) = ⊥
IsExportOf path options (bad_looks.Read word damaged) = ⊥
IsExportOf path options (bad_looks.Body node damaged) = ⊥

-- an image with lost blocks is exported: those that it is too short for, or those that a map says weren't read (this project)
abbrev pub RescuesAs : Edition → List ℕ → RescueView → List ℕ → List ℕ → Streams → ℕ → Type 0
RescuesAs edition image view path text streams status =
    ((view.has_map ≡ false) × Exports edition image path (rescue_options view) Stream streams status)
    ⊎ ((view.has_map ≡ true) × ((map : BadMap) × (look : BadLook) × IsMapped view text map × IsExportOf path (rescue_options view) look
    × LooksBad edition image None look Stream streams status (bads.Map map)))
