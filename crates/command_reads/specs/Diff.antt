-- The command that shows the fields in which two images differ.
use Rattle.std.specs.Prelude.{◌≡◌, ◌↔◌, ◌⊎◌, ℕ, ◌==◌, Bool, if◌then◌else◌, List, [], ◌++◌, codes, decimal, length, Ok, Err}
use Rattle.escaped_text.specs.Escape.{escaped}
use Rattle.serde_json.specs.Data.{Data}
use Rattle.vol_layout.specs.Geometry.{geometry_read}
use Rattle.vol_layout.specs.declared.edition.Edition.{Edition}
use Rattle.vol_layout.specs.declared.geometry.Geometry.{Geometry}
use Rattle.vol_layout.specs.declared.geometry.GeometryFault.{GeometryFault}
use Rattle.vol_fields.specs.Differences.{IsDiffText}
use Rattle.field_json.specs.Changes.{AreDifferenceItems, AreDifferences}
use Rattle.field_json.specs.Items.{lines_json}
use Rattle.command_faults.specs.Faults.{fault_line, fault_status, no_memory}
use Rattle.command_faults.specs.declared.fault.Fault.{Fault}
use Rattle.command_terms.specs.declared.looks.OutputForm.{OutputForm}
use Rattle.command_terms.specs.declared.looks.OutputForm.TheVariants as forms
use Rattle.command_reads.specs.Dump.{all_roles}
use Rattle.command_reads.specs.Faults.{broken_rule}
use Rattle.command_reads.specs.Print.{Sights, silently}
use Rattle.command_reads.specs.declared.diff.NamedImage.{NamedImage}

-- the text is the differences between two images with these geometries, by the roles that their blocks have in them (this project)
abbrev pub IsMappedText : Geometry → List ℕ → Geometry → List ℕ → Bool → List ℕ → Type 0
IsMappedText g old h new all text = IsDiffText g (all_roles g old) old h (all_roles h new) new all text

-- the text is the differences between two images: by the laws of `vol_fields`, it is empty if and only if the images are equal byte for byte, and
-- each byte that differs is in a field of a line (this project)
abbrev pub IsDiff : Edition → List ℕ → List ℕ → Bool → List ℕ → Type 0
IsDiff edition old new all text =
    (g : Geometry) × (geometry_read edition old ≡ Ok g) × ((h : Geometry) × (geometry_read edition new ≡ Ok h) × IsMappedText g old h new all text)

-- the same as the items of a list in JSON, an item for each line: by the laws of `field_json`, there is none if and only if the images are equal byte for
-- byte (this project)
abbrev pub IsMappedIn : OutputForm → Geometry → List ℕ → Geometry → List ℕ → Bool → List ℕ → Type 0
IsMappedIn forms.Text g old h new all text = IsMappedText g old h new all text
IsMappedIn forms.Json g old h new all items = AreDifferenceItems g (all_roles g old) old h (all_roles h new) new all items

-- the text is the lines of the differences between two images, or that of their items in JSON (this project)
abbrev pub IsDiffIn : OutputForm → Edition → List ℕ → List ℕ → Bool → List ℕ → Type 0
IsDiffIn form edition old new all text =
    (g : Geometry) × (geometry_read edition old ≡ Ok g) × ((h : Geometry) × (geometry_read edition new ≡ Ok h) × IsMappedIn form g old h new all text)

-- the data are the differences between two images, an item for each line of their text (this project)
abbrev pub AreDiffData : Edition → List ℕ → List ℕ → Bool → List Data → Type 0
AreDiffData edition old new all datas =
    (g : Geometry) × (geometry_read edition old ≡ Ok g) × ((h : Geometry) × (geometry_read edition new ≡ Ok h)
    × AreDifferences g (all_roles g old) old h (all_roles h new) new all datas)

-- the start of the line of an image that breaks a rule (this project)
unfoldable pub rule_start : ℕ → List ℕ
rule_start rule = codes "unixvol: unsound, rule " ++ (decimal rule ++ codes ": ")

-- the line of an image that breaks a rule, with the name of its file (this project)
abbrev pub unsound_line : ℕ → List ℕ → List ℕ
unsound_line rule name = rule_start rule ++ (escaped name ++ codes "\n")

-- the fault of an image that breaks rule 1 or rule 2 (this project)
abbrev pub IsUnmeasuredAt : GeometryFault → List ℕ → Fault → Type 0
IsUnmeasuredAt why name fault = (fault_status fault ≡ 1) × (fault_line fault ≡ unsound_line (broken_rule why) name)

-- the image in a file of this name breaks rule 1 or rule 2 (this project)
abbrev pub IsUnmeasuredImage : Edition → List ℕ → List ℕ → Fault → Type 0
IsUnmeasuredImage edition image name fault = (why : GeometryFault) × (geometry_read edition image ≡ Err why) × IsUnmeasuredAt why name fault

-- the reason why there are no differences: one of the images breaks rule 1 or rule 2, or memory ran out (this project)
abbrev pub IsDiffFault : Edition → NamedImage → NamedImage → Fault → Type 0
IsDiffFault edition old new fault =
    IsUnmeasuredImage edition old.bytes.items old.name.now fault
    ⊎ (IsUnmeasuredImage edition new.bytes.items new.name.now fault ⊎ (fault ≡ no_memory))

-- the status after a text of differences: 0 if it is empty, otherwise 1 (diff)
abbrev pub diff_status : List ℕ → ℕ
diff_status text = if length text == 0 then 0 else 1

-- the status after a list of differences: 0 if it is empty, otherwise 1 (diff)
abbrev pub items_status : List Data → ℕ
items_status datas = if length datas == 0 then 0 else 1

-- a text is the differences between two images in this format, with this status: lines, or an object with an item for each line (this project)
abbrev pub IsDiffShown : OutputForm → Edition → List ℕ → List ℕ → Bool → List ℕ → ℕ → Type 0
IsDiffShown forms.Text edition old new all text status = IsDiff edition old new all text × (status ≡ diff_status text)
IsDiffShown forms.Json edition old new all text status =
    (datas : List Data) × AreDiffData edition old new all datas × (text ≡ lines_json datas) × (status ≡ items_status datas)

-- what a comparison by fields may come to: the differences of two images, with status 1 if there are any; or the reason why there are none (this
-- project)
abbrev pub field_differences : Edition → NamedImage → NamedImage → Bool → OutputForm → Sights
field_differences edition old new all form = silently (IsDiffShown form edition old.bytes.items new.bytes.items all) (IsDiffFault edition old new)

-- the text of the differences is empty if and only if the images are equal byte for byte (this project's law)
abbrev pub TellsNothingIfEqual : Type 0
TellsNothingIfEqual = (edition : Edition) (old new : List ℕ) (all : Bool) (text : List ℕ) → IsDiff edition old new all text → (old ≡ new) ↔ (text ≡ [])

-- in JSON the list of differences is empty if and only if the images are equal byte for byte (this project's law)
abbrev pub ListsNothingIfEqual : Type 0
ListsNothingIfEqual = (edition : Edition) (old new : List ℕ) (all : Bool) (datas : List Data) → AreDiffData edition old new all datas → (old ≡ new) ↔ (datas ≡ [])
