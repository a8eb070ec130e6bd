-- The command that shows which paths of two images differ.
use Rattle.std.specs.Prelude.{◌≡◌, ◌⊎◌, ℕ, Bool, true, if◌then◌else◌, List, [], ◌++◌, Option, None, Some, Ok}
use Rattle.serde_json.specs.Data.{Data}
use Rattle.vol_layout.specs.Geometry.{geometry_read}
use Rattle.vol_layout.specs.declared.edition.Edition.{Edition}
use Rattle.vol_layout.specs.declared.geometry.Geometry.{Geometry}
use Rattle.vol_judge.specs.Sound.{IsJudged}
use Rattle.vol_compare.specs.Json.{AreTreeData, differences_data}
use Rattle.vol_compare.specs.Members.{AreMet, root_entry}
use Rattle.vol_compare.specs.Merge.{IsTreeText, tree_lines}
use Rattle.vol_compare.specs.declared.members.MetTree.{MetTree}
use Rattle.field_json.specs.Items.{lines_json}
use Rattle.command_faults.specs.Faults.{no_memory}
use Rattle.command_faults.specs.Streams.{Streams}
use Rattle.command_terms.specs.declared.looks.OutputForm.{OutputForm}
use Rattle.command_terms.specs.declared.looks.OutputForm.TheVariants as forms
use Rattle.command_reads.specs.Diff.{IsDiffFault, diff_status, items_status, unsound_line}
use Rattle.command_reads.specs.Print.{IsTold, PrintsInPieces, PrintsTelling, Sights}
use Rattle.command_reads.specs.declared.diff.NamedImage.{NamedImage}

-- the tree of an image: its root, and all that a walk from it finds (find)
pub record IsTreeOf (g : Geometry) (bytes : List ℕ) (tree : MetTree) : Type 0 where
  pub image : tree.image.now ≡ bytes
  pub geometry : tree.geometry.now ≡ g
  pub root : tree.root ≡ root_entry g bytes
  pub founds : AreMet g bytes tree.founds.items

-- the text is the differences between the trees of two images: by the law of `vol_compare`, it is empty if and only if they have the same members, no
-- path of which is too long to be followed (diff)
abbrev pub IsTreeDiff : Edition → List ℕ → List ℕ → Bool → List ℕ → Type 0
IsTreeDiff edition old new times text =
    (g : Geometry) × (geometry_read edition old ≡ Ok g) × ((h : Geometry) × (geometry_read edition new ≡ Ok h) × IsTreeText times g old h new text)

-- the data are the differences between the trees of two images, an item for each line of their text (diff)
abbrev pub IsTreeDiffData : Edition → List ℕ → List ℕ → Bool → List Data → Type 0
IsTreeDiffData edition old new times datas =
    (g : Geometry) × (geometry_read edition old ≡ Ok g) × ((h : Geometry) × (geometry_read edition new ≡ Ok h) × AreTreeData times g old h new datas)

-- a text is the differences between the trees of two images in this format, with this status: lines, or an object with an item for each line (this
-- project)
abbrev pub IsTreeShown : OutputForm → Edition → List ℕ → List ℕ → Bool → List ℕ → ℕ → Type 0
IsTreeShown forms.Text edition old new times text status = IsTreeDiff edition old new times text × (status ≡ diff_status text)
IsTreeShown forms.Json edition old new times text status =
    (datas : List Data) × IsTreeDiffData edition old new times datas × (text ≡ lines_json datas) × (status ≡ items_status datas)

-- the line of an image in a file of this name, given the first rule that it breaks; none if it is sound (this project)
abbrev pub soundness_line : Option ℕ → List ℕ → List ℕ
soundness_line None name = []
soundness_line (Some rule) name = unsound_line rule name

-- the line of an image was appended, if it isn't sound (this project)
abbrev pub AppendsSoundness : Edition → List ℕ → List ℕ → List ℕ → List ℕ → Type 0
AppendsSoundness edition image name before after =
    (rule : Option ℕ) × IsJudged true edition image rule × (after ≡ before ++ soundness_line rule name)

-- the lines of two images that aren't sound, in order (this project)
abbrev pub AreRemarks : Edition → List ℕ → List ℕ → List ℕ → List ℕ → List ℕ → Type 0
AreRemarks edition old old_name new new_name lines =
    (first : List ℕ) × AppendsSoundness edition old old_name [] first × AppendsSoundness edition new new_name first lines

-- the status of a comparison: 1 if there is a line (diff)
abbrev pub tree_status : Bool → ℕ
tree_status differ = if differ then 1 else 0

-- what a comparison by trees may come to: the differences between the trees of two images, with status 1 if there are any and the lines of images
-- that aren't sound; or the reason why there are none (this project)
abbrev pub tree_differences : Edition → NamedImage → NamedImage → Bool → OutputForm → Sights
tree_differences edition old new times form = record {
  shows = λ text status lines. IsTreeShown form edition old.bytes.items new.bytes.items times text status
      × AreRemarks edition old.bytes.items old.name.now new.bytes.items new.name.now lines;
  fails = IsDiffFault edition old new;
}

-- two trees that were compared are printed in this format: lines piece by piece, or an object if there is memory for it (this project)
abbrev pub PrintsTrees : OutputForm → Bool → MetTree → MetTree → List ℕ → Streams → ℕ → Type 0
PrintsTrees forms.Text times old new lines streams status =
    PrintsInPieces (diff_status (tree_lines times old new)) lines streams (tree_lines times old new) status
PrintsTrees forms.Json times old new lines streams status =
    PrintsTelling (items_status (differences_data times old new)) lines streams (lines_json (differences_data times old new)) status
    ⊎ IsTold streams no_memory status
