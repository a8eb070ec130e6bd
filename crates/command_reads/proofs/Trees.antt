-- Trees that were compared.
use Rattle.std.proofs.Common.{◌≡◌, ◌∙◌, ◌⊎◌, ℕ, ◌==◌, Bool, false, if◌then◌else◌, not, List, [], ◌∷◌, length, map, ap, subst, sym, refl, inl, inr, Option, Result, Ok, Err, IfOk, IfErr, Some, arith}
use Rattle.std.proofs.lemmas.Bool.{ne_eqb}
use Rattle.std.specs.List.{flat_map}
use Rattle.vol_archive.specs.Write.{Writes}
use Rattle.vol_archive.specs.declared.write.WriteFault.{WriteFault}
use Rattle.vol_compare.specs.Json.{AreTreeData, differences_data, told_data}
use Rattle.vol_compare.specs.Members.{member_of, members}
use Rattle.vol_compare.specs.Merge.{IsTreeText, all_of, merged, merged_lines, rest_of, tree_lines}
use Rattle.vol_compare.specs.declared.members.MetTree.{MetTree}
use Rattle.vol_dir.specs.Walk.{is_nil}
use Rattle.vol_layout.specs.declared.geometry.Geometry.{Geometry}
use Rattle.vol_layout.specs.Geometry.{geometry_read}
use Rattle.vol_layout.specs.declared.edition.Edition.{Edition}
use Rattle.command_faults.specs.Faults.{fault_status, line_after, no_memory}
use Rattle.command_faults.specs.Streams.{Streams}
use Rattle.command_faults.specs.declared.fault.Fault.{Fault}
use Rattle.command_terms.specs.declared.looks.OutputForm.{OutputForm}
use Rattle.command_terms.specs.declared.looks.OutputForm.TheVariants as forms
use Rattle.field_json.specs.Items.{lines_json}
use Rattle.command_reads.specs.Diff.{IsDiffFault, IsUnmeasuredImage, diff_status, items_status}
use Rattle.command_reads.specs.Export.{unwritten}
use Rattle.command_reads.specs.Print.{PrintsInPieces, ShowsInPieces}
use Rattle.command_reads.specs.TreeDiff.{AreRemarks, IsTreeDiff, IsTreeDiffData, IsTreeOf, PrintsTrees, tree_differences, tree_status}
use Rattle.command_reads.specs.declared.diff.NamedImage.{NamedImage}
use Rattle.command_reads.proofs.Printed.{cut_off}

-- the members of a tree are those of its image
met : (times : Bool) (g : Geometry) (image : List ℕ) (tree : MetTree) → IsTreeOf g image tree
    → all_of times tree ≡ members times g image tree.founds.items
unfolding rest_of
met times g image tree is = λ j.
    member_of times (is.geometry j) (is.image j) tree.founds.items (is.root j)
    ∷ map (member_of times (is.geometry j) (is.image j) tree.founds.items) tree.founds.items

-- the lines of two trees are the differences between those of their images
pub compares : (times : Bool) (g : Geometry) (old : List ℕ) (h : Geometry) (new : List ℕ) (was is : MetTree) → IsTreeOf g old was → IsTreeOf h new is
    → IsTreeText times g old h new (tree_lines times was is)
compares times g old h new was is was_met is_met = (
  was.founds.items,
  was_met.founds,
  (is.founds.items, is_met.founds, λ j. merged_lines (met times g old was was_met j) (met times h new is is_met j)),
)

-- so are their items
pub compares_items : (times : Bool) (g : Geometry) (old : List ℕ) (h : Geometry) (new : List ℕ) (was is : MetTree) → IsTreeOf g old was → IsTreeOf h new is
    → AreTreeData times g old h new (differences_data times was is)
compares_items times g old h new was is was_met is_met = (
  was.founds.items,
  was_met.founds,
  (
    is.founds.items,
    is_met.founds,
    λ j. flat_map (told_data times (was_met.geometry j).edition (is_met.geometry j).edition)
        (merged (met times g old was was_met j) (met times h new is is_met j)),
  ),
)

-- the status of a comparison of trees is that of its text
status_of : (text : List ℕ) → tree_status (not (is_nil text)) ≡ diff_status text
status_of [] = refl
status_of (byte ∷ bytes) =
    let some : (length (byte ∷ bytes) == 0) ≡ false = ne_eqb _ _ (λ none. absurd (omega (arith, none))) in
    sym (ap (λ (b : Bool). if b then 0 else 1) some)

-- a comparison that was written, whole or not, is printed so
pub printed_trees : (streams : Streams) (text lines : List ℕ) (status : ℕ) (told : Option Fault) (differ : Result Bool WriteFault)
    → Writes streams.old streams.new streams.had_failed streams.failed text differ → IfOk differ (λ d. d ≡ not (is_nil text))
    → IfOk differ (λ d. status ≡ tree_status d) → IfOk differ (λ d. line_after told ≡ lines)
    → IfErr differ (λ fault. (status ≡ fault_status (unwritten fault)) × (told ≡ Some (unwritten fault))) → streams.lines ≡ line_after told
    → PrintsInPieces (diff_status text) lines streams text status
printed_trees streams text lines status told (Ok d) written differs is line why said = inl (inl (record {
  status = is ∙ (ap tree_status differs ∙ status_of text);
  whole = written.0;
  working = written.1;
  said = said ∙ line;
}))
printed_trees streams text lines status told (Err fault) cut differs is line why said = cut_off (diff_status text) lines streams text status told fault cut why said

-- the reason why the first image isn't measured is one why there are no differences
pub first_unmeasured : (edition : Edition) (old new : NamedImage) (bytes : List ℕ) (fault : Fault) → bytes ≡ old.bytes.items
    → IsUnmeasuredImage edition bytes old.name.now fault ⊎ (fault ≡ no_memory) → IsDiffFault edition old new fault
first_unmeasured edition old new bytes fault same (inl is) = inl (subst (λ b. IsUnmeasuredImage edition b old.name.now fault) same is)
first_unmeasured edition old new bytes fault same (inr memory) = inr (inr memory)

-- so is that why the second image isn't
pub second_unmeasured : (edition : Edition) (old new : NamedImage) (bytes : List ℕ) (fault : Fault) → bytes ≡ new.bytes.items
    → IsUnmeasuredImage edition bytes new.name.now fault ⊎ (fault ≡ no_memory) → IsDiffFault edition old new fault
second_unmeasured edition old new bytes fault same (inl is) = inr (inl (subst (λ b. IsUnmeasuredImage edition b new.name.now fault) same is))
second_unmeasured edition old new bytes fault same (inr memory) = inr (inr memory)

-- if the trees of two images were compared and printed, their differences are shown
pub shows : (form : OutputForm) (edition : Edition) (old new : NamedImage) (times : Bool) (streams : Streams) (status : ℕ) (g h : Geometry)
    (before after : List ℕ) (was is : MetTree) (lines : List ℕ) → before ≡ old.bytes.items → after ≡ new.bytes.items → geometry_read edition before ≡ Ok g
    → geometry_read edition after ≡ Ok h → IsTreeOf g before was → IsTreeOf h after is
    → AreRemarks edition before old.name.now after new.name.now lines
    → PrintsTrees form times was is lines streams status
    → ShowsInPieces (tree_differences edition old new times form) streams status
shows forms.Text edition old new times streams status g h before after was is lines old_is new_is g_is h_is was_met is_met remarks prints =
    let text = tree_lines times was is in
    inl (
      text,
      diff_status text,
      lines,
      (
        (
          subst (λ b. IsTreeDiff edition b new.bytes.items times text) old_is
              (subst (λ a. IsTreeDiff edition before a times text) new_is (g, g_is, (h, h_is, compares times g before h after was is was_met is_met))),
          refl,
        ),
        subst (λ b. AreRemarks edition b old.name.now new.bytes.items new.name.now lines) old_is
            (subst (λ a. AreRemarks edition before old.name.now a new.name.now lines) new_is remarks),
      ),
      prints,
    )
shows forms.Json edition old new times streams status g h before after was is lines old_is new_is g_is h_is was_met is_met remarks (inl prints) =
    let datas = differences_data times was is in
    inl (
      lines_json datas,
      items_status datas,
      lines,
      (
        (
          datas,
          subst (λ b. IsTreeDiffData edition b new.bytes.items times datas) old_is
              (subst (λ a. IsTreeDiffData edition before a times datas) new_is
              (g, g_is, (h, h_is, compares_items times g before h after was is was_met is_met))),
          refl,
          refl,
        ),
        subst (λ b. AreRemarks edition b old.name.now new.bytes.items new.name.now lines) old_is
            (subst (λ a. AreRemarks edition before old.name.now a new.name.now lines) new_is remarks),
      ),
      inl prints,
    )
shows forms.Json edition old new times streams status g h before after was is lines old_is new_is g_is h_is was_met is_met remarks (inr told) =
    inr (no_memory, inr (inr refl), told)
