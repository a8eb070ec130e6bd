-- The end of a comparison of two images.
use Rattle.std.proofs.Common.{◌≡◌, ℕ, ◌≤◌, ◌==◌, Bool, true, false, if◌then◌else◌, List, length, Option, inl, inr, subst, sym, arith}
use Rattle.command_faults.proofs.Concluded.{fault_few}
use Rattle.command_reads.specs.Comparison.{ShowsComparison}
use Rattle.command_reads.specs.Diff.{diff_status, field_differences}
use Rattle.command_reads.specs.Print.{Shows, ShowsInPieces}
use Rattle.command_reads.specs.TreeDiff.{IsTreeShown, tree_differences}
use Rattle.command_terms.specs.declared.comparison.Comparison.{Comparison}
use Rattle.command_terms.specs.declared.comparison.Comparison.TheVariants as comparisons
use Rattle.command_terms.specs.declared.looks.OutputForm.{OutputForm}
use Rattle.command_terms.specs.declared.looks.OutputForm.TheVariants as forms
use Rattle.command_reads.specs.declared.diff.NamedImage.{NamedImage}
use Rattle.command_faults.specs.Streams.{Streams}
use Rattle.command_words.specs.declared.invocation.VolumeFile.{VolumeFile}
use Rattle.vol_layout.specs.declared.edition.Edition.{Edition}
use Rattle.unixvol.specs.Compare.{EndsComparison, RunsDiff}
use Rattle.unixvol.specs.Runs.{IsEnd, IsUnread, host_files}
use Rattle.host_files.specs.declared.image_file.Stamp.{Stamp}
use Rattle.unixvol.proofs.Looked.{AreFew, ends_shows}

-- the status after a text of differences is at most 4
status_few : (text : List ℕ) → diff_status text ≤ 4
status_few text = elim (length text == 0) as (λ t. (if t then 0 else 1) ≤ 4) [ true ↦ omega arith | false ↦ omega arith ]

-- a comparison with a status from 1 to 4
ends_badly : (volume : VolumeFile) (other : List ℕ) (by : Comparison) (streams : Streams) (status : ℕ) → 1 ≤ status → status ≤ 4
    → EndsComparison volume other by streams status
ends_badly volume other by streams status least most = record { within = most; whole = λ e. absurd (omega (arith, least, e)) }

-- a comparison that reports nothing if its status is 0
ends_silently : (volume : VolumeFile) (other : List ℕ) (all : Bool) (form : OutputForm) (streams : Streams) (status : ℕ) → IsEnd streams status
    → EndsComparison volume other (comparisons.Fields all form) streams status
ends_silently volume other all form streams status ends = record { within = ends.within; whole = ends.whole }

-- so is that after a list of differences, which may have none
items_few : (none : Bool) → (if none then 0 else 1) ≤ 4
items_few true = omega arith
items_few false = omega arith

-- differences between fields have a status of at most 4, and no lines about them
fields_few : (edition : Edition) (old new : NamedImage) (all : Bool) (form : OutputForm) → AreFew 4 (field_differences edition old new all form)
fields_few edition old new all forms.Text = λ text wanted lines is. (subst (λ n. n ≤ 4) (sym is.0.1) (status_few text), λ e. is.1)
fields_few edition old new all forms.Json = λ text wanted lines is. (subst (λ n. n ≤ 4) (sym is.0.3) (items_few (length is.0.0 == 0)), λ e. is.1)

-- differences between fields that were shown
ends_fields : (volume : VolumeFile) (other : List ℕ) (edition : Edition) (old new : NamedImage) (all : Bool) (form : OutputForm) (streams : Streams)
    (status : ℕ) → Shows (field_differences edition old new all form) streams status → EndsComparison volume other (comparisons.Fields all form) streams status
ends_fields volume other edition old new all form streams status shows =
    ends_silently volume other all form streams status
    (ends_shows 4 (field_differences edition old new all form) streams status (omega arith) (fields_few edition old new all form) shows)

-- differences between trees have a status of at most 4
trees_few : (form : OutputForm) (edition : Edition) (old new : List ℕ) (times : Bool) (text : List ℕ) (status : ℕ)
    → IsTreeShown form edition old new times text status → status ≤ 4
trees_few forms.Text edition old new times text status is = subst (λ n. n ≤ 4) (sym is.1) (status_few text)
trees_few forms.Json edition old new times text status is = subst (λ n. n ≤ 4) (sym is.3) (items_few (length is.0 == 0))

-- differences between trees that were shown
ends_trees : (volume : VolumeFile) (other : List ℕ) (old new : NamedImage) (times : Bool) (form : OutputForm) (streams : Streams) (status : ℕ)
    → old.name.now ≡ volume.image.now → new.name.now ≡ other
    → ShowsInPieces (tree_differences volume.edition old new times form) streams status → EndsComparison volume other (comparisons.Tree times form) streams status
ends_trees volume other old new times form streams status old_is new_is (inl (text, wanted, lines, is, inl (inl printed))) = record {
  within = subst (λ n. n ≤ 4) (sym printed.status) (trees_few form volume.edition old.bytes.items new.bytes.items times text wanted is.0);
  whole = λ e. (
    printed.working,
    (
      old.bytes.items,
      new.bytes.items,
      rw printed.said (rw (old_is, new_is) at is.1),
    ),
  );
}
ends_trees volume other old new times form streams status old_is new_is (inl (text, wanted, lines, is, inl (inr broken))) =
    ends_badly volume other (comparisons.Tree times form) streams status (omega (arith, broken.status)) (omega (arith, broken.status))
ends_trees volume other old new times form streams status old_is new_is (inl (text, wanted, lines, is, inr cut)) =
    ends_badly volume other (comparisons.Tree times form) streams status (omega (arith, cut.status)) (omega (arith, cut.status))
ends_trees volume other old new times form streams status old_is new_is (inr (fault, is, told)) =
    ends_badly volume other (comparisons.Tree times form) streams status (subst (λ n. 1 ≤ n) (sym told.status) (fault_few fault).0)
    (subst (λ n. n ≤ 4) (sym told.status) (fault_few fault).1)

-- a comparison of which nothing was done
unread_ends : {F : Type 0} (remaining : F → Option (List ℕ)) (volume : VolumeFile) (other : List ℕ) (by : Comparison) (streams : Streams) (status : ℕ)
    → IsUnread remaining status → EndsComparison volume other by streams status
unread_ends remaining volume other by streams status (inl is) = ends_badly volume other by streams status (omega (arith, is)) (omega (arith, is))
unread_ends remaining volume other by streams status (inr memory) =
    ends_badly volume other by streams status (omega (arith, memory.0)) (omega (arith, memory.0))

ends_shown : (volume : VolumeFile) (other : List ℕ) (old new : NamedImage) (by : Comparison) (streams : Streams) (status : ℕ)
    → old.name.now ≡ volume.image.now → new.name.now ≡ other
    → ShowsComparison volume.edition old new by streams status → EndsComparison volume other by streams status
ends_shown volume other old new (comparisons.Tree times form) streams status old_is new_is shows =
    ends_trees volume other old new times form streams status old_is new_is shows
ends_shown volume other old new (comparisons.Fields all form) streams status old_is new_is shows =
    ends_fields volume other volume.edition old new all form streams status shows

-- a comparison ends with a status of at most 4, and with 0 only if everything was printed and no fault was reported
pub ends_compared : {F : Type 0} (at : ℕ) (remaining contents : F → Option (List ℕ)) (had : F → Stamp → Type 0) (stood : Stamp → Type 0) (streams : Streams)
    (volume : VolumeFile) (other : List ℕ) (by : Comparison) (status : ℕ) → RunsDiff streams (host_files at remaining contents had stood) volume other by status
    → EndsComparison volume other by streams status
ends_compared at remaining contents had stood streams volume other by status (inl nothing) = unread_ends remaining volume other by streams status nothing.0
ends_compared at remaining contents had stood streams volume other by status (inr done) =
    ends_shown volume other done.0 done.1 by streams status done.4 done.5 done.6
