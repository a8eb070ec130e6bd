-- The paths of everything below a directory of an image without lost blocks.
use Rattle.std.proofs.Common.{◌≡◌, ◌∙◌, ◌==◌, ℕ, Bool, true, if◌then◌else◌, List, [], length, Option, Result, Ok, Err, inl, inr, ap, subst}
use Rattle.vol_layout.specs.declared.edition.Edition.{Edition}
use Rattle.vol_listing.specs.declared.options.Screen.{Screen}
use Rattle.command_faults.specs.Faults.{line_after}
use Rattle.command_faults.specs.declared.fault.Fault.{Fault}
use Rattle.command_reads.specs.Export.{told_status}
use Rattle.command_reads.specs.Find.{AreFound, found_sights}
use Rattle.command_reads.specs.Print.{IsSight, telling}
use Rattle.command_reads.specs.Sums.{IsManifestFault}
use Rattle.command_terms.specs.declared.looks.OutputForm.{OutputForm}
use Rattle.command_reads.specs.declared.print.Shown.{Shown}

-- if no block is lost, the lines are about entries that are left out, and the status is 5 if there are any
pub found_plainly : (edition : Edition) (image path : List ℕ) (pattern : Option (List ℕ)) (lost : Bool) (form : OutputForm) (screen : Screen) (result : Result Shown Fault)
    → IsSight (found_sights edition image [] path pattern lost form screen) result
    → IsSight (telling 5 (AreFound edition image [] path pattern lost form screen true) (IsManifestFault edition image path lost)) result
found_plainly edition image path pattern lost form screen (Ok shown) (inl (short, found, status)) =
    let always : short ≡ true = found.told.1 in (
      subst (λ (s : Bool). AreFound edition image [] path pattern lost form screen s shown.text.items (line_after shown.ending.fault)) always found,
      status ∙ ap (λ (s : Bool). if length (line_after shown.ending.fault) == 0 then 0 else told_status true s) always,
    )
found_plainly edition image path pattern lost form screen (Ok shown) (inr (why, begins, told, text, status)) = absurd (cc)
found_plainly edition image path pattern lost form screen (Err fault) (inl memory) = inl memory
found_plainly edition image path pattern lost form screen (Err fault) (inr (why, begins, told, is)) = inr (why, begins, is)
