-- The manifest of an image without lost blocks.
use Rattle.std.proofs.Common.{ℕ, Bool, List, [], Result, Ok, Err, inl, inr}
use Rattle.vol_layout.specs.declared.edition.Edition.{Edition}
use Rattle.command_faults.specs.declared.fault.Fault.{Fault}
use Rattle.command_reads.specs.Print.{IsSight, telling}
use Rattle.command_reads.specs.Sums.{IsManifest, IsManifestFault, sums_sights}
use Rattle.command_terms.specs.declared.looks.OutputForm.{OutputForm}
use Rattle.command_reads.specs.declared.print.Shown.{Shown}

-- if no block is lost, the status is 1 if there are lines
pub summed_plainly : (edition : Edition) (image path : List ℕ) (form : OutputForm) (lost : Bool) (result : Result Shown Fault)
    → IsSight (sums_sights edition image [] path form lost) result
    → IsSight (telling 1 (IsManifest edition image [] path form lost) (IsManifestFault edition image path lost)) result
summed_plainly edition image path form lost (Ok shown) (inl is) = is
summed_plainly edition image path form lost (Ok shown) (inr (why, begins, told, text, status)) = absurd (cc)
summed_plainly edition image path form lost (Err fault) (inl memory) = inl memory
summed_plainly edition image path form lost (Err fault) (inr (why, begins, told, is)) = inr (why, begins, is)
