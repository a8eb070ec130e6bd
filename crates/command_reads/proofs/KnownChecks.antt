-- A check of an image of which blocks are lost.
use Rattle.std.proofs.Common.{◌≡◌, ◌==◌, ℕ, Bool, false, List, [], ◌∷◌, length, Result}
use Rattle.std.proofs.lemmas.Bool.{true≢false}
use Rattle.vol_layout.specs.declared.edition.Edition.{Edition}
use Rattle.command_faults.specs.declared.fault.Fault.{Fault}
use Rattle.command_reads.specs.Check.{check_sights, known_sights}
use Rattle.command_reads.specs.Print.{IsSight}
use Rattle.command_reads.specs.declared.print.Shown.{Shown}
use Rattle.command_terms.specs.declared.looks.OutputForm.{OutputForm}

-- if a block is lost, what is known of the rules is shown
pub with_marks : (edition : Edition) (image : List ℕ) (lost : List Bool) (graded : Bool) (form : OutputForm) (result : Result Shown Fault) → (length lost == 0) ≡ false
    → IsSight (known_sights edition image lost graded form) result → IsSight (check_sights edition image lost graded form) result
with_marks edition image [] graded form result some shows = absurd (true≢false some)
with_marks edition image (mark ∷ lost) graded form result some shows = shows
