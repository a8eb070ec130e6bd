-- What `ls` shows of an image with lost blocks is one of the things that it may come to.
use Rattle.std.proofs.Common.{arith, ◌≡◌, ◌==◌, ℕ, Bool, true, false, true≢false, List, [], ◌∷◌, length, Some, Result, Ok, Err, IfErr, IfOk, inl, inr}
use Rattle.std.proofs.lemmas.Bool.{eqb-true}
use Rattle.vol_layout.specs.declared.edition.Edition.{Edition}
use Rattle.vol_listing.specs.declared.options.ListOptions.{ListOptions}
use Rattle.vol_listing.specs.declared.options.Screen.{Screen}
use Rattle.command_faults.specs.Faults.{line_after, no_memory}
use Rattle.command_faults.specs.declared.fault.Fault.{Fault}
use Rattle.command_reads.specs.BadFiles.{IsFileUnreached, IsFileUnreachedFault}
use Rattle.command_reads.specs.BadLists.{IsKnownSight, known_list_sights, list_sights}
use Rattle.command_reads.specs.Node.{number_at}
use Rattle.command_reads.specs.Print.{IsSight}
use Rattle.command_reads.specs.Unsound.{listable}
use Rattle.command_reads.specs.declared.print.Shown.{Shown}

-- if a block is lost, these are the things
with_losses : (edition : Edition) (image : List ℕ) (lost : List Bool) (path : List ℕ) (listing : ListOptions) (screen : Screen) (result : Result Shown Fault)
    → (length lost == 0) ≡ false → IsSight (known_list_sights edition image lost path listing screen) result
    → IsSight (list_sights edition image lost path listing screen) result
with_losses edition image [] path listing screen result some sight = absurd (true≢false some)
with_losses edition image (mark ∷ lost) path listing screen result some sight = sight

-- a node that is listed
pub listed : (edition : Edition) (image : List ℕ) (lost : List Bool) (path : List ℕ) (listing : ListOptions) (screen : Screen) (result : Result Shown Fault)
    → (length lost == 0) ≡ false
    → IfOk result (λ shown. IsKnownSight edition image lost path listing screen shown.text.items shown.ending.status (line_after shown.ending.fault))
    → IfErr result (λ fault. fault ≡ no_memory) → IsSight (list_sights edition image lost path listing screen) result
listed edition image lost path listing screen (Ok shown) some known fault =
    with_losses edition image lost path listing screen (Ok shown) some (inl known)
listed edition image lost path listing screen (Err why) some known fault =
    with_losses edition image lost path listing screen (Err why) some (inl fault)

-- a node that isn't listed
pub unlisted : (edition : Edition) (image : List ℕ) (lost : List Bool) (path : List ℕ) (listing : ListOptions) (screen : Screen) (result : Result Shown Fault)
    → (length lost == 0) ≡ false
    → IfOk result (λ shown. IsFileUnreached edition image lost (Some path) (number_at edition image path) (listable listing edition image) shown.text.items
    shown.ending.status (line_after shown.ending.fault))
    → IfErr result (IsFileUnreachedFault edition image lost (Some path) (number_at edition image path) (listable listing edition image))
    → IsSight (list_sights edition image lost path listing screen) result
unlisted edition image lost path listing screen (Ok shown) some way fault =
    with_losses edition image lost path listing screen (Ok shown) some (inr way)
unlisted edition image lost path listing screen (Err why) some way fault =
    with_losses edition image lost path listing screen (Err why) some fault

-- if none is, so is a listing of an image that need not be sound
pub list_whole : (edition : Edition) (image : List ℕ) (lost : List Bool) (path : List ℕ) (listing : ListOptions) (screen : Screen) (result : Result Shown Fault)
    → (length lost == 0) ≡ true → IsSight (list_sights edition image [] path listing screen) result
    → IsSight (list_sights edition image lost path listing screen) result
list_whole edition image [] path listing screen result none sight = sight
list_whole edition image (mark ∷ lost) path listing screen result none sight =
    let empty = eqb-true (length (mark ∷ lost)) 0 none in absurd (omega (arith, empty))
