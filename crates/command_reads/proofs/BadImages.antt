-- Looks at images of which some blocks couldn't be read, by the images that are rescued.
use Rattle.std.proofs.Common.{ℕ, List, Bool, Option, Result, Ok, Err, inl, inr}
use Rattle.std.specs.Prelude.{IfErr}
use Rattle.vol_layout.specs.declared.edition.Edition.{Edition}
use Rattle.vol_listing.specs.declared.options.Screen.{Screen}
use Rattle.vol_losses.specs.declared.given_sizes.VolumeSizes.{VolumeSizes}
use Rattle.command_faults.specs.Streams.{Streams}
use Rattle.command_reads.specs.BadImages.{IsBadRescued, TellsBadUnread}
use Rattle.command_reads.specs.BadLooks.{LooksBad, ShowsRescued}
use Rattle.command_reads.specs.declared.bad_looks.BadBlocks.{BadBlocks}
use Rattle.command_reads.specs.declared.bad_looks.BadBlocks.TheVariants as bads
use Rattle.command_terms.specs.declared.bad_looks.BadLook.{BadLook}

-- what an error implies
pub if_err : {A B : Type 0} {P Q : B → Type 0} (result : Result A B) → ((fault : B) → P fault → Q fault) → IfErr result P → IfErr result Q
if_err (Ok value) implies holds = tt
if_err (Err fault) implies holds = implies fault holds

-- what was read of an image is shown
pub looks_rescued : (edition : Edition) (bytes : List ℕ) (sizes : Option VolumeSizes) (look : BadLook) (screen : Screen) (streams : Streams) (status : ℕ)
    (image : List ℕ) (lost : List Bool) (bad : BadBlocks) → IsBadRescued edition bytes sizes image lost bad
    → ShowsRescued edition image lost screen streams status look → LooksBad edition bytes sizes look screen streams status bad
looks_rescued edition bytes sizes look screen streams status image lost (bads.Outside ranges) is shows = inl (image, lost, is, shows)
looks_rescued edition bytes sizes look screen streams status image lost (bads.Map map) is shows = inl (is.0, is.1, inl (image, lost, is.2, shows))

-- there is no image, which is reported
pub looks_unread : (edition : Edition) (bytes : List ℕ) (sizes : Option VolumeSizes) (look : BadLook) (screen : Screen) (streams : Streams) (status : ℕ)
    (bad : BadBlocks) → TellsBadUnread edition bytes sizes streams status bad → LooksBad edition bytes sizes look screen streams status bad
looks_unread edition bytes sizes look screen streams status (bads.Outside ranges) tells = inr tells
looks_unread edition bytes sizes look screen streams status (bads.Map map) (inl (ranges, is, tells)) = inl (ranges, is, inr tells)
looks_unread edition bytes sizes look screen streams status (bads.Map map) (inr tells) = inr tells
