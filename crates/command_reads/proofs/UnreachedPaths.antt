-- What a look shows whose path leads to no directory is one of its possible texts or faults.
use Rattle.std.proofs.Common.{◌≡◌, ℕ, Bool, List, Option, Result, Ok, Err, IfOk, IfErr, inr}
use Rattle.vol_dir.specs.declared.directories.DirectoryFault.{DirectoryFault}
use Rattle.vol_layout.specs.declared.edition.Edition.{Edition}
use Rattle.vol_listing.specs.declared.options.Screen.{Screen}
use Rattle.command_faults.specs.Faults.{line_after}
use Rattle.command_faults.specs.declared.fault.Fault.{Fault}
use Rattle.command_reads.specs.Export.{begun}
use Rattle.command_reads.specs.Find.{found_sights}
use Rattle.command_reads.specs.Print.{IsSight}
use Rattle.command_reads.specs.Sums.{sums_sights}
use Rattle.command_reads.specs.Unreached.{IsUnreached, IsUnreachedFault}
use Rattle.command_reads.specs.declared.print.Shown.{Shown}
use Rattle.command_terms.specs.declared.looks.OutputForm.{OutputForm}

-- what is shown, and what is reported, if the path leads to no directory for this reason
abbrev ShowsUnreached : Edition → List ℕ → List Bool → List ℕ → DirectoryFault → Result Shown Fault → Type 0
ShowsUnreached edition image lost path why result = (orphans : Bool) → begun orphans edition image path ≡ Err why
    → IfOk result (λ shown. IsUnreached orphans edition image lost path shown.text.items shown.ending.status (line_after shown.ending.fault))

abbrev ReportsUnreached : Edition → List ℕ → List Bool → List ℕ → DirectoryFault → Result Shown Fault → Type 0
ReportsUnreached edition image lost path why result = (orphans : Bool) → begun orphans edition image path ≡ Err why
    → IfErr result (λ fault. IsUnreachedFault orphans edition image lost path fault)

pub unreached_found : (edition : Edition) (image : List ℕ) (lost : List Bool) (path : List ℕ) (pattern : Option (List ℕ)) (orphans : Bool) (form : OutputForm) (screen : Screen)
    (why : DirectoryFault) (result : Result Shown Fault) → begun orphans edition image path ≡ Err why → ShowsUnreached edition image lost path why result
    → ReportsUnreached edition image lost path why result → IsSight (found_sights edition image lost path pattern orphans form screen) result
unreached_found edition image lost path pattern orphans form screen why (Ok shown) begins shows reports = inr (shows orphans begins)
unreached_found edition image lost path pattern orphans form screen why (Err fault) begins shows reports = reports orphans begins

pub unreached_sums : (edition : Edition) (image : List ℕ) (lost : List Bool) (path : List ℕ) (form : OutputForm) (orphans : Bool) (why : DirectoryFault)
    (result : Result Shown Fault) → begun orphans edition image path ≡ Err why → ShowsUnreached edition image lost path why result
    → ReportsUnreached edition image lost path why result → IsSight (sums_sights edition image lost path form orphans) result
unreached_sums edition image lost path form orphans why (Ok shown) begins shows reports = inr (shows orphans begins)
unreached_sums edition image lost path form orphans why (Err fault) begins shows reports = reports orphans begins
