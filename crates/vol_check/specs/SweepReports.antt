-- The report of a sweep.
use Rattle.std.specs.Prelude.{◌≡◌, ℕ, List}
use Rattle.vol_layout.specs.declared.edition.Edition.{Edition}
use Rattle.vol_reports.specs.declared.line.Line.{Line}
use Rattle.vol_reports.specs.Reports.{block_report, entry_report, IsNameReport}
use Rattle.vol_check.specs.declared.checker.Checker.{Checker}
use Rattle.vol_check.specs.declared.checker.Checker.TheVariants.{Blocks, Entries, Names}

-- these lines are a checker's report of an image (icheck, dcheck, ncheck)
abbrev pub IsReport : Checker → Edition → List ℕ → List Line → Type 0
IsReport Blocks edition image lines = lines ≡ block_report edition image
IsReport Entries edition image lines = lines ≡ entry_report edition image
IsReport Names edition image lines = IsNameReport edition image lines
