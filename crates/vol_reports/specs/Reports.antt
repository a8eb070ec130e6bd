-- The three reports of any image, and the lines in them that are faults.
use Rattle.std.specs.Prelude.{◌≡◌, ℕ, ◌==◌, Bool, true, false, not, List, [], ◌∷◌, take, Result, Ok, Err}
use Rattle.std.specs.List.{list_any}
use Rattle.std.specs.Str.{bytes_eq}
use Rattle.vol_layout.specs.Geometry.{geometry_read}
use Rattle.vol_layout.specs.declared.edition.Edition.{Edition}
use Rattle.vol_layout.specs.declared.geometry.Geometry.{Geometry}
use Rattle.vol_layout.specs.declared.geometry.GeometryFault.{GeometryFault}
use Rattle.vol_layout.specs.declared.geometry.GeometryFault.TheVariants.{Short, Bounds}
use Rattle.vol_reports.specs.Icheck.{block_lines}
use Rattle.vol_reports.specs.Dcheck.{entry_lines}
use Rattle.vol_reports.specs.Ncheck.{dots, IsNameLines}
use Rattle.vol_reports.specs.declared.line.Line.{Line}
use Rattle.vol_reports.specs.declared.line.Line.TheVariants as lines
use Rattle.vol_reports.specs.declared.line.Total.{Total}
use Rattle.vol_reports.specs.declared.line.Total.TheVariants as totals

-- the number of the rule that an image without geometry breaks (this project)
abbrev pub rule_of : GeometryFault → ℕ
rule_of Short = 1
rule_of Bounds = 2

-- the report of an image without geometry (this project)
abbrev pub rule_lines : GeometryFault → List Line
rule_lines fault = lines.Rule (rule_of fault) ∷ []

-- the block report of an image, given the result of reading its geometry (icheck)
abbrev pub block_report_of : Result Geometry GeometryFault → List ℕ → List Line
block_report_of (Ok g) image = block_lines g image
block_report_of (Err fault) image = rule_lines fault

-- the entry report of an image, given the result of reading its geometry (dcheck)
abbrev pub entry_report_of : Result Geometry GeometryFault → List ℕ → List Line
entry_report_of (Ok g) image = entry_lines g image
entry_report_of (Err fault) image = rule_lines fault

-- these lines are the name report of an image, given the result of reading its geometry (ncheck)
abbrev pub IsNameReportOf : Result Geometry GeometryFault → List ℕ → List Line → Type 0
IsNameReportOf (Ok g) image report = IsNameLines g image report
IsNameReportOf (Err fault) image report = report ≡ rule_lines fault

-- the block report of any image (icheck)
abbrev pub block_report : Edition → List ℕ → List Line
block_report edition image = block_report_of (geometry_read edition image) image

-- the entry report of any image (dcheck)
abbrev pub entry_report : Edition → List ℕ → List Line
entry_report edition image = entry_report_of (geometry_read edition image) image

-- these lines are the name report of any image (ncheck)
abbrev pub IsNameReport : Edition → List ℕ → List Line → Type 0
IsNameReport edition image report = IsNameReportOf (geometry_read edition image) image report

-- true if a total is a fault: a number of odd i-nodes other than 0 (icheck; the choice of faults is this project's)
abbrev pub is_faulty_total : Total → ℕ → Bool
is_faulty_total totals.Odd n = not (n == 0)
is_faulty_total totals.Files n = false
is_faulty_total totals.Directories n = false
is_faulty_total totals.Special n = false
is_faulty_total totals.Used n = false
is_faulty_total totals.Free n = false
is_faulty_total totals.Missing n = false

-- true if a line is a fault: every line is, except totals and paths from the root (icheck, dcheck, ncheck; the choice of faults is this project's)
abbrev pub is_faulty : Line → Bool
is_faulty (lines.Rule number) = true
is_faulty (lines.Bad inode count least) = true
is_faulty (lines.Dup block places free) = true
is_faulty (lines.Lost block) = true
is_faulty (lines.FreeList fault number) = true
is_faulty (lines.Total total number) = is_faulty_total total number
is_faulty (lines.Links inode entries links) = true
is_faulty (lines.Name inode path) = bytes_eq (take 3 path) dots

-- true if a report has a fault (this project)
abbrev pub has_faults : List Line → Bool
has_faults report = list_any is_faulty report
