-- The number of lines of a name report, which is counted before the memory for them is taken.
use Rattle.std.specs.Prelude.{ℕ, ◌≤◌, if◌then◌else◌, List, length, Option, None, Some, Result, Ok, Err}
use Rattle.vol_layout.specs.declared.edition.Edition.{Edition}
use Rattle.vol_layout.specs.declared.geometry.Geometry.{Geometry}
use Rattle.vol_layout.specs.declared.geometry.GeometryFault.{GeometryFault}
use Rattle.vol_file.specs.Rules.{kind_at}
use Rattle.vol_dir.specs.Names.{is_dots}
use Rattle.vol_reports.specs.Ncheck.{entries_in, all_entries}
use Rattle.vol_reports.specs.Reports.{IsNameReport}
use Rattle.vol_reports.specs.declared.line.Line.{Line}

-- 1 for an entry whose name is neither `.` nor `..`, else 0 (ncheck)
abbrev pub named_one : Option (List ℕ × ℕ) → ℕ
named_one None = 0
named_one (Some entry) = if is_dots entry.0 then 0 else 1

-- the number of names in i-number `d`, for each of which the name report has a line (ncheck)
abbrev pub name_count : Geometry → List ℕ → ℕ → ℕ
name_count g image d = length (entries_in g image d (kind_at g image d))

-- the name report of an image has at least so many lines (ncheck)
abbrev pub HasLines : Edition → List ℕ → ℕ → Type 0
HasLines edition image count = (report : List Line) → IsNameReport edition image report → count ≤ length report

-- the number of lines of the name report of an image with this geometry, one for each entry; 0 without geometry (ncheck)
abbrev pub line_count : Result Geometry GeometryFault → List ℕ → ℕ
line_count (Ok g) image = length (all_entries g image)
line_count (Err fault) image = 0
