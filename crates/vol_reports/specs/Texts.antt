-- The text of a line.
use Rattle.std.specs.Prelude.{ℕ, List, [], ◌∷◌, ◌++◌, codes}
use Rattle.std.specs.List.{flat_map}
use Rattle.std.specs.Fmt.{decimal}
use Rattle.vol_free.specs.FreeWalk.{fault_word}
use Rattle.vol_reports.specs.Icheck.{one_if}
use Rattle.vol_reports.specs.declared.line.Line.{Line}
use Rattle.vol_reports.specs.declared.line.Line.TheVariants as lines
use Rattle.vol_reports.specs.declared.line.Total.{Total}
use Rattle.vol_reports.specs.declared.line.Total.TheVariants as totals

-- the word of a total (this project)
abbrev pub total_word : Total → List ℕ
total_word totals.Files = codes "files"
total_word totals.Directories = codes "directories"
total_word totals.Special = codes "special"
total_word totals.Odd = codes "odd"
total_word totals.Used = codes "used"
total_word totals.Free = codes "free"
total_word totals.Missing = codes "missing"

-- a number with a space before it (this project)
abbrev pub spaced : ℕ → List ℕ
spaced n = 32 ∷ decimal n

-- numbers with a space before each (this project)
unfoldable pub all_spaced : List ℕ → List ℕ
all_spaced numbers = flat_map spaced numbers

-- a word, and numbers after it (this project)
abbrev pub worded : List ℕ → List ℕ → List ℕ
worded word numbers = word ++ all_spaced numbers

-- the text of a line, without its newline; names and paths aren't escaped (this project)
abbrev pub bare_text : Line → List ℕ
bare_text (lines.Rule number) = worded (codes "rule") (number ∷ [])
bare_text (lines.Bad inode count least) = worded (codes "bad") (inode ∷ count ∷ least ∷ [])
bare_text (lines.Dup block places free) = worded (codes "dup") (block ∷ places ∷ one_if free ∷ [])
bare_text (lines.Lost block) = worded (codes "lost") (block ∷ [])
bare_text (lines.FreeList fault number) = worded (fault_word fault) (number ∷ [])
bare_text (lines.Total total count) = worded (total_word total) (count ∷ [])
bare_text (lines.Links inode entries links) = worded (decimal inode) (entries ∷ links ∷ [])
bare_text (lines.Name inode path) = decimal inode ++ (32 ∷ path)

-- the text of a line (this project)
abbrev pub line_text : Line → List ℕ
line_text line = bare_text line ++ 10 ∷ []

-- the text of a report (this project)
unfoldable pub report_text : List Line → List ℕ
report_text report = flat_map line_text report
