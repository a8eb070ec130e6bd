-- Reports, archives and texts, as C gets them.
use Rattle.std.specs.Prelude.{◌≡◌, ℕ, ℤ, pos, nat_eq, if◌then◌else◌, not, Bool, List, Option, None, Some, Ok, Err}
use Rattle.std.specs.List.{count_by}
use Rattle.vol_dir.specs.Refusals.{number_of}
use Rattle.vol_layout.specs.declared.edition.Edition.{Edition}
use Rattle.vol_layout.specs.declared.geometry.GeometryFault.TheVariants.{Short, Bounds}
use Rattle.vol_reports.specs.Texts.{report_text}
use Rattle.vol_reports.specs.declared.line.Line.{Line}
use Rattle.vol_check.specs.SweepReports.{IsReport}
use Rattle.vol_check.specs.declared.checker.Checker.{Checker}
use Rattle.vol_check.specs.declared.checker.Checker.TheVariants.{Blocks, Entries, Names}
use Rattle.vol_findings.specs.Reports.{IsReport as IsFindings}
use Rattle.vol_dir.specs.Directories.{find_directory}
use Rattle.vol_archive.specs.Laws.{is_kept}
use Rattle.vol_archive.specs.Members.{archive_bytes}
use Rattle.vol_archive.specs.Walk.{IsWalk}
use Rattle.vol_dir.specs.declared.directories.FoundDirectory.{FoundDirectory}
use Rattle.vol_dir.specs.declared.directories.DirectoryFault.{DirectoryFault}
use Rattle.vol_dir.specs.declared.directories.DirectoryFault.TheVariants.{Unsound, Refused}
use Rattle.vol_archive.specs.declared.met_entries.MetEntry.{MetEntry}
use Rattle.unixvol_c.specs.Opened.{Opened}

-- the handle is open before and after, and this relation holds between its contents (this project)
abbrev pub BothHeld : Option Opened → Option Opened → (Opened → Opened → Type 0) → Type 0
BothHeld (Some old) (Some new) relation = relation old new
BothHeld _ _ relation = ⊥

-- the checker with a letter: i icheck, d dcheck, n ncheck (this project)
abbrev pub checker_of : ℕ → Option Checker
checker_of letter =
    if nat_eq letter 105 then Some Blocks else if nat_eq letter 100 then Some Entries else if nat_eq letter 110 then Some Names else None

-- a text is the report of a checker on an image (icheck, dcheck, ncheck)
pub record IsReportText (checker : Checker) (edition : Edition) (image text : List ℕ) : Type 0 where
  pub lines : List Line
  pub report : IsReport checker edition image lines
  pub words : text ≡ report_text lines

-- the report with this letter is stored as the answer, and the volume is unchanged (this project)
pub record KeepsReport (letter : ℕ) (old new : Opened) : Type 0 where
  pub checker : Checker
  pub named : checker_of letter ≡ Some checker
  pub report : IsReportText checker old.volume.edition old.volume.image new.answer
  pub volume : new.volume ≡ old.volume

-- the number of entries that the walk found and that aren't members of an archive (this project)
abbrev pub left_out : List MetEntry → ℕ
left_out founds = count_by (λ (found : MetEntry). not (is_kept found.role)) founds

-- the bytes are the archive of the entries that the walk found below a starting directory, and `count` of these are left out (POSIX ustar)
pub record IsArchive (start : FoundDirectory) (image bytes : List ℕ) (count : ℕ) : Type 0 where
  pub founds : List MetEntry
  pub walked : IsWalk start.geometry image start.inode founds
  pub members : bytes ≡ archive_bytes start.geometry image founds
  pub counted : count ≡ left_out founds

-- the archive of the contents of the directory at a path is stored as the answer, and the volume is unchanged (this project)
pub record KeepsArchive (path : List ℕ) (count : ℕ) (old new : Opened) : Type 0 where
  pub start : FoundDirectory
  pub begun : find_directory old.volume.edition old.volume.image path ≡ Ok start
  pub archive : IsArchive start old.volume.image new.answer count
  pub volume : new.volume ≡ old.volume

-- the number for the reason why there is nothing to export (this project)
abbrev pub start_number : DirectoryFault → ℕ
start_number (Unsound Short) = 201
start_number (Unsound Bounds) = 202
start_number (Refused refusal) = number_of refusal

-- no export can start at a path, and this is the number for the reason (this project)
abbrev pub IsNoStart : List ℕ → Opened → ℤ → Type 0
IsNoStart path held number =
    (fault : DirectoryFault) × (find_directory held.volume.edition held.volume.image path ≡ Err fault) × (number ≡ pos (start_number fault))

-- a text has the findings for the twelve rules (this project)
pub record Explains (edition : Edition) (image text : List ℕ) : Type 0 where
  pub is_sound : Bool
  pub report : IsFindings edition image text is_sound
