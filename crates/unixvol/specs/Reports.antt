-- Reports of commands that succeed, on standard error.
use Rattle.std.specs.Prelude.{◌≡◌, ℕ, ◌==◌, ◌&&◌, Bool, true, false, List, Result, Ok, Err}
use Rattle.std.specs.Option.{is_some}
use Rattle.std.specs.Io.KnownBytes.{Keeps}
use Rattle.clap.specs.declared.error.Error.{Error}
use Rattle.command_faults.specs.Streams.{Streams}
use Rattle.command_words.specs.declared.invocation.Invocation.{Invocation}
use Rattle.command_words.specs.declared.invocation.Invocation.TheVariants as invocations
use Rattle.host_files.specs.declared.image_file.Stamp.{Stamp}

-- the system reported two stamps of one file, each for the file at some path (stat(2), st_dev and st_ino)
abbrev pub IsOneFile : (Stamp → Type 0) → Type 0
IsOneFile stood = (one : Stamp) × (other : Stamp) × stood one × stood other × ((one.device == other.device) && (one.ino == other.ino)) ≡ true

-- a command succeeds, prints nothing, and a report of it is on standard error (this project)
pub record IsReportTold (streams : Streams) (report : List ℕ) (code : ℕ) : Type 0 where
  pub status : code ≡ 0
  pub kept : Keeps streams.old streams.new
  pub working : streams.failed ≡ streams.had_failed
  pub said : streams.lines ≡ report

-- true if a command may succeed and still report something: `salvage -o` and `repair` have their reports on standard error if the copy goes to standard
-- output (this project)
abbrev pub may_report : Invocation → Bool
may_report (invocations.Salvage volume copy) = is_some copy
may_report (invocations.Repair volume copy repairing) = is_some copy
may_report _ = false

-- true if the words that were read may succeed and still report something (this project)
abbrev pub may_report_read : Result Invocation Error → Bool
may_report_read (Ok invocation) = may_report invocation
may_report_read (Err error) = false
