-- The end of a command that saves a volume, and then prints the trace of its calls.
use Rattle.std.specs.Prelude.{◌≡◌, ◌⊎◌, ℕ, true, List, Option, None, Some, Result, Ok, Err}
use Rattle.std.specs.Global.{Vec}
use Rattle.std.specs.Io.KnownBytes.{Appends, Keeps}
use Rattle.pdp_words.specs.Devices.{AppendsFront}
use Rattle.command_faults.specs.Faults.{fault_line, fault_status}
use Rattle.command_faults.specs.Streams.{Streams}
use Rattle.command_faults.specs.declared.answer.Remarked.{Remarked}
use Rattle.command_faults.specs.declared.fault.Fault.{Fault}
use Rattle.command_faults.specs.declared.fault.Fault.TheVariants as faults

-- nothing is printed, and these lines are reported, with a status (this project)
pub record IsQuiet (wanted : ℕ) (lines : List ℕ) (streams : Streams) (status : ℕ) : Type 0 where
  pub ended : status ≡ wanted
  pub kept : Keeps streams.old streams.new
  pub working : streams.failed ≡ streams.had_failed
  pub said : streams.lines ≡ lines

-- a text is printed, and these lines are reported, with status 0; or standard output fails after a prefix of the text, and that is reported instead,
-- with status 3 (this project)
abbrev pub PrintsText : List ℕ → List ℕ → Streams → ℕ → Type 0
PrintsText text lines streams status =
    ((status ≡ 0) × Appends streams.old streams.new text × (streams.failed ≡ streams.had_failed) × (streams.lines ≡ lines))
    ⊎ ((status ≡ 3) × ((count : ℕ) × AppendsFront streams.old streams.new text count) × (streams.failed ≡ true) × (streams.lines ≡ fault_line faults.Output))

-- a trace is printed if there is one, and otherwise nothing is, with status 0; and these lines are reported (this project)
abbrev pub PrintsTrace : Option (Vec ℕ) → List ℕ → Streams → ℕ → Type 0
PrintsTrace None lines streams status = IsQuiet 0 lines streams status
PrintsTrace (Some text) lines streams status = PrintsText text.items lines streams status

-- the run of a command with this outcome ends: its bytes are saved, and then its trace is printed, if it has one; or they can't be saved, with the status
-- for that, and nothing is printed; or its fault is reported, with the status for that, and nothing is printed (this project)
abbrev pub EndsTraced : (List ℕ → Type 0) → Result Remarked Fault → Streams → ℕ → Type 0
EndsTraced taken (Ok made) streams status =
    (taken made.bytes.items × PrintsTrace made.trace made.lines.items streams status)
    ⊎ (((status ≡ 3) ⊎ (status ≡ 4)) × IsQuiet status made.lines.items streams status)
EndsTraced taken (Err fault) streams status = IsQuiet (fault_status fault) (fault_line fault) streams status
