-- What a command that prints may come to, and how it is printed.
use Rattle.std.specs.Prelude.{◌≡◌, ◌⊎◌, ◌==◌, ℕ, true, if◌then◌else◌, List, [], length, Result, Ok, Err, String}
use Rattle.std.specs.Global.{Vec}
use Rattle.std.specs.String.{string_bytes}
use Rattle.std.specs.declared.alloc.Global.{Global}
use Rattle.std.specs.Io.KnownBytes.{Appends, Keeps}
use Rattle.pdp_words.specs.Devices.{AppendsFront}
use Rattle.command_faults.specs.Faults.{fault_status, fault_line, line_after, no_memory}
use Rattle.command_faults.specs.Streams.{Streams}
use Rattle.command_faults.specs.declared.fault.Fault.{Fault}
use Rattle.command_faults.specs.declared.fault.Fault.TheVariants as faults
use Rattle.command_terms.specs.declared.looks.OutputForm.{OutputForm}
use Rattle.command_terms.specs.declared.looks.OutputForm.TheVariants as forms
use Rattle.command_reads.specs.declared.print.Shown.{Shown}

-- what a command that prints may come to: texts, each with a status and the lines about it; or faults (this project)
pub record Sights : Type 1 where
  pub shows : List ℕ → ℕ → List ℕ → Type 0
  pub fails : Fault → Type 0

-- texts, each with a status and no lines; or faults (this project)
abbrev pub silently : (List ℕ → ℕ → Type 0) → (Fault → Type 0) → Sights
silently is_text is_fault = record { shows = λ text status lines. is_text text status × (lines ≡ []); fails = is_fault }

-- texts with status 0 and no lines; or faults (this project)
abbrev pub plainly : (List ℕ → Type 0) → (Fault → Type 0) → Sights
plainly is_text is_fault = silently (λ text status. is_text text × (status ≡ 0)) is_fault

-- texts, each with lines about it, and with this status if there are any, else 0; or faults (this project)
abbrev pub telling : ℕ → (List ℕ → List ℕ → Type 0) → (Fault → Type 0) → Sights
telling wanted is_text is_fault =
    record { shows = λ text status lines. is_text text lines × (status ≡ (if length lines == 0 then 0 else wanted)); fails = is_fault }

-- no text and no fault (this project)
abbrev pub nothing : Sights
nothing = plainly (λ text. ⊥) (λ fault. ⊥)

-- what a command shows is one of the possible texts, with its status and its lines, or one of the faults (this project)
abbrev pub IsSight : Sights → Result Shown Fault → Type 0
IsSight sights (Ok shown) = sights.shows shown.text.items shown.ending.status (line_after shown.ending.fault)
IsSight sights (Err fault) = sights.fails fault

-- this text is shown, with this status and no lines (this project)
abbrev pub IsSilent : List ℕ → ℕ → Shown → Type 0
IsSilent text status shown = (shown.text.items ≡ text) × (shown.ending.status ≡ status) × (line_after shown.ending.fault ≡ [])

-- a text with status 0 and no lines, or the same fault (this project)
abbrev pub IsPlainText : Result (Vec ℕ) Fault → Result Shown Fault → Type 0
IsPlainText (Ok text) (Ok shown) = IsSilent text.items 0 shown
IsPlainText (Ok text) (Err fault) = ⊥
IsPlainText (Err fault) (Ok shown) = ⊥
IsPlainText (Err fault) (Err told) = told ≡ fault

-- a string with status 0 and no lines, or the same fault (this project)
abbrev pub IsPlainString : Result (String Global) Fault → Result Shown Fault → Type 0
IsPlainString (Ok text) (Ok shown) = IsSilent (string_bytes text) 0 shown
IsPlainString (Ok text) (Err fault) = ⊥
IsPlainString (Err fault) (Ok shown) = ⊥
IsPlainString (Err fault) (Err told) = told ≡ fault

-- nothing is printed, and a fault is reported, with a status (this project)
pub record IsToldWith (wanted : ℕ) (streams : Streams) (fault : Fault) (code : ℕ) : Type 0 where
  pub status : code ≡ wanted
  pub kept : Keeps streams.old streams.new
  pub working : streams.failed ≡ streams.had_failed
  pub said : streams.lines ≡ fault_line fault

-- nothing is printed, and a fault is reported, with its status (this project)
abbrev pub IsTold : Streams → Fault → ℕ → Type 0
IsTold streams fault code = IsToldWith (fault_status fault) streams fault code

-- standard output failed after a prefix of these bytes was written, which is reported (this project)
pub record IsBrokenOff (streams : Streams) (bytes : List ℕ) (code : ℕ) : Type 0 where
  pub status : code ≡ 3
  pub front : (count : ℕ) × AppendsFront streams.old streams.new bytes count
  pub broken : streams.failed ≡ true
  pub said : streams.lines ≡ fault_line faults.Output

-- memory ran out after some of the bytes were written, and this is reported (this project)
pub record IsCutShort (streams : Streams) (bytes : List ℕ) (code : ℕ) : Type 0 where
  pub status : code ≡ 4
  pub front : (count : ℕ) × AppendsFront streams.old streams.new bytes count
  pub said : streams.lines ≡ fault_line no_memory

-- a text is printed, with a status and these lines (this project)
pub record IsPrintedTelling (wanted : ℕ) (lines : List ℕ) (streams : Streams) (text : List ℕ) (code : ℕ) : Type 0 where
  pub status : code ≡ wanted
  pub whole : Appends streams.old streams.new text
  pub working : streams.failed ≡ streams.had_failed
  pub said : streams.lines ≡ lines

-- a text is printed, with a status and no line (this project)
abbrev pub IsPrintedWith : ℕ → Streams → List ℕ → ℕ → Type 0
IsPrintedWith wanted streams text code = IsPrintedTelling wanted [] streams text code

-- a text is printed, with this status and these lines; or standard output fails after a prefix of it (this project)
abbrev pub PrintsTelling : ℕ → List ℕ → Streams → List ℕ → ℕ → Type 0
PrintsTelling wanted lines streams text status = IsPrintedTelling wanted lines streams text status ⊎ IsBrokenOff streams text status

-- a text is printed, with this status and no line; or standard output fails after a prefix of it (this project)
abbrev pub PrintsWith : ℕ → Streams → List ℕ → ℕ → Type 0
PrintsWith wanted streams text status = PrintsTelling wanted [] streams text status

-- a text is printed; or standard output fails after a prefix of it (this project)
abbrev pub Prints : Streams → List ℕ → ℕ → Type 0
Prints streams text status = PrintsWith 0 streams text status

-- a text is printed piece by piece, with this status and these lines; or standard output fails, or memory runs out, after a prefix of it (this
-- project)
abbrev pub PrintsInPieces : ℕ → List ℕ → Streams → List ℕ → ℕ → Type 0
PrintsInPieces wanted lines streams text status = PrintsTelling wanted lines streams text status ⊎ IsCutShort streams text status

-- one of the possible texts is printed, or one of the faults is reported (this project)
abbrev pub Shows : Sights → Streams → ℕ → Type 0
Shows sights streams status =
    ((text : List ℕ) × (wanted : ℕ) × (lines : List ℕ) × sights.shows text wanted lines × PrintsTelling wanted lines streams text status)
    ⊎ ((fault : Fault) × sights.fails fault × IsTold streams fault status)

-- one of the possible texts is printed piece by piece, or one of the faults is reported (this project)
abbrev pub ShowsInPieces : Sights → Streams → ℕ → Type 0
ShowsInPieces sights streams status =
    ((text : List ℕ) × (wanted : ℕ) × (lines : List ℕ) × sights.shows text wanted lines × PrintsInPieces wanted lines streams text status)
    ⊎ ((fault : Fault) × sights.fails fault × IsTold streams fault status)

-- one of the possible texts is printed, as JSON piece by piece, or one of the faults is reported (this project)
abbrev pub ShowsIn : OutputForm → Sights → Streams → ℕ → Type 0
ShowsIn forms.Text sights streams status = Shows sights streams status
ShowsIn forms.Json sights streams status = ShowsInPieces sights streams status
