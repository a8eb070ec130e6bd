-- The end of a play.
use Rattle.std.specs.Prelude.{◌≡◌, ◌⊎◌, ℕ, ◌+◌, ◌++◌, Bool, true, nat_lt, if◌then◌else◌, List, [], ◌∷◌, length, map, fold, max, count_by, Option, Some, None, IsSomeAnd, Result, Ok, Err, Vec}
use Rattle.std.specs.Global.{Global}
use Rattle.std.specs.Io.KnownBytes.{Appends, Keeps}
use Rattle.pdp_words.specs.Devices.{AppendsFront}
use Rattle.command_faults.specs.Faults.{fault_status, fault_line, no_memory}
use Rattle.command_faults.specs.declared.answer.Answer.{Answer}
use Rattle.command_faults.specs.declared.fault.Fault.{Fault}
use Rattle.command_faults.specs.declared.fault.Fault.TheVariants as faults
use Rattle.vol_receipts.specs.Agrees.{origin_of}
use Rattle.vol_receipts.specs.Findings.{AreCounted}
use Rattle.vol_receipts.specs.declared.confirm_many.Confirmed.{Confirmed}
use Rattle.vol_receipts.specs.declared.receipts.Outcome.{Outcome}
use Rattle.vol_receipts.specs.declared.receipts.Outcome.TheVariants as outcomes
use Rattle.vol_receipts.specs.declared.receipts.Receipt.{Receipt}
use Rattle.vol_scripts.specs.Journal.{journal_if}
use Rattle.vol_scripts.specs.Report.{lines_text, totals_text}
use Rattle.vol_scripts.specs.ReportJson.{journal_data, report_line, scripts_data}
use Rattle.vol_scripts.specs.declared.form.ReportForm.{ReportForm}
use Rattle.vol_scripts.specs.declared.form.ReportForm.TheVariants as forms
use Rattle.vol_scripts.specs.declared.played.Played.{Played}
use Rattle.vol_scripts.specs.declared.played.Played.TheVariants as played
use Rattle.vol_volume.specs.Volume.{Mounted}

-- the status for an outcome: 1 for a refusal (this project)
abbrev pub outcome_status : Outcome → ℕ
outcome_status (outcomes.Accepted done) = 0
outcome_status (outcomes.Refused refusal) = 1
outcome_status (outcomes.Answered reply) = 0

-- the status for the result of a step: 4 for out of memory, and if a view couldn't read the published version (this project)
abbrev pub step_status : Played → ℕ
step_status (played.Told receipt) = outcome_status receipt.outcome
step_status (played.Cut first) = 0
step_status played.NoMemory = 4
step_status played.NotEntered = 4
step_status played.View = 0

-- the status for the results of a script's steps: the greatest (this project)
abbrev pub script_status : List Played → ℕ
script_status steps = fold max 0 (map step_status steps)

-- the status for the results of all steps: the greatest (this project)
abbrev pub scripts_status : List (Vec Played Global) → ℕ
scripts_status scripts = fold max 0 (map (λ script. script_status script.items) scripts)

-- the lines of scripts, the first of which has this number (this project)
abbrev pub scripts_text : ℕ → List (Vec Played Global) → List ℕ
scripts_text number [] = []
scripts_text number (script ∷ scripts) = lines_text number 1 script.items ++ scripts_text (number + 1) scripts

-- the receipts of the steps of a script (this project)
abbrev pub receipts_in : List Played → List Receipt
receipts_in [] = []
receipts_in (played.Told receipt ∷ steps) = receipt ∷ receipts_in steps
receipts_in (played.Cut first ∷ steps) = receipts_in steps
receipts_in (played.NoMemory ∷ steps) = receipts_in steps
receipts_in (played.NotEntered ∷ steps) = receipts_in steps
receipts_in (played.View ∷ steps) = receipts_in steps

-- the receipts of all scripts, script by script (this project)
abbrev pub all_receipts : List (Vec Played Global) → List Receipt
all_receipts [] = []
all_receipts (script ∷ scripts) = receipts_in script.items ++ all_receipts scripts

-- the number of receipts whose records were cut, if a script cuts the journal (this project)
abbrev pub gone_of : Mounted → Bool → List Receipt → Option ℕ
gone_of volume cuts receipts = if cuts then Some (count_by (λ receipt. nat_lt receipt.at volume.first) receipts) else None

-- the whole report, given the number of receipts that agree with the journal; at its end are the journal, if it is wanted, and what is printed after
-- it (this project)
abbrev pub play_text : Mounted → Bool → Bool → List ℕ → List (Vec Played Global) → ℕ → List ℕ
play_text volume cuts journal more scripts agree =
    scripts_text 1 scripts ++ totals_text (length volume.journal) agree (gone_of volume cuts (all_receipts scripts)) ++ journal_if journal volume.journal
    ++ more

-- the whole report as JSON, given the number of receipts that agree with the journal: the results of all lines, the numbers of the last lines, and the
-- journal, if it is wanted (this project)
abbrev pub play_json : Mounted → Bool → Bool → List (Vec Played Global) → ℕ → List ℕ
play_json volume cuts journal scripts agree =
    report_line (scripts_data 1 scripts) (length volume.journal) agree (gone_of volume cuts (all_receipts scripts)) (journal_data journal volume.journal)

-- the whole report in a form, given the number of receipts that agree with the journal (this project)
abbrev pub form_text : Mounted → Bool → Bool → ReportForm → List (Vec Played Global) → ℕ → List ℕ
form_text volume cuts journal (forms.Lines more) scripts = play_text volume cuts journal more.items scripts
form_text volume cuts journal forms.Json scripts = play_json volume cuts journal scripts

-- `agree` receipts agree with the journal, or 0 if memory ran out (this project)
abbrev pub AreConfirmed : Mounted → List Receipt → Option Confirmed → ℕ → Type 0
AreConfirmed volume receipts (Some confirmed) agree = AreCounted (origin_of volume) volume.journal receipts confirmed × (agree ≡ confirmed.agree)
AreConfirmed volume receipts None agree = agree ≡ 0

-- the status of a play whose report was printed; if memory for confirming ran out, it is the same as for a step (this project)
abbrev pub printed_status : List (Vec Played Global) → Option Confirmed → ℕ
printed_status scripts (Some confirmed) = scripts_status scripts
printed_status scripts None = 4

-- for some result of confirming the receipts, the report, which has the number of those that agree with the journal, satisfies `goes_out` (this project)
abbrev pub Reports : Mounted → List (Vec Played Global) → (ℕ → List ℕ) → (List ℕ → Option Confirmed → Type 0) → Type 0
Reports volume scripts report goes_out = (confirmed : Option Confirmed) × (agree : ℕ)
    × AreConfirmed volume (all_receipts scripts) confirmed agree
    × goes_out (report agree) confirmed

-- the bytes that are written to standard output: the report; or, if standard output failed, a prefix of it; or nothing, if memory ran out (this
-- project)
abbrev pub PrintsPlay : Mounted → List (Vec Played Global) → (ℕ → List ℕ) → Option (List ℕ) → Option (List ℕ) → Bool → Bool → Result ℕ Fault → Type 0
PrintsPlay volume scripts report old new had_failed failed (Ok status) = (failed ≡ had_failed)
    × Reports volume scripts report (λ text confirmed. Appends old new text × (status ≡ printed_status scripts confirmed))
PrintsPlay volume scripts report old new had_failed failed (Err faults.Output) =
    (failed ≡ true) × Reports volume scripts report (λ text confirmed. (count : ℕ) × AppendsFront old new text count)
PrintsPlay volume scripts report old new had_failed failed (Err fault) =
    (fault ≡ no_memory) × (failed ≡ had_failed) × Keeps old new

-- the result of a play: the bytes of the volume are to be saved; the report is printed without a line on standard error, or there is a fault, with
-- its status and its line (this project)
pub record Finishes (volume : Mounted) (cuts : Bool) (scripts : List (Vec Played Global)) (printed : Result ℕ Fault → Type 0)
    (lines : List ℕ) (answer : Answer) : Type 0 where
  pub saved : IsSomeAnd answer.image (λ bytes. bytes.items ≡ volume.image)
  pub ended : (printed (Ok answer.status) × (lines ≡ [])) ⊎ ((fault : Fault) × printed (Err fault) × (answer.status ≡ fault_status fault) × (lines ≡ fault_line fault))
