-- The result of a play.
use Rattle.std.specs.Prelude.{◌≡◌, ◌⊎◌, ℕ, ◌+◌, ◌≤◌, Bool, true, false, List, [], max, All, Err, Ok, Vec}
use Rattle.std.specs.Global.{Global}
use Rattle.std.specs.Io.KnownBytes.{Keeps}
use Rattle.std.specs.List.{list_any}
use Rattle.count_table.specs.Sums.{total, below}
use Rattle.vol_judge.specs.Sound.{IsSound}
use Rattle.vol_volume.specs.Volume.{Mounted, IsConsistent, mounted}
use Rattle.vol_receipts.specs.Agrees.{origin_of, Agrees}
use Rattle.vol_shared.specs.Lists.{BeginsWith, greatest, greatest_of}
use Rattle.vol_shared.specs.Stored.{Stored, stored_of, next_number, Continues}
use Rattle.command_faults.specs.Faults.{IsCause, fault_line, fault_status, no_memory}
use Rattle.command_faults.specs.Streams.{Streams}
use Rattle.command_terms.specs.declared.plays.PlayForm.{PlayForm}
use Rattle.command_terms.specs.declared.plays.PlayForm.TheVariants as forms
use Rattle.vol_scripts.specs.Endings.{Finishes, PrintsPlay, play_json, play_text, receipts_in}
use Rattle.vol_scripts.specs.Scripts.{ReadsScripts, scripts_in}
use Rattle.vol_scripts.specs.Refuse.{AnswersFault, SavesNothing}
use Rattle.vol_trace.specs.Trace.{IsTrace}
use Rattle.vol_play.specs.Players.{InPairs}
use Rattle.vol_play.specs.Steps.{CameOfScript, is_seen, places_made, cuts_made}
use Rattle.vol_layout.specs.declared.edition.Edition.{Edition}
use Rattle.command_faults.specs.declared.answer.Answer.{Answer}
use Rattle.command_faults.specs.declared.fault.Fault.{Fault}
use Rattle.vol_scripts.specs.declared.played.Played.{Played}
use Rattle.vol_scripts.specs.declared.read.ScriptsFault.{ScriptsFault}
use Rattle.vol_scripts.specs.declared.steps.Script.{Script}
use Rattle.vol_scripts.specs.declared.steps.Script.TheVariants as kinds
use Rattle.vol_scripts.specs.declared.steps.ScriptStep.{ScriptStep}
use Rattle.vol_scripts.specs.declared.steps.ScriptStep.TheVariants as steps

-- true if a step cuts the journal (this project)
abbrev pub is_cut : ScriptStep → Bool
is_cut (steps.Change call) = false
is_cut (steps.Question query) = false
is_cut steps.Cut = true

-- true if a script cuts the journal (this project)
abbrev pub script_cuts : Script → Bool
script_cuts (kinds.Session steps) = list_any is_cut steps
script_cuts (kinds.View queries) = false

-- true if one of some scripts cuts the journal (this project)
abbrev pub any_cut : List Script → Bool
any_cut scripts = list_any script_cuts scripts

-- scripts were played on a volume: each line of each script has a result, in order; the volume results from the old one by records that all receipts
-- of sessions agree with, including the receipts from before a cut; the bytes that no call changes stay; if no script cut the journal, it extends the
-- old one; the journal's first number is the greatest that a cut returned, or else the old one; the accepted calls of all scripts have the numbers of
-- the records made since, each once; and each receipt agrees with the journal, unless its number is below the number of the journal's first record
-- (this project)
pub record ArePlayed (opened : Stored) (scripts : List Script) (last : Mounted) (played : List (Vec Played Global)) : Type 0 where
  pub came : InPairs (λ script came. CameOfScript script (next_number opened) came.items) scripts played
  pub goes_on : Continues opened (stored_of last) (λ agrees. All (λ came. is_seen came.items ≡ false → All agrees (receipts_in came.items)) played)
  pub uncut : All (λ came. cuts_made came.items ≡ []) played → (origin_of last ≡ opened.origin) × BeginsWith last.journal opened.journal
  pub first : last.first ≡ max opened.origin.first (greatest (λ came. greatest_of (cuts_made came.items)) played)
  pub places : (weight : ℕ → ℕ) → total (λ came. total weight (places_made came.items)) played + below weight (next_number opened)
      ≡ below weight (next_number (stored_of last))
  pub agree : All (λ came. All (λ receipt. last.first ≤ receipt.at → Agrees (origin_of last) last.journal receipt) (receipts_in came.items)) played

-- scripts were played on the sound volume in an image, whose state afterwards is the one after its journal (this project)
pub record IsPlayed (edition : Edition) (image : List ℕ) (scripts : List Script) (last : Mounted) (played : List (Vec Played Global)) : Type 0 where
  pub sound : IsSound edition image
  pub whole : ArePlayed (stored_of (mounted edition image)) scripts last played
  pub consistent : IsConsistent last

-- a reason to play no step: the first rule that the image breaks, or out of memory (this project)
abbrev pub IsUnplayed : Edition → List ℕ → Fault → Type 0
IsUnplayed edition image fault = IsCause edition image (λ refusal. ⊥) fault

-- standard output is unchanged (this project)
abbrev pub IsSilent : Streams → Type 0
IsSilent streams = Keeps streams.old streams.new × (streams.failed ≡ streams.had_failed)

-- a line of a script can't be read, or memory for the scripts ran out (this project)
abbrev pub StopsUnread : List (Vec ℕ Global) → Streams → Answer → Type 0
StopsUnread scripts streams answer = IsSilent streams × ((fault : ScriptsFault) × ReadsScripts scripts (Err fault) × AnswersFault fault streams.lines answer)

-- no step is played, and the result has the status and the line of the reason (this project)
abbrev pub StopsUnplayed : Edition → List ℕ → Streams → Answer → Type 0
StopsUnplayed edition image streams answer =
    IsSilent streams × ((fault : Fault) × IsUnplayed edition image fault × SavesNothing answer (fault_status fault) streams.lines (fault_line fault))

-- the text is the trace of a volume, if it is wanted; otherwise there is none (this project)
abbrev pub IsTraceIf : Bool → Mounted → List ℕ → Type 0
IsTraceIf true volume text = IsTrace volume text
IsTraceIf false volume text = text ≡ []

-- a play ends with its report as lines, after which the trace is printed, if it is wanted; or memory for the trace runs out, and nothing is printed. In both
-- cases the volume is to be saved (this project)
abbrev pub EndsLines : Mounted → Bool → Bool → Bool → List (Vec Played Global) → Streams → Answer → Type 0
EndsLines last cuts journal trace played streams answer =
    ((text : List ℕ) × IsTraceIf trace last text
    × Finishes last cuts played (PrintsPlay last played (play_text last cuts journal text played) streams.old streams.new streams.had_failed streams.failed) streams.lines answer)
    ⊎ ((trace ≡ true) × Finishes last cuts played (λ printed. (printed ≡ Err no_memory) × IsSilent streams) streams.lines answer)

-- a play ends in a form: as lines, with the trace if it is wanted; or with its report as JSON (this project)
abbrev pub EndsPlay : Mounted → Bool → Bool → PlayForm → List (Vec Played Global) → Streams → Answer → Type 0
EndsPlay last cuts journal (forms.Lines trace) played streams answer = EndsLines last cuts journal trace played streams answer
EndsPlay last cuts journal forms.Json played streams answer =
    Finishes last cuts played (PrintsPlay last played (play_json last cuts journal played) streams.old streams.new streams.had_failed streams.failed) streams.lines answer

-- scripts are played, and the results of their steps are printed in a form, with the journal and the trace if these are wanted (this project)
abbrev pub PlaysAll : Edition → List ℕ → Bool → PlayForm → List Script → Streams → Answer → Type 0
PlaysAll edition image journal form scripts streams answer = (last : Mounted) × (played : List (Vec Played Global))
    × IsPlayed edition image scripts last played × EndsPlay last (any_cut scripts) journal form played streams answer

-- the result of `play`: a line of a script can't be read; or all lines can be read, and no step is played; or all scripts are played (this project)
abbrev pub PlaysVolume : Edition → List ℕ → Bool → PlayForm → List (Vec ℕ Global) → Streams → Answer → Type 0
PlaysVolume edition image journal form scripts streams answer = StopsUnread scripts streams answer
    ⊎ ((read : List Script) × (scripts_in scripts ≡ Ok read)
    × (StopsUnplayed edition image streams answer ⊎ PlaysAll edition image journal form read streams answer))
