-- Scripts with several lines, and several scripts.
use Rattle.std.specs.Prelude.{◌≡◌, ℕ, ◌+◌, ◌==◌, ◌&&◌, nat_le, nat_lt, Bool, false, if◌then◌else◌, List, [], ◌∷◌, length, take, drop, Option, Some, None, Result, Ok, Err, Vec, codes}
use Rattle.std.specs.Global.{Global}
use Rattle.std.specs.List.{slice_split}
use Rattle.std.specs.Result.{result_map_both}
use Rattle.std.specs.Str.{bytes_eq}
use Rattle.command_faults.specs.declared.line_flaw.LineFlaw.{LineFlaw}
use Rattle.command_faults.specs.declared.line_flaw.LineFlaw.TheVariants as flaws
use Rattle.command_faults.specs.declared.line_flaw.WordForm.{WordForm}
use Rattle.command_faults.specs.declared.line_flaw.WordForm.TheVariants as forms
use Rattle.vol_scripts.specs.Flaws.{flaw_in, has_bad_first}
use Rattle.vol_scripts.specs.Grammar.{query_in, step_in}
use Rattle.vol_scripts.specs.declared.lines.LineFault.{LineFault}
use Rattle.vol_scripts.specs.declared.lines.LineFault.TheVariants as faults
use Rattle.vol_scripts.specs.declared.read.ScriptFault.{ScriptFault}
use Rattle.vol_scripts.specs.declared.read.ScriptFault.TheVariants as script_faults
use Rattle.vol_scripts.specs.declared.read.ScriptsFault.{ScriptsFault}
use Rattle.vol_scripts.specs.declared.read.ScriptsFault.TheVariants as scripts_faults
use Rattle.vol_scripts.specs.declared.steps.Script.{Script}
use Rattle.vol_scripts.specs.declared.steps.Script.TheVariants as kinds

-- the value that was read is the expected one, and an error means that there is none; out of memory is possible in any case (this project)
abbrev pub Reads : {T : Type 0} → Option T → Result T LineFault → Type 0
Reads written (Ok read) = written ≡ Some read
Reads written (Err faults.Unreadable) = written ≡ None
Reads written (Err faults.NoMemory) = Unit {0}

-- a line that can't be read: its number and its first flaw (this project)
abbrev pub BadLine : Type 0
BadLine = ℕ × Option LineFlaw

-- the step of a line, followed by the steps of the lines after it, unless one of the lines can't be read; `bad` is this line (this project)
abbrev pub before : {T : Type 0} → Option T → BadLine → Result (List T) BadLine → Result (List T) BadLine
before None bad others = Err bad
before (Some asked) bad (Ok others) = Ok (asked ∷ others)
before (Some asked) bad (Err later) = Err later

-- the steps of lines, or the first line that can't be read: the first line has this number, all commands must have this form, and the last element is
-- the text after the last newline, which must be empty (this project)
abbrev pub asked_from : {T : Type 0} → (List ℕ → Option T) → WordForm → ℕ → List (List ℕ) → Result (List T) BadLine
asked_from written form number [] = Ok []
asked_from written form number (rest ∷ []) = if length rest == 0 then Ok [] else Err (number, Some flaws.Unended)
asked_from written form number (line ∷ next ∷ lines) =
    before (written line) (number, flaw_in form line) (asked_from written form (number + 1) (next ∷ lines))

-- the steps of a text's lines, which end at newlines, or the first line that can't be read: the first line has this number, and all commands must
-- have this form (this project)
abbrev pub asked_in : {T : Type 0} → (List ℕ → Option T) → WordForm → ℕ → List ℕ → Result (List T) BadLine
asked_in written command number text = asked_from written command number (slice_split (λ b. b == 10) text)

-- true if the first line of a script is the word `view` (this project)
abbrev pub is_for_view : List ℕ → Bool
is_for_view script = bytes_eq (take 5 script) (codes "view\n")

-- the script in a text, or the first line that can't be read, counted from 1: if the first line is the word `view`, the script is for a view and has
-- the lines after it; else it is for a session (this project)
abbrev pub script_in : List ℕ → Result Script BadLine
script_in script =
    if is_for_view script then result_map_both kinds.View (λ line. line) (asked_in query_in forms.Query 2 (drop 5 script))
    else result_map_both kinds.Session (λ line. line) (asked_in step_in forms.Command 1 script)

-- true if the first line of a script that begins with these bytes can't be read, whatever follows them; fewer than 5 bytes may be the beginning of the
-- line `view` (this project)
abbrev pub has_bad_start : List ℕ → Bool
has_bad_start front =
    if nat_lt (length front) 5 then false
    else if is_for_view front then false else has_bad_first (slice_split (λ b. b == 10) front)

-- the script that was read is the expected one, or the first line that can't be read is this one; out of memory is possible in any case (this
-- project)
abbrev pub ReadsScript : {T : Type 0} → Result T BadLine → Result T ScriptFault → Type 0
ReadsScript written (Ok read) = written ≡ Ok read
ReadsScript written (Err (script_faults.Line number flaw)) = written ≡ Err (number, flaw)
ReadsScript written (Err script_faults.NoMemory) = Unit {0}

-- the script in a text after `views` scripts for views: at most 16 scripts may be for views, and the first line of a further one can't be read (this
-- project)
abbrev pub script_after : ℕ → List ℕ → Result Script BadLine
script_after views script = if is_for_view script && nat_le 16 views then Err (1, Some flaws.TooManyViews) else script_in script

-- the number of scripts for views, including this script (this project)
abbrev pub views_after : ℕ → List ℕ → ℕ
views_after views script = if is_for_view script then views + 1 else views

-- a script, followed by the scripts after it, unless one of the lines can't be read; the number is the script's (this project)
abbrev pub before_scripts : Result Script BadLine → ℕ → Result (List Script) (ℕ × BadLine) → Result (List Script) (ℕ × BadLine)
before_scripts (Err line) number others = Err (number, line)
before_scripts (Ok script) number (Ok others) = Ok (script ∷ others)
before_scripts (Ok script) number (Err later) = Err later

-- all scripts, or the script and the line of the first line that can't be read; the first script has this number, and comes after `views` scripts for
-- views (this project)
abbrev pub scripts_from : ℕ → ℕ → List (Vec ℕ Global) → Result (List Script) (ℕ × BadLine)
scripts_from number views [] = Ok []
scripts_from number views (script ∷ scripts) =
    before_scripts (script_after views script.items) number (scripts_from (number + 1) (views_after views script.items) scripts)

-- all scripts, or the first line that can't be read, with the number of its script and of the line, both from 1 (this project)
abbrev pub scripts_in : List (Vec ℕ Global) → Result (List Script) (ℕ × BadLine)
scripts_in scripts = scripts_from 1 0 scripts

-- scripts were read: these are the scripts, or this is the first line that can't be read; out of memory is possible in any case (this project)
abbrev pub ReadsScripts : List (Vec ℕ Global) → Result (Vec Script Global) ScriptsFault → Type 0
ReadsScripts scripts (Ok read) = scripts_in scripts ≡ Ok read.items
ReadsScripts scripts (Err (scripts_faults.Line script line flaw)) = scripts_in scripts ≡ Err (script, (line, flaw))
ReadsScripts scripts (Err scripts_faults.NoMemory) = Unit {0}
