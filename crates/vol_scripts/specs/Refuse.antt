-- The result of a play whose scripts can't be read.
use Rattle.std.specs.Prelude.{◌≡◌, ◌⊎◌, ℕ, ◌++◌, List, Option, None, Some, Vec, codes, decimal}
use Rattle.std.specs.Global.{Global}
use Rattle.command_faults.specs.Faults.{fault_line, no_memory}
use Rattle.command_faults.specs.declared.answer.Answer.{Answer}
use Rattle.command_faults.specs.declared.fault.Fault.TheVariants as command_faults
use Rattle.command_faults.specs.declared.line_flaw.LineFlaw.{LineFlaw}
use Rattle.vol_scripts.specs.declared.read.ScriptsFault.{ScriptsFault}
use Rattle.vol_scripts.specs.declared.read.ScriptsFault.TheVariants as faults

-- the message for a line that can't be read (this project)
abbrev pub unread_text : ℕ → ℕ → List ℕ
unread_text script line = codes "unixvol: script " ++ decimal script ++ codes " line " ++ decimal line ++ codes "\n"

-- nothing is to be saved, and the result has this status and, as its lines, this line (this project)
pub record SavesNothing (answer : Answer) (status : ℕ) (lines line : List ℕ) : Type 0 where
  pub unsaved : answer.image ≡ None
  pub ends : answer.status ≡ status
  pub told : lines ≡ line

-- the fault of a result is this line of this script, with this flaw (this project)
abbrev pub Blames : Answer → ℕ → ℕ → Option LineFlaw → Type 0
Blames answer script line flaw = (text : Vec ℕ Global) × (answer.fault ≡ Some (command_faults.BadLine script line text flaw))

-- the result for a fault: the line that can't be read and its flaw, with status 2; or out of memory, with status 4, also if there is too little
-- memory for that message (this project)
abbrev pub AnswersFault : ScriptsFault → List ℕ → Answer → Type 0
AnswersFault (faults.Line script line flaw) lines answer =
    SavesNothing answer 2 lines (unread_text script line) × Blames answer script line flaw ⊎ SavesNothing answer 4 lines (fault_line no_memory)
AnswersFault faults.NoMemory lines answer = SavesNothing answer 4 lines (fault_line no_memory)
