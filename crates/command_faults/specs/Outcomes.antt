-- The possible outcomes of a command that saves a volume.
use Rattle.std.specs.Prelude.{◌≡◌, ◌↔◌, ℕ, List, [], Option, None, Result, Ok, Err, IsNone, IsSome, IfSome}
use Rattle.std.specs.Global.{Vec}
use Rattle.std.specs.Io.KnownBytes.{Keeps}
use Rattle.command_faults.specs.Faults.{fault_line, fault_status}
use Rattle.command_faults.specs.Streams.{Streams}
use Rattle.command_faults.specs.declared.answer.Answer.{Answer}
use Rattle.command_faults.specs.declared.answer.Remarked.{Remarked}
use Rattle.command_faults.specs.declared.fault.Fault.{Fault}

-- what a command may come to: bytes to save that satisfy `saves`, with the trace to print, if any, and these lines about them; or a fault that
-- satisfies `fails` (this project)
pub record Outcomes : Type 1 where
  pub saves : List ℕ → Option (Vec ℕ) → Type 0
  pub lines : List ℕ
  pub fails : Fault → Type 0

-- an outcome is one of the possible ones (this project)
abbrev pub IsAmong : Outcomes → Result Remarked Fault → Type 0
IsAmong outcomes (Ok made) = outcomes.saves made.bytes.items made.trace × (made.lines.items ≡ outcomes.lines)
IsAmong outcomes (Err fault) = outcomes.fails fault

-- bytes to save that satisfy `makes`, without a trace (this project)
abbrev pub untraced : (List ℕ → Type 0) → List ℕ → Option (Vec ℕ) → Type 0
untraced makes bytes trace = makes bytes × (trace ≡ None)

-- bytes to save, with no trace and no lines about them, or the same fault (this project)
abbrev pub IsUnremarked : Result (Vec ℕ) Fault → Result Remarked Fault → Type 0
IsUnremarked (Ok bytes) (Ok made) = (made.bytes ≡ bytes) × (made.lines.items ≡ []) × (made.trace ≡ None)
IsUnremarked (Ok bytes) (Err fault) = ⊥
IsUnremarked (Err fault) (Ok made) = ⊥
IsUnremarked (Err fault) (Err told) = told ≡ fault

-- one of the possible outcomes is told: bytes to save, the trace to print after that, status 0 and the lines about them; or no bytes and no trace, and
-- the status and the line of a fault. Nothing is printed on standard output yet (this project)
pub record Concludes (outcomes : Outcomes) (streams : Streams) (answer : Answer) : Type 0 where
  pub saved : answer.status ≡ 0 ↔ IsSome answer.image
  pub made : IfSome answer.image (λ bytes. outcomes.saves bytes.items answer.trace × (streams.lines ≡ outcomes.lines))
  pub refused : IsNone answer.image → (fault : Fault) × outcomes.fails fault × (answer.status ≡ fault_status fault) × (streams.lines ≡ fault_line fault)
  pub untraced : IsNone answer.image → answer.trace ≡ None
  pub unprinted : Keeps streams.old streams.new
  pub unused : streams.failed ≡ streams.had_failed
