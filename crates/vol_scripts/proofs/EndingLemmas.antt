-- The end of a play.
use Rattle.std.proofs.Common.{◌≡◌, ◌⊎◌, ℕ, [], Option, Some, None, Result, Ok, Err, IfOk, IfErr, inl, inr, ap, sym, subst}
use Rattle.command_faults.specs.Faults.{fault_line, fault_status, line_after}
use Rattle.command_faults.specs.declared.fault.Fault.{Fault}

-- if the report was printed, the play has the report's status; otherwise it has the status and the line of the fault
pub ends : (printed : Result ℕ Fault → Type 0) (outcome : Result ℕ Fault) (status : ℕ) (fault : Option Fault) → printed outcome
    → IfOk outcome (λ s. (status ≡ s) × (fault ≡ None)) → IfErr outcome (λ why. (status ≡ fault_status why) × (fault ≡ Some why))
    → (printed (Ok status) × (line_after fault ≡ [])) ⊎ ((why : Fault) × printed (Err why) × (status ≡ fault_status why) × (line_after fault ≡ fault_line why))
ends printed (Ok s) status fault prints ok err = inl (subst (λ n. printed (Ok n)) (sym ok.0) prints, ap line_after ok.1)
ends printed (Err why) status fault prints ok err = inr (why, prints, err.0, ap line_after err.1)
