-- Runs that a file's fault ended, and results that were to be saved.
use Rattle.std.proofs.Common.{◌≡◌, ◌⊎◌, ℕ, Bool, List, [], Option, None, Result, Ok, Err, IfErr, IfSome, IsErrAnd, IsSome, OnOk, inl, inr, refl, ap, sym, subst}
use Rattle.std.proofs.KnownBytes.{Keeps-refl}
use Rattle.std.specs.Io.KnownBytes.{Keeps}
use Rattle.command_faults.specs.Faults.{line_after}
use Rattle.command_faults.specs.declared.answer.Ending.{Ending}
use Rattle.unixvol.specs.FileFaults.{failed_by, file_status, run_fault, run_status, saved_status}
use Rattle.unixvol.specs.Runs.{IsStatusOfFileOrMemory}
use Rattle.unixvol.specs.declared.file_fault.FailedRun.{FailedRun}
use Rattle.unixvol.specs.declared.file_fault.FileFault.{FileFault}

-- a run that a file's fault ended has the status of the fault
pub stopped_status : (fails : ℕ → Type 0) (result : Result Ending FailedRun) (fault : FileFault) → IsErrAnd result (λ failed. failed ≡ failed_by fault)
    → fails (file_status fault) → fails (run_status result)
stopped_status fails (Ok ending) fault is holds = absurd is
stopped_status fails (Err failed) fault is holds = subst (λ (run : FailedRun). fails (file_status run.file)) (sym is) holds

-- such a run reports nothing else
pub stopped_quiet : (result : Result Ending FailedRun) (fault : FileFault) → IsErrAnd result (λ failed. failed ≡ failed_by fault) → run_fault result ≡ None
stopped_quiet (Ok ending) fault is = absurd is
stopped_quiet (Err failed) fault is = subst (λ (run : FailedRun). run.fault ≡ None) (sym is) refl

-- such a run prints nothing either
pub stopped : (fails : ℕ → Type 0) (known : Option (List ℕ)) (working : Bool) (result : Result Ending FailedRun) (fault : FileFault)
    → IsErrAnd result (λ failed. failed ≡ failed_by fault) → fails (file_status fault)
    → fails (run_status result) × Keeps known known × (working ≡ working) × (line_after (run_fault result) ≡ [])
stopped fails known working result fault is holds = (
  stopped_status fails result fault is holds,
  Keeps-refl known,
  refl,
  ap line_after (stopped_quiet result fault is),
)

-- if what was made, if anything, was saved, or something was made and it wasn't, the status is the own one or that of the fault
pub after_saving : {A : Type 0} (made : Option A) (own : ℕ) (saves : A → Type 0) (saved : Result (Unit {0}) FileFault) (status : ℕ) → status ≡ saved_status own saved
    → OnOk saved (IfSome made saves) → IfErr saved (λ fault. IsSome made × IsStatusOfFileOrMemory (file_status fault))
    → ((status ≡ own) × IfSome made saves) ⊎ (IsSome made × IsStatusOfFileOrMemory status)
after_saving made own saves (Ok done) status is ok err = inl (is, ok)
after_saving made own saves (Err fault) status is ok err = inr (err.0, subst IsStatusOfFileOrMemory (sym is) err.1)
