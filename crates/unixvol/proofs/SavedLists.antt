-- Lists of volumes: the result of saving them.
use Rattle.std.proofs.Common.{◌≡◌, ◌≤◌, ℕ, List, [], Result, Ok, Err, IfErr, OnOk, inl, inr, sym, subst, arith}
use Rattle.std.specs.Io.KnownBytes.{Keeps}
use Rattle.command_copies.specs.declared.lists.VolumeListed.{VolumeListed}
use Rattle.command_faults.proofs.Concluded.{fault_few}
use Rattle.command_faults.specs.Streams.{Streams}
use Rattle.command_faults.specs.declared.fault.Fault.{Fault}
use Rattle.host_files.specs.declared.image_file.Stamp.{Stamp}
use Rattle.unixvol.specs.Copies.{EndsListed, IsListSaved}
use Rattle.unixvol.specs.FileFaults.{file_status, saved_status}
use Rattle.unixvol.specs.Runs.{Ends, IsStatusOfFileOrMemory}
use Rattle.unixvol.specs.declared.file_fault.FileFault.{FileFault}

-- the end of a run that was to save a list and what it names
pub saved_list : (taken : List ℕ → Type 0) (stood : Stamp → Type 0) (lines : List ℕ) (read : VolumeListed) (saved : Result (Unit {0}) FileFault) (status : ℕ)
    → status ≡ saved_status 0 saved → OnOk saved (IsListSaved taken stood read) → IfErr saved (λ fault. IsStatusOfFileOrMemory (file_status fault)) → lines ≡ []
    → EndsListed taken stood lines (Ok read) status
saved_list taken stood lines read (Ok done) status is ok err quiet = (inl (is, ok), quiet)
saved_list taken stood lines read (Err fault) status is ok err quiet = (inr (subst IsStatusOfFileOrMemory (sym is) err), quiet)

-- if a list was read and saved, or wasn't read, the run ends as `Ends` requires
pub ends_listed : (streams : Streams) (taken : List ℕ → Type 0) (stood : Stamp → Type 0) (read : Result VolumeListed Fault) (status : ℕ)
    → EndsListed taken stood streams.lines read status → Keeps streams.old streams.new → streams.failed ≡ streams.had_failed → Ends streams status
ends_listed streams taken stood (Ok read) status (saved, said) unprinted unused = record {
  within = elim saved [ inl all ↦ omega (arith, all.0) | inr (inl three) ↦ omega (arith, three) | inr (inr four) ↦ omega (arith, four) ];
  silent = λ _ _. unprinted;
  whole = λ e. (unused, said);
}
ends_listed streams taken stood (Err fault) status told unprinted unused =
    let one : 1 ≤ status = subst (λ n. 1 ≤ n) (sym told.0) (fault_few fault).0 in
    let four : status ≤ 4 = subst (λ n. n ≤ 4) (sym told.0) (fault_few fault).1 in
    record { within = four; silent = λ _ _. unprinted; whole = λ e. absurd (omega (arith, one, e)) }
