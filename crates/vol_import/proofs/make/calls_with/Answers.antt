use Rattle.std.proofs.Common.{◌≡◌, ◌≢◌, ◌⊎◌, List, ℕ, Ok, Err, subst}
use Rattle.vol_import.specs.Make.{TakesMemory, unread}
use Rattle.vol_import.specs.Members.{members}
use Rattle.vol_import.specs.declared.faults.ArchiveFault.TheVariants as archives
use Rattle.vol_import.specs.declared.make.ImportFault.TheVariants as faults
use Rattle.vol_import.proofs.ImportFaults.{archive_told, found_fault, found_left, found_ok}
use Rattle.vol_import.proofs.make.calls_with.Goals as goal

pub returns-in-Ok-clause-ok : goal.returns-in-Ok-clause-ok
returns-in-Ok-clause-ok c =
    let found = subst (λ (archive : List ℕ). members archive ≡ Ok c.in-Ok.found.items) c.deref.ensures.value c.in-Ok.ensures.ok in
    found_ok _ _ _ _ _ _ _ found c.calls_for.ensures.ok

pub returns-in-Ok-clause-left_out : goal.returns-in-Ok-clause-left_out
returns-in-Ok-clause-left_out c =
    let found = subst (λ (archive : List ℕ). members archive ≡ Ok c.in-Ok.found.items) c.deref.ensures.value c.in-Ok.ensures.ok in
    found_left _ _ _ _ found c.calls_for.ensures.left_out

pub returns-in-Ok-clause-fault : goal.returns-in-Ok-clause-fault
returns-in-Ok-clause-fault c =
    let found = subst (λ (archive : List ℕ). members archive ≡ Ok c.in-Ok.found.items) c.deref.ensures.value c.in-Ok.ensures.ok in
    found_fault _ _ _ _ _ _ _ found c.calls_for.ensures.fault

pub returns-in-Err-clause-fault : goal.returns-in-Err-clause-fault
returns-in-Err-clause-fault c =
    let fault = subst (λ (archive : List ℕ). c.in-Err.fault ≢ archives.NoMemory → members archive ≡ Err c.in-Err.fault) c.deref.ensures.value c.in-Err.ensures.fault in
    let told =
    subst (λ (archive : List ℕ). ((c.unread.result ≡ faults.NoMemory) × TakesMemory c.in-Err.fault) ⊎ (c.unread.result ≡ unread archive c.in-Err.fault))
    c.deref-in-Err.ensures.value c.unread.ensures in
    archive_told _ _ _ _ _ _ _ fault told
