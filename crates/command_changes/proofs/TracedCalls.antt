-- The outcome of a command that made calls on a volume, with their trace.
use Rattle.std.proofs.Common.{◌≡◌, ℕ, Bool, List, [], Option, Result, Ok, Err, IfOk, IfErr, refl, sym, subst}
use Rattle.std.specs.Global.{Vec}
use Rattle.vol_import.specs.declared.make.ImportFault.{ImportFault}
use Rattle.vol_import.specs.declared.make.ImportFault.TheVariants as imports
use Rattle.vol_batch.specs.Remove.{RemovesTo}
use Rattle.vol_volume.specs.Volume.{Mounted}
use Rattle.vol_layout.specs.declared.edition.Edition.{Edition}
use Rattle.vol_volume.specs.declared.calls.Call.{Call}
use Rattle.command_faults.specs.ChangeFaults.{IsReason, Makes}
use Rattle.command_faults.specs.Faults.{no_memory}
use Rattle.command_faults.specs.Outcomes.{IsAmong}
use Rattle.command_faults.specs.declared.answer.Remarked.{Remarked}
use Rattle.command_faults.specs.declared.fault.Fault.{Fault}
use Rattle.command_changes.specs.Changes.{of_calls, of_removal}
use Rattle.command_changes.specs.Import.{IsUnimported, of_import}
use Rattle.command_changes.specs.Rm.{IsCause}
use Rattle.command_changes.proofs.Imported.{memory_reason}
use Rattle.command_changes.proofs.Removed.{memory_caused}
use Rattle.command_changes.specs.Traced.{ImportsVolume, IsTraced, IsTracedVolume, MakesVolume, TracesCalls}

-- the outcome of a command that leaves a volume, or a fault
abbrev pub IsTracedFrom : Bool → Result Mounted Fault → Result Remarked Fault → Type 0
IsTracedFrom wanted made outcome =
    IfOk made (λ volume. IfOk outcome (IsTracedVolume wanted volume)) × IfOk made (λ volume. IfErr outcome (λ fault. fault ≡ no_memory))
    × IfErr made (λ fault. outcome ≡ Err fault)

-- if a volume was made as required, its bytes and its trace are one of the possible outcomes; so is a reason, or out of memory
volume_among : (saves : List ℕ → Option (Vec ℕ) → Type 0) (fails : Fault → Type 0) (makes : Mounted → Type 0) (wanted : Bool) (made : Result Mounted Fault)
    (outcome : Result Remarked Fault) → ((volume : Mounted) (trace : Option (Vec ℕ)) → makes volume → IsTraced wanted volume trace → saves volume.image trace)
    → fails no_memory → IfOk made makes → IfErr made fails → IsTracedFrom wanted made outcome
    → IsAmong (record { saves = saves; lines = []; fails = fails }) outcome
volume_among saves fails makes wanted (Ok volume) (Ok told) saving memory ok err from =
    let is : IsTracedVolume wanted volume told = from.0 in
    (subst (λ (bytes : List ℕ). saves bytes told.trace) (sym is.0) (saving volume told.trace ok is.1), is.2)
volume_among saves fails makes wanted (Ok volume) (Err fault) saving memory ok err from = subst fails (sym from.1) memory
volume_among saves fails makes wanted (Err fault) outcome saving memory ok err from =
    subst (IsAmong (record { saves = saves; lines = []; fails = fails })) (sym from.2) err

-- the outcome of calls
pub calls_among : (edition : Edition) (image : List ℕ) (calls : List Call) (wanted : Bool) (made given : Result Mounted Fault) (outcome : Result Remarked Fault)
    → given ≡ made → IfOk made (MakesVolume edition image calls) → IfErr made (IsReason edition image calls) → IsTracedFrom wanted given outcome
    → IsAmong (of_calls edition image calls wanted) outcome
calls_among edition image calls wanted made given outcome is ok err from =
    volume_among (of_calls edition image calls wanted).saves (IsReason edition image calls) (MakesVolume edition image calls) wanted made outcome
    (λ volume trace makes traced. (makes.0, (volume, makes.1, refl, traced))) tt ok err
    (subst (λ (r : Result Mounted Fault). IsTracedFrom wanted r outcome) is from)

-- the outcome of calls that leave bytes of this kind
pub leaving_among : (edition : Edition) (image : List ℕ) (calls : List Call) (leaves : List ℕ → Type 0) (wanted : Bool) (made given : Result Mounted Fault)
    (outcome : Result Remarked Fault) → given ≡ made → ((bytes : List ℕ) → Makes edition image calls bytes → leaves bytes)
    → IfOk made (MakesVolume edition image calls) → IfErr made (IsReason edition image calls) → IsTracedFrom wanted given outcome
    → IsAmong (record {
      saves = λ bytes text. Makes edition image calls bytes × leaves bytes × TracesCalls wanted edition image calls bytes text;
      lines = [];
      fails = IsReason edition image calls;
    }) outcome
leaving_among edition image calls leaves wanted made given outcome is all ok err from =
    volume_among (λ bytes text. Makes edition image calls bytes × leaves bytes × TracesCalls wanted edition image calls bytes text)
    (IsReason edition image calls) (MakesVolume edition image calls) wanted made outcome
    (λ volume trace makes traced. (makes.0, all volume.image makes.0, (volume, makes.1, refl, traced))) tt ok err
    (subst (λ (r : Result Mounted Fault). IsTracedFrom wanted r outcome) is from)

-- the outcome of `rm -r`
pub removal_among : (edition : Edition) (image path : List ℕ) (now : ℕ) (wanted : Bool) (made given : Result Mounted Fault) (outcome : Result Remarked Fault)
    → given ≡ made → IfOk made (RemovesTo edition image path now) → IfErr made (IsCause edition image path now) → IsTracedFrom wanted given outcome
    → IsAmong (of_removal edition image path now wanted) outcome
removal_among edition image path now wanted made given outcome is ok err from =
    volume_among (of_removal edition image path now wanted).saves (IsCause edition image path now) (RemovesTo edition image path now) wanted made outcome
    (λ volume trace makes traced. (makes.removes, (volume, makes.accepts, refl, traced)))
    (memory_caused edition image path now) ok err
    (subst (λ (r : Result Mounted Fault). IsTracedFrom wanted r outcome) is from)

-- the outcome of the calls of an import
pub import_among : (edition : Edition) (image : List ℕ) (calls : Result (List Call) ImportFault) (wanted : Bool) (made : Result Mounted Fault)
    (outcome : Result Remarked Fault) → IfOk made (ImportsVolume edition image calls) → IfErr made (IsUnimported edition image calls)
    → IsTracedFrom wanted made outcome → IsAmong (of_import edition image calls wanted) outcome
import_among edition image calls wanted made outcome ok err from =
    volume_among (of_import edition image calls wanted).saves (IsUnimported edition image calls) (ImportsVolume edition image calls) wanted made outcome
    (λ volume trace makes traced. (makes.0, (volume, makes.1, refl, traced)))
    (imports.NoMemory, memory_reason edition image calls, (refl, refl)) ok err from
