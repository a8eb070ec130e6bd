-- The result of printing a text.
use Rattle.std.proofs.Common.{◌≡◌, ◌∙◌, ℕ, Bool, List, [], Option, None, Some, Result, Ok, Err, IfOk, IfErr, inl, inr, refl, ap, subst, sym}
use Rattle.std.specs.Prelude.{OnOk, String}
use Rattle.std.specs.Global.{Vec}
use Rattle.std.specs.String.{string_bytes}
use Rattle.std.specs.declared.alloc.Global.{Global}
use Rattle.std.specs.Io.KnownBytes.{Keeps}
use Rattle.std.proofs.KnownBytes.{Keeps-refl}
use Rattle.vol_archive.specs.Write.{StopsShort, Writes}
use Rattle.vol_archive.specs.declared.write.WriteFault.{WriteFault}
use Rattle.vol_archive.specs.declared.write.WriteFault.TheVariants as writes
use Rattle.command_faults.specs.Faults.{fault_status, line_after}
use Rattle.command_faults.specs.Streams.{Streams, still}
use Rattle.command_faults.specs.declared.fault.Fault.{Fault}
use Rattle.command_reads.specs.Export.{unwritten}
use Rattle.command_reads.specs.Print.{IsPlainString, IsPlainText, IsSight, IsTold, IsToldWith, PrintsInPieces, PrintsTelling, Shows, Sights, plainly}
use Rattle.command_reads.specs.declared.print.Shown.{Shown}

-- if what a command shows is one of the possible texts or faults and is printed, one of them is printed
pub showing : (sights : Sights) (streams : Streams) (given shown : Result Shown Fault) (status : ℕ) → given ≡ shown → IsSight sights shown
    → IfOk given (λ shown. PrintsTelling shown.ending.status (line_after shown.ending.fault) streams shown.text.items status)
    → IfErr given (λ fault. IsTold streams fault status) → Shows sights streams status
showing sights streams given shown status is sight printed told = go given (subst (IsSight sights) (sym is) sight) printed told
  where
    go : (given : Result Shown Fault) → IsSight sights given
        → IfOk given (λ shown. PrintsTelling shown.ending.status (line_after shown.ending.fault) streams shown.text.items status)
        → IfErr given (λ fault. IsTold streams fault status) → Shows sights streams status
    go (Ok shown) sight printed told = inl (shown.text.items, shown.ending.status, line_after shown.ending.fault, sight, printed)
    go (Err fault) sight printed told = inr (fault, sight, told)

-- a text with status 0 and no lines, or a fault, is one of the possible ones
pub plain_sight : (is_text : List ℕ → Type 0) (is_fault : Fault → Type 0) (text : Result (Vec ℕ) Fault) (shown : Result Shown Fault)
    → IfOk text (λ text. is_text text.items) → IfErr text is_fault → IsPlainText text shown → IsSight (plainly is_text is_fault) shown
plain_sight is_text is_fault (Ok text) (Ok shown) ok err is = ((subst is_text (sym is.0) ok, is.1), is.2)
plain_sight is_text is_fault (Ok text) (Err fault) ok err is = absurd is
plain_sight is_text is_fault (Err fault) (Ok shown) ok err is = absurd is
plain_sight is_text is_fault (Err fault) (Err told) ok err is = subst is_fault (sym is) err

-- so is a string
pub string_sight : (is_text : List ℕ → Type 0) (is_fault : Fault → Type 0) (text : Result (String Global) Fault) (shown : Result Shown Fault)
    → IfOk text (λ text. is_text (string_bytes text)) → IfErr text is_fault → IsPlainString text shown → IsSight (plainly is_text is_fault) shown
string_sight is_text is_fault (Ok text) (Ok shown) ok err is = ((subst is_text (sym is.0) ok, is.1), is.2)
string_sight is_text is_fault (Ok text) (Err fault) ok err is = absurd is
string_sight is_text is_fault (Err fault) (Ok shown) ok err is = absurd is
string_sight is_text is_fault (Err fault) (Err told) ok err is = subst is_fault (sym is) err

-- if nothing is written, the contents of a stream stay the same
pub kept_same : (known : Option (List ℕ)) → Keeps known known
kept_same known = Keeps-refl known

-- a fault is reported, with a status, if nothing is printed
pub told_only : {known : Option (List ℕ)} {failed : Bool} {wanted : ℕ} {fault : Fault} {told : Option Fault} {status : ℕ}
    → (status ≡ wanted) × (told ≡ Some fault) → IsToldWith wanted (still known failed told) fault status
told_only {known} is = record { status = is.0; kept = Keeps-refl known; working = refl; said = ap line_after is.1 }

-- a text that wasn't written whole, piece by piece, is printed so
pub cut_off : (wanted : ℕ) (lines : List ℕ) (streams : Streams) (text : List ℕ) (status : ℕ) (told : Option Fault) (fault : WriteFault)
    → StopsShort streams.old streams.new streams.failed text fault
    → (status ≡ fault_status (unwritten fault)) × (told ≡ Some (unwritten fault)) → streams.lines ≡ line_after told
    → PrintsInPieces wanted lines streams text status
cut_off wanted lines streams text status told writes.NoMemory cut why said = inr (record {
  status = why.0;
  front = (cut.count, cut.front);
  said = said ∙ ap line_after why.1;
})
cut_off wanted lines streams text status told writes.Output cut why said = inl (inr (record {
  status = why.0;
  front = (cut.count, cut.front);
  broken = cut.cause refl;
  said = said ∙ ap line_after why.1;
}))

-- a text that was written piece by piece, whole or not, is printed so
pub in_pieces : (wanted : ℕ) (streams : Streams) (text : List ℕ) (status : ℕ) (told : Option Fault) (written : Result (Unit {0}) WriteFault)
    → Writes streams.old streams.new streams.had_failed streams.failed text written → OnOk written ((status ≡ wanted) × (told ≡ None))
    → IfErr written (λ fault. (status ≡ fault_status (unwritten fault)) × (told ≡ Some (unwritten fault))) → streams.lines ≡ line_after told
    → PrintsInPieces wanted [] streams text status
in_pieces wanted streams text status told (Ok done) written whole why said = inl (inl (record {
  status = whole.0;
  whole = written.0;
  working = written.1;
  said = said ∙ ap line_after whole.1;
}))
in_pieces wanted streams text status told (Err fault) cut whole why said = cut_off wanted [] streams text status told fault cut why said
