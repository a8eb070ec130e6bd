-- The answer of a command, from its outcome.
use Rattle.std.proofs.Common.{◌≡◌, ◌∙◌, ◌⊎◌, ℕ, Bool, List, [], Option, Some, None, Result, Ok, Err, IfOk, IfErr, IsSome, true≢false, inl, inr, ◌≤◌, ap, refl, sym, subst, arith}
use Rattle.std.specs.Global.{Vec}
use Rattle.std.proofs.KnownBytes.{Keeps-refl}
use Rattle.command_faults.specs.Faults.{fault_status, line_after, refusal_status}
use Rattle.command_faults.specs.Outcomes.{IsAmong, IsUnremarked, Outcomes, Concludes, untraced}
use Rattle.command_faults.specs.Streams.{still}
use Rattle.command_faults.specs.declared.answer.Answer.{Answer}
use Rattle.command_faults.specs.declared.answer.Remarked.{Remarked}
use Rattle.command_faults.specs.declared.fault.Fault.{Fault}
use Rattle.command_faults.specs.declared.fault.Fault.TheVariants as faults
use Rattle.vol_dir.specs.declared.refusal.Refusal.{Refusal}
use Rattle.vol_dir.specs.declared.refusal.Refusal.TheVariants as refusals

-- the status of a refusal is 1 or 4
pub refusal_few : (refusal : Refusal) → (refusal_status refusal ≡ 1) ⊎ (refusal_status refusal ≡ 4)
refusal_few refusals.NotOwner = inl refl
refusal_few refusals.NoEntry = inl refl
refusal_few refusals.NoMemory = inr refl
refusal_few refusals.Access = inl refl
refusal_few refusals.Exists = inl refl
refusal_few refusals.NotDirectory = inl refl
refusal_few refusals.IsDirectory = inl refl
refusal_few refusals.Invalid = inl refl
refusal_few refusals.TooBig = inl refl
refusal_few refusals.NoSpace = inl refl
refusal_few refusals.TooManyLinks = inl refl
refusal_few refusals.NotEmpty = inl refl
refusal_few refusals.NotRegular = inl refl
refusal_few refusals.NoInode = inl refl
refusal_few refusals.BadId = inl refl

-- the status of a refusal isn't 0
pub refusal_fails : (refusal : Refusal) → refusal_status refusal ≡ 0 → ⊥
refusal_fails refusal is = elim (refusal_few refusal) [ inl one ↦ omega (arith, is, one) | inr four ↦ omega (arith, is, four) ]

few_of : (n : ℕ) → (n ≡ 1) ⊎ (n ≡ 4) → (1 ≤ n) × (n ≤ 4)
few_of n (inl is) = (omega (arith, is), omega (arith, is))
few_of n (inr is) = (omega (arith, is), omega (arith, is))

-- the status of a fault is 1 to 4
pub fault_few : (fault : Fault) → (1 ≤ fault_status fault) × (fault_status fault ≤ 4)
fault_few (faults.Unsound rule) = (omega arith, omega arith)
fault_few (faults.Refused refusal) = few_of (refusal_status refusal) (refusal_few refusal)
fault_few (faults.RefusedAt refusal line) = few_of (refusal_status refusal) (refusal_few refusal)
fault_few faults.Bounds = (omega arith, omega arith)
fault_few faults.HasDevice = (omega arith, omega arith)
fault_few (faults.BadLine script number line flaw) = (omega arith, omega arith)
fault_few (faults.Worded rule lines) = (omega arith, omega arith)
fault_few faults.Output = (omega arith, omega arith)

-- if an outcome is one of the possible ones, its answer and its lines tell one of them
pub concluded : (outcomes : Outcomes) (known : Option (List ℕ)) (failed : Bool) (told : Option Fault) (outcome : Result Remarked Fault) (answer : Answer)
    → IsAmong outcomes outcome
    → IfOk outcome (λ made. (answer.image ≡ Some made.bytes) × (answer.status ≡ 0) × (line_after answer.fault ≡ made.lines.items) × (answer.trace ≡ made.trace))
    → IfErr outcome (λ fault. (answer.image ≡ None) × (answer.status ≡ fault_status fault) × (answer.fault ≡ Some fault) × (answer.trace ≡ None))
    → told ≡ answer.fault → Concludes outcomes (still known failed told) answer
concluded outcomes known failed told (Ok made) answer among ok err same = record {
  saved = (λ e. rw ok.0 refl, λ some. ok.1);
  made = rw ok.0 (subst (outcomes.saves made.bytes.items) (sym ok.3) among.0, ap line_after same ∙ ok.2 ∙ among.1);
  refused = λ none. absurd (true≢false (rw ok.0 at none));
  untraced = λ none. absurd (true≢false (rw ok.0 at none));
  unprinted = Keeps-refl known;
  unused = refl;
}
concluded outcomes known failed told (Err fault) answer among ok err same = record {
  saved = (λ e. let few = fault_few fault in let is = err.1 in absurd (omega (arith, few.0, is, e)), λ some. absurd (true≢false (sym (subst IsSome err.0 some))));
  made = rw err.0 tt;
  refused = λ _. (fault, among, err.1, ap line_after (same ∙ err.2));
  untraced = λ _. err.3;
  unprinted = Keeps-refl known;
  unused = refl;
}

-- bytes without a trace and without lines that are made as required, or a reason, are one of the possible outcomes
pub among : (saves : List ℕ → Type 0) (fails : Fault → Type 0) (made given : Result (Vec ℕ) Fault) (outcome : Result Remarked Fault) → given ≡ made
    → IfOk made (λ bytes. saves bytes.items) → IfErr made fails → IsUnremarked given outcome
    → IsAmong (record { saves = untraced saves; lines = []; fails = fails }) outcome
among saves fails made given outcome is ok err plain =
    go made outcome ok err (subst (λ (made : Result (Vec ℕ) Fault). IsUnremarked made outcome) is plain)
  where
    go : (made : Result (Vec ℕ) Fault) (outcome : Result Remarked Fault) → IfOk made (λ bytes. saves bytes.items) → IfErr made fails
        → IsUnremarked made outcome → IsAmong (record { saves = untraced saves; lines = []; fails = fails }) outcome
    go (Ok bytes) (Ok made) ok err is = ((subst (λ (bytes : Vec ℕ). saves bytes.items) (sym is.0) ok, is.2), is.1)
    go (Ok bytes) (Err fault) ok err is = absurd is
    go (Err fault) (Ok made) ok err is = absurd is
    go (Err fault) (Err told) ok err is = subst fails (sym is) err
