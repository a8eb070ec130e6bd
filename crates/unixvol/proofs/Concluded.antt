-- The end of a run that saves a command's result, and of a run that can't read a file.
use Rattle.std.proofs.Common.{◌≡◌, ◌∙◌, Bool, true, false, true≢false, ℕ, ◌≤◌, List, Option, None, Some, Result, Ok, Err, IsSome, IfSome, inl, inr, refl, sym, subst, arith}
use Rattle.std.specs.Global.{Vec}
use Rattle.std.specs.Io.KnownBytes.{Keeps}
use Rattle.command_faults.proofs.Concluded.{fault_few}
use Rattle.command_faults.specs.Outcomes.{Concludes, Outcomes}
use Rattle.command_faults.specs.Streams.{Streams}
use Rattle.command_faults.specs.declared.answer.Answer.{Answer}
use Rattle.command_faults.specs.declared.fault.Fault.{Fault}
use Rattle.command_reads.specs.declared.get.FileRead.{FileRead}
use Rattle.unixvol.specs.Copies.{EndsRead}
use Rattle.unixvol.specs.Runs.{EndsSaved, Ends, EndsWith, IsUnread, but_remarks}

-- if a file can't be read, the run ends as `Ends` requires
pub ends_unread : {F : Type 0} (remaining : F → Option (List ℕ)) (streams : Streams) (status : ℕ) → IsUnread remaining status
    → Keeps streams.old streams.new → Ends streams status
ends_unread remaining streams status (inl is) kept =
    record { within = omega (arith, is); silent = λ _ _. kept; whole = λ e. absurd (omega (arith, is, e)) }
ends_unread remaining streams status (inr memory) kept =
    record { within = omega (arith, memory.0); silent = λ _ _. kept; whole = λ e. absurd (omega (arith, memory.0, e)) }

-- a run that ends as `Ends` requires also does so without the requirement on the reports of a change
pub ends_remarked : (may : Bool) (streams : Streams) (status : ℕ) → Ends streams status → Ends (but_remarks may streams) status
ends_remarked true streams status ends = record { within = ends.within; silent = ends.silent; whole = λ e. ((ends.whole e).0, refl) }
ends_remarked false streams status ends = ends

-- if something was made, the reports are those for this case
quiet : {A : Type 0} (makes : A → Type 0) (reported : Type 0) (made : Option A) → IsSome made → IfSome made (λ a. makes a × reported) → reported
quiet makes reported (Some a) some given = given.1
quiet makes reported None some given = absurd (true≢false (sym some))

-- the status is at most 4 if it is 0 when something was made, and at most 4 otherwise
few : {A : Type 0} (made : Option A) (status : ℕ) → (IsSome made → status ≡ 0) → (made ≡ None → status ≤ 4) → status ≤ 4
few (Some a) status zero some_few = let is = zero refl in omega (arith, is)
few None status zero some_few = some_few refl

-- if one of the outcomes of a command that saves is told, and what it made is saved, its run ends with the lines about that
pub ends_concluded : (outcomes : Outcomes) (streams : Streams) (taken : List ℕ → Type 0) (answer : Answer) (status : ℕ) → Concludes outcomes streams answer
    → EndsSaved taken answer status → EndsWith outcomes.lines streams status
ends_concluded outcomes streams taken answer status concludes (inl own) = record {
  within =
      subst (λ n. n ≤ 4) (sym own.0)
      (few answer.image answer.status concludes.saved.1
      (λ none. let why = concludes.refused (rw none refl) in subst (λ n. n ≤ 4) (sym why.2) (fault_few why.0).1));
  silent = λ _ _. concludes.unprinted;
  whole = λ e. (
    concludes.unused,
    quiet (λ (bytes : Vec ℕ). outcomes.saves bytes.items answer.trace) (streams.lines ≡ outcomes.lines) answer.image (concludes.saved.0 (sym own.0 ∙ e)) concludes.made,
  );
}
ends_concluded outcomes streams taken answer status concludes (inr file) = record {
  within = elim file.1 [ inl e ↦ omega (arith, e) | inr e ↦ omega (arith, e) ];
  silent = λ _ _. concludes.unprinted;
  whole = λ e. absurd (elim file.1 [ inl three ↦ omega (arith, three, e) | inr four ↦ omega (arith, four, e) ]);
}

-- if files were read and saved, or weren't read, the run ends as `Ends` requires
pub ends_got : (streams : Streams) (taken : List ℕ → Type 0) (read : Result (Vec FileRead) Fault) (status : ℕ) → EndsRead taken streams.lines read status
    → Keeps streams.old streams.new → streams.failed ≡ streams.had_failed → Ends streams status
ends_got streams taken (Ok files) status (saved, said) unprinted unused = record {
  within = elim saved [ inl all ↦ omega (arith, all.0) | inr (inl three) ↦ omega (arith, three) | inr (inr four) ↦ omega (arith, four) ];
  silent = λ _ _. unprinted;
  whole = λ e. (unused, said);
}
ends_got streams taken (Err fault) status told unprinted unused =
    let one : 1 ≤ status = subst (λ n. 1 ≤ n) (sym told.0) (fault_few fault).0 in
    let four : status ≤ 4 = subst (λ n. n ≤ 4) (sym told.0) (fault_few fault).1 in
    record { within = four; silent = λ _ _. unprinted; whole = λ e. absurd (omega (arith, one, e)) }
