-- The end of a command that saves a volume, and then prints the trace of its calls.
use Rattle.std.proofs.Common.{◌≡◌, ◌≢◌, ◌∙◌, ℕ, ◌≤◌, List, Option, Some, None, Result, Ok, Err, IfOk, IfErr, IsSome, true≢false, inl, inr, sym, ap, subst, arith}
use Rattle.std.specs.Global.{Vec}
use Rattle.std.specs.Io.KnownBytes.{Keeps}
use Rattle.std.proofs.KnownBytes.{Keeps-refl}
use Rattle.command_faults.proofs.Concluded.{fault_few}
use Rattle.command_faults.specs.Faults.{fault_line, fault_status, line_after}
use Rattle.command_faults.specs.Outcomes.{IsAmong, Outcomes}
use Rattle.command_faults.specs.Streams.{Streams}
use Rattle.command_faults.specs.declared.answer.Answer.{Answer}
use Rattle.command_faults.specs.declared.answer.Remarked.{Remarked}
use Rattle.command_faults.specs.declared.fault.Fault.{Fault}
use Rattle.unixvol.specs.Runs.{EndsSaved, EndsWith}
use Rattle.unixvol.specs.Traces.{EndsTraced, IsQuiet, PrintsTrace}

-- if nothing was printed and these lines were reported, this also holds for an equal status and equal lines
quiet_same : (wanted other : ℕ) (lines others : List ℕ) (streams : Streams) (status : ℕ) → wanted ≡ other → lines ≡ others
    → IsQuiet wanted lines streams status → IsQuiet other others streams status
quiet_same wanted other lines others streams status same also quiet =
    record { ended = quiet.ended ∙ same; kept = quiet.kept; working = quiet.working; said = quiet.said ∙ also }

-- if nothing is written, the contents of a stream stay the same
pub kept_same : (known : Option (List ℕ)) → Keeps known known
kept_same known = Keeps-refl known

-- if an answer of this outcome was saved, or wasn't, and its trace was printed after that, the run ends as the outcome requires
pub traced_end : (taken : List ℕ → Type 0) (outcome : Result Remarked Fault) (answer : Answer) (saved : ℕ) (streams : Streams) (status : ℕ)
    → IfOk outcome (λ made. (answer.image ≡ Some made.bytes) × (answer.status ≡ 0) × (line_after answer.fault ≡ made.lines.items) × (answer.trace ≡ made.trace))
    → IfErr outcome (λ fault. (answer.image ≡ None) × (answer.status ≡ fault_status fault) × (answer.fault ≡ Some fault) × (answer.trace ≡ None))
    → EndsSaved taken answer saved → (saved ≢ 0 → IsQuiet saved (line_after answer.fault) streams status)
    → (saved ≡ 0 → PrintsTrace answer.trace (line_after answer.fault) streams status) → EndsTraced taken outcome streams status
traced_end taken (Ok made) answer saved streams status ok err (inl own) quiet prints =
    inl (
      rw ok.0 at own.1,
      subst (λ (trace : Option (Vec ℕ)). PrintsTrace trace made.lines.items streams status) ok.3
          (subst (λ (lines : List ℕ). PrintsTrace answer.trace lines streams status) ok.2 (prints (own.0 ∙ ok.1))),
    )
traced_end taken (Ok made) answer saved streams status ok err (inr (some, inl three)) quiet prints =
    let still = quiet (λ e. absurd (omega (arith, three, e))) in
    inr (inl (still.ended ∙ three), quiet_same saved status (line_after answer.fault) made.lines.items streams status (sym still.ended) ok.2 still)
traced_end taken (Ok made) answer saved streams status ok err (inr (some, inr four)) quiet prints =
    let still = quiet (λ e. absurd (omega (arith, four, e))) in
    inr (inr (still.ended ∙ four), quiet_same saved status (line_after answer.fault) made.lines.items streams status (sym still.ended) ok.2 still)
traced_end taken (Err fault) answer saved streams status ok err (inl own) quiet prints =
    let few = fault_few fault in
    let is = own.0 ∙ err.1 in
    quiet_same saved (fault_status fault) (line_after answer.fault) (fault_line fault) streams status is (ap line_after err.2)
    (quiet (λ e. absurd (omega (arith, few.0, is, e))))
traced_end taken (Err fault) answer saved streams status ok err (inr file) quiet prints = absurd (true≢false (sym (subst IsSome err.0 file.0)))

-- a quiet run ends, if its status is 1 to 4
pub quiet_ends : (wanted : ℕ) (lines told : List ℕ) (streams : Streams) (status : ℕ) → 1 ≤ wanted → wanted ≤ 4 → IsQuiet wanted lines streams status
    → EndsWith told streams status
quiet_ends wanted lines told streams status least most quiet = let is = quiet.ended in record {
  within = omega (arith, is, most);
  silent = λ _ _. quiet.kept;
  whole = λ e. absurd (omega (arith, is, least, e));
}

-- a run that prints a trace, or has none to print, ends with the lines
pub printed_ends : (trace : Option (Vec ℕ)) (lines told : List ℕ) (streams : Streams) (status : ℕ) → lines ≡ told → PrintsTrace trace lines streams status
    → EndsWith told streams status
printed_ends None lines told streams status same quiet = let is = quiet.ended in record {
  within = omega (arith, is);
  silent = λ _ _. quiet.kept;
  whole = λ e. (quiet.working, quiet.said ∙ same);
}
printed_ends (Some text) lines told streams status same (inl whole) = let is = whole.0 in record {
  within = omega (arith, is);
  silent = λ other _. absurd (other is);
  whole = λ e. (whole.2, whole.3 ∙ same);
}
printed_ends (Some text) lines told streams status same (inr broken) = let is = broken.0 in record {
  within = omega (arith, is);
  silent = λ _ other. absurd (other is);
  whole = λ e. absurd (omega (arith, is, e));
}

-- if an outcome is one of the possible ones, its run ends with the lines about the bytes
pub ends_traced : (outcomes : Outcomes) (streams : Streams) (taken : List ℕ → Type 0) (outcome : Result Remarked Fault) (status : ℕ) → IsAmong outcomes outcome
    → EndsTraced taken outcome streams status → EndsWith outcomes.lines streams status
ends_traced outcomes streams taken (Ok made) status among (inl saved) = printed_ends made.trace made.lines.items outcomes.lines streams status among.1 saved.1
ends_traced outcomes streams taken (Ok made) status among (inr (inl three, quiet)) =
    quiet_ends status made.lines.items outcomes.lines streams status (omega (arith, three)) (omega (arith, three)) quiet
ends_traced outcomes streams taken (Ok made) status among (inr (inr four, quiet)) =
    quiet_ends status made.lines.items outcomes.lines streams status (omega (arith, four)) (omega (arith, four)) quiet
ends_traced outcomes streams taken (Err fault) status among quiet =
    quiet_ends (fault_status fault) (fault_line fault) outcomes.lines streams status (fault_few fault).0 (fault_few fault).1 quiet
