-- The end of a play's run.
use Rattle.std.proofs.Common.{◌≡◌, ◌∙◌, ℕ, ◌≤◌, Bool, List, [], ◌∷◌, map, fold, max, Option, Some, None, Result, Ok, Err, inl, inr, refl, sym, subst, arith}
use Rattle.std.specs.Global.{Vec}
use Rattle.command_faults.proofs.Concluded.{fault_few}
use Rattle.command_faults.specs.Faults.{fault_status, no_memory}
use Rattle.command_faults.specs.Streams.{Streams}
use Rattle.command_faults.specs.declared.answer.Answer.{Answer}
use Rattle.command_faults.specs.declared.fault.Fault.{Fault}
use Rattle.command_terms.specs.declared.plays.PlayForm.{PlayForm}
use Rattle.command_terms.specs.declared.plays.PlayForm.TheVariants as forms
use Rattle.vol_layout.specs.declared.edition.Edition.{Edition}
use Rattle.vol_play.specs.Play.{EndsPlay, IsSilent, PlaysVolume}
use Rattle.vol_receipts.specs.declared.confirm_many.Confirmed.{Confirmed}
use Rattle.vol_receipts.specs.declared.receipts.Outcome.{Outcome}
use Rattle.vol_receipts.specs.declared.receipts.Outcome.TheVariants as outcomes
use Rattle.vol_scripts.specs.Endings.{Finishes, PrintsPlay, outcome_status, play_json, play_text, printed_status, script_status, step_status}
use Rattle.vol_scripts.specs.Refuse.{AnswersFault}
use Rattle.vol_scripts.specs.declared.played.Played.{Played}
use Rattle.vol_scripts.specs.declared.played.Played.TheVariants as played
use Rattle.vol_scripts.specs.declared.read.ScriptsFault.{ScriptsFault}
use Rattle.vol_scripts.specs.declared.read.ScriptsFault.TheVariants as unread
use Rattle.vol_volume.specs.Volume.{Mounted}
use Rattle.unixvol.specs.Runs.{EndsSaved, IsEnd, IsUnread, RunsPlay, host_files}
use Rattle.host_files.specs.declared.image_file.Stamp.{Stamp}

max_few : (a b : ℕ) → a ≤ 4 → b ≤ 4 → max a b ≤ 4
max_few a b one other = omega (arith, one, other)

outcome_few : (outcome : Outcome) → outcome_status outcome ≤ 4
outcome_few (outcomes.Accepted done) = omega arith
outcome_few (outcomes.Refused refusal) = omega arith
outcome_few (outcomes.Answered reply) = omega arith

step_few : (came : Played) → step_status came ≤ 4
step_few (played.Told receipt) = outcome_few receipt.outcome
step_few (played.Cut first) = omega arith
step_few played.NoMemory = omega arith
step_few played.NotEntered = omega arith
step_few played.View = omega arith

steps_few : (worst : ℕ) (steps : List Played) → worst ≤ 4 → fold max worst (map step_status steps) ≤ 4
steps_few worst [] few = few
steps_few worst (came ∷ steps) few = steps_few (max worst (step_status came)) steps (max_few worst (step_status came) few (step_few came))

scripts_few : (worst : ℕ) (scripts : List (Vec Played)) → worst ≤ 4 → fold max worst (map (λ script. script_status script.items) scripts) ≤ 4
scripts_few worst [] few = few
scripts_few worst (script ∷ scripts) few =
    scripts_few (max worst (script_status script.items)) scripts (max_few worst (script_status script.items) few (steps_few 0 script.items (omega arith)))

printed_few : (scripts : List (Vec Played)) (confirmed : Option Confirmed) → printed_status scripts confirmed ≤ 4
printed_few scripts (Some confirmed) = scripts_few 0 scripts (omega arith)
printed_few scripts None = omega arith

-- a status is no fault
no_ok : (printed : Result ℕ Fault) (status : ℕ) → printed ≡ Ok status → printed ≡ Err no_memory → ⊥
no_ok printed status ok err = absurd cc

-- the end of an answer: its status is at most 4; if it is 0, no output failed and no fault was reported
record Answered (streams : Streams) (answer : Answer) : Type 0 where
  within : answer.status ≤ 4
  whole : answer.status ≡ 0 → (streams.failed ≡ streams.had_failed) × (streams.lines ≡ [])

answered_fault : (streams : Streams) (answer : Answer) (status : ℕ) → answer.status ≡ status → (1 ≤ status) → (status ≤ 4) → Answered streams answer
answered_fault streams answer status is least most = record { within = subst (λ n. n ≤ 4) (sym is) most; whole = λ e. absurd (omega (arith, is, e, least)) }

answered_unread : (streams : Streams) (answer : Answer) (fault : ScriptsFault) → AnswersFault fault streams.lines answer → Answered streams answer
answered_unread streams answer (unread.Line script line flaw) (inl refused) = answered_fault streams answer 2 refused.0.ends (omega arith) (omega arith)
answered_unread streams answer (unread.Line script line flaw) (inr refused) = answered_fault streams answer 4 refused.ends (omega arith) (omega arith)
answered_unread streams answer unread.NoMemory refused = answered_fault streams answer 4 refused.ends (omega arith) (omega arith)

answered_finished : (streams : Streams) (answer : Answer) (last : Mounted) (cuts : _) (report : ℕ → List ℕ) (scripts : List (Vec Played))
    → Finishes last cuts scripts (PrintsPlay last scripts report streams.old streams.new streams.had_failed streams.failed) streams.lines answer → Answered streams answer
answered_finished streams answer last cuts report scripts finishes = elim finishes.ended [
  | inl printed ↦ record {
    within = subst (λ n. n ≤ 4) (sym printed.0.1.3.1) (printed_few scripts printed.0.1.0);
    whole = λ e. (printed.0.0, printed.1);
  }
  | inr failed ↦ answered_fault streams answer (fault_status failed.0) failed.2 (fault_few failed.0).0 (fault_few failed.0).1
]

-- a play without memory for its trace
answered_untraced : (streams : Streams) (answer : Answer) (last : Mounted) (cuts : _) (scripts : List (Vec Played))
    → Finishes last cuts scripts (λ printed. (printed ≡ Err no_memory) × IsSilent streams) streams.lines answer → Answered streams answer
answered_untraced streams answer last cuts scripts finishes = elim finishes.ended [
  | inl printed ↦ absurd (no_ok (Ok answer.status) answer.status refl printed.0.0)
  | inr failed ↦ answered_fault streams answer (fault_status failed.0) failed.2 (fault_few failed.0).0 (fault_few failed.0).1
]

answered_played : (streams : Streams) (answer : Answer) (last : Mounted) (cuts journal : Bool) (form : PlayForm) (scripts : List (Vec Played))
    → EndsPlay last cuts journal form scripts streams answer → Answered streams answer
answered_played streams answer last cuts journal (forms.Lines trace) scripts (inl (text, is, finishes)) =
    answered_finished streams answer last cuts (play_text last cuts journal text scripts) scripts finishes
answered_played streams answer last cuts journal (forms.Lines trace) scripts (inr (wanted, finishes)) = answered_untraced streams answer last cuts scripts finishes
answered_played streams answer last cuts journal forms.Json scripts finishes =
    answered_finished streams answer last cuts (play_json last cuts journal scripts) scripts finishes

answered : (edition : Edition) (image : List ℕ) (journal : _) (form : PlayForm) (scripts : List (Vec ℕ)) (streams : Streams) (answer : Answer)
    → PlaysVolume edition image journal form scripts streams answer → Answered streams answer
answered edition image journal form scripts streams answer (inl (silent, (fault, reads, answers))) = answered_unread streams answer fault answers
answered edition image journal form scripts streams answer (inr (read, is, inl (silent, (fault, why, refused)))) =
    answered_fault streams answer (fault_status fault) refused.ends (fault_few fault).0 (fault_few fault).1
answered edition image journal form scripts streams answer (inr (read, is, inr (last, came, plays, ends))) = answered_played streams answer last _ _ _ came ends

ends_saved : (streams : Streams) (taken : List ℕ → Type 0) (answer : Answer) (status : ℕ) → Answered streams answer → EndsSaved taken answer status → IsEnd streams status
ends_saved streams taken answer status ends (inl own) = record {
  within = subst (λ n. n ≤ 4) (sym own.0) ends.within;
  whole = λ e. ends.whole (sym own.0 ∙ e);
}
ends_saved streams taken answer status ends (inr file) = record {
  within = elim file.1 [ inl e ↦ omega (arith, e) | inr e ↦ omega (arith, e) ];
  whole = λ e. absurd (elim file.1 [ inl three ↦ omega (arith, three, e) | inr four ↦ omega (arith, four, e) ]);
}

ends_unread : {F : Type 0} (remaining : F → Option (List ℕ)) (streams : Streams) (status : ℕ) → IsUnread remaining status → IsEnd streams status
ends_unread remaining streams status (inl is) = record { within = omega (arith, is); whole = λ e. absurd (omega (arith, is, e)) }
ends_unread remaining streams status (inr memory) = record { within = omega (arith, memory.0); whole = λ e. absurd (omega (arith, memory.0, e)) }

-- a play's run ends with a status of at most 4, and with 0 only if everything was printed and no fault was reported
pub ends_played : {F : Type 0} (at : ℕ) (remaining contents : F → Option (List ℕ)) (had : F → Stamp → Type 0) (stood : Stamp → Type 0) (streams : Streams)
    (edition : Edition) (count : ℕ) (journal : Bool) (form : PlayForm) (status : ℕ) → RunsPlay streams (host_files at remaining contents had stood) edition count journal form status
    → IsEnd streams status
ends_played at remaining contents had stood streams edition count journal form status (inl nothing) = ends_unread remaining streams status nothing.0
ends_played at remaining contents had stood streams edition count journal form status (inr (image, stamp, scripts, answer, opened, given, same, plays, saved)) =
    ends_saved streams _ answer status (answered edition image journal form scripts streams answer plays) saved.0
