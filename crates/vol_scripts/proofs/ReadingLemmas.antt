-- Reading a script, line by line.
use Rattle.std.proofs.Common.{◌≡◌, ◌≢◌, Bool, IfOk, nat_lt, ℕ, ◌+◌, ◌∙◌, ◌==◌, false, List, [], ◌∷◌, ◌++◌, length, Option, Some, None, Result, Ok, Err, refl, sym, ap, append-nil, append_assoc, arith, length-append, drop, drop-cons, suc, ◌<◌, get_or, add-one}
use Rattle.std.specs.Global.{Global}
use Rattle.std.specs.Prelude.{Vec}
use Rattle.command_faults.specs.declared.line_flaw.LineFlaw.TheVariants as flaws
use Rattle.command_faults.specs.declared.line_flaw.WordForm.{WordForm}
use Rattle.std.specs.List.{slice_split}
use Rattle.vol_scripts.specs.Flaws.{flaw_in, has_bad_first}
use Rattle.vol_scripts.specs.Scripts.{BadLine, asked_from, before, before_scripts, has_bad_start, is_for_view, script_after, scripts_from, views_after}
use Rattle.vol_scripts.specs.declared.steps.Script.{Script}

-- the steps read so far, followed by the steps of the remaining lines, unless one of these can't be read
abbrev pub after : {T : Type 0} → List T → Result (List T) BadLine → Result (List T) BadLine
after front (Ok others) = Ok (front ++ others)
after front (Err bad) = Err bad

module _ {T : Type 0} (written : List ℕ → Option T) (command : WordForm) where
  -- if no step was read so far, the result is the steps of the remaining lines
  pub after_nothing : (read : Result (List T) BadLine) → read ≡ after [] read
  after_nothing (Ok others) = refl
  after_nothing (Err bad) = refl

  -- if nothing follows the last newline, the steps so far are all steps
  pub ends_well : (front : List T) (number : ℕ) (rest : List ℕ) → length rest ≡ 0 → after front (asked_from written command number (rest ∷ [])) ≡ Ok front
  ends_well front number rest none = rw (none, append-nil) refl

  -- if something follows the last newline, the result is this unended line
  pub ends_badly : (front : List T) (number : ℕ) (rest : List ℕ) → (length rest == 0) ≡ false → after front (asked_from written command number (rest ∷ [])) ≡ Err (number, Some flaws.Unended)
  ends_badly front number rest some = rw some refl

  -- if no piece is left, the steps so far are all steps
  pub ends : (front : List T) (number : ℕ) → after front (asked_from written command number []) ≡ Ok front
  ends front number = rw append-nil refl

  -- if a line can't be read, this line is the result
  pub stops : (front : List T) (number : ℕ) (line : List ℕ) (lines : List (List ℕ)) → lines ≢ [] → written line ≡ None
      → after front (asked_from written command number (line ∷ lines)) ≡ Err (number, flaw_in command line)
  stops front number line [] more none = absurd (more refl)
  stops front number line (next ∷ lines) more none = rw none refl

  -- appending a line's step to the steps so far and then reading the lines after it has the same result as reading on from this line
  before_after : (front : List T) (asked : T) (bad : BadLine) (others : Result (List T) BadLine)
      → after front (before (Some asked) bad others) ≡ after (front ++ asked ∷ []) others
  before_after front asked bad (Ok others) = ap Ok (sym (append_assoc front (asked ∷ []) others))
  before_after front asked bad (Err later) = refl

  -- if a line can be read, its step is appended, and the remaining lines follow
  pub goes_on : (front : List T) (number : ℕ) (line : List ℕ) (lines : List (List ℕ)) (asked : T) → lines ≢ [] → written line ≡ Some asked
      → after front (asked_from written command number (line ∷ lines)) ≡ after (front ++ asked ∷ []) (asked_from written command (number + 1) lines)
  goes_on front number line [] asked more read = absurd (more refl)
  goes_on front number line (next ∷ lines) asked more read =
      ap (λ s. after front (before s (number, flaw_in command line) (asked_from written command (number + 1) (next ∷ lines)))) read
      ∙ before_after front asked (number, flaw_in command line) (asked_from written command (number + 1) (next ∷ lines))

  -- if the step of a line was appended, the next line has the next number
  pub pushed : (first : ℕ) (front now : List T) (asked : T) (lines : List (List ℕ)) → now ≡ front ++ asked ∷ []
      → after (front ++ asked ∷ []) (asked_from written command (length front + first + 1) lines) ≡ after now (asked_from written command (length now + first) lines)
  pushed first front now asked lines is =
      let one : length front + first + 1 ≡ length now + first = omega (arith, length-append front (asked ∷ []), ap length is) in
      ap (λ n. after (front ++ asked ∷ []) (asked_from written command n lines)) one ∙ ap (λ all. after all (asked_from written command (length now + first) lines)) (sym is)

-- the scripts read so far, followed by the remaining ones, unless a line of one of these can't be read
abbrev pub after_scripts : List Script → Result (List Script) (ℕ × BadLine) → Result (List Script) (ℕ × BadLine)
after_scripts front (Ok others) = Ok (front ++ others)
after_scripts front (Err fault) = Err fault

-- if no script was read so far, the result is the remaining scripts
pub after_no_scripts : (read : Result (List Script) (ℕ × BadLine)) → read ≡ after_scripts [] read
after_no_scripts (Ok others) = refl
after_no_scripts (Err fault) = refl

-- appending a script to the scripts so far and then reading the scripts after it has the same result as reading on from this script
before_after_scripts : (front : List Script) (script : Script) (number : ℕ) (others : Result (List Script) (ℕ × BadLine))
    → after_scripts front (before_scripts (Ok script) number others) ≡ after_scripts (front ++ script ∷ []) others
before_after_scripts front script number (Ok others) = ap Ok (sym (append_assoc front (script ∷ []) others))
before_after_scripts front script number (Err later) = refl

module _ (all : Result (List Script) (ℕ × BadLine)) (front : List Script) (views : ℕ) (scripts : List (Vec ℕ Global)) (at : ℕ) (script : Vec ℕ Global) (within : at < length scripts)
    (here : get_or scripts at script ≡ script) (so_far : all ≡ after_scripts front (scripts_from (length front + 1) views (drop at scripts))) where
  -- the result for the scripts after this one
  abbrev others : Result (List Script) (ℕ × BadLine)
  others = scripts_from (length front + 1 + 1) (views_after views script.items) (drop (at + 1) scripts)

  -- the result is made of this script, followed by the scripts after it
  opened : all ≡ after_scripts front (before_scripts (script_after views script.items) (length front + 1) others)
  opened =
      so_far ∙ ap (λ rest. after_scripts front (scripts_from (length front + 1) views rest)) (drop-cons scripts at script within)
      ∙ ap
      (λ (s : Vec ℕ Global).
      after_scripts front (before_scripts (script_after views s.items) (length front + 1) (scripts_from (length front + 1 + 1) (views_after views s.items) (drop (suc at) scripts))))
      here
      ∙ ap
      (λ n. after_scripts front (before_scripts (script_after views script.items) (length front + 1) (scripts_from (length front + 1 + 1) (views_after views script.items) (drop n scripts))))
      (sym (add-one at))

  -- if a line of this script can't be read, the result is this line
  pub script_stops : (line : BadLine) → script_after views script.items ≡ Err line → all ≡ Err (length front + 1, line)
  script_stops line bad = opened ∙ ap (λ s. after_scripts front (before_scripts s (length front + 1) others)) bad

  -- if this script can be read, it is appended, and the scripts after it follow
  pub script_read : (read : Script) (now : List Script) (counted : ℕ) → script_after views script.items ≡ Ok read → now ≡ front ++ read ∷ []
      → counted ≡ views_after views script.items → all ≡ after_scripts now (scripts_from (length now + 1) counted (drop (at + 1) scripts))
  script_read read now counted good is count =
      let one : length now ≡ length front + 1 = omega (arith, length-append front (read ∷ []), ap length is) in
      opened ∙ ap (λ s. after_scripts front (before_scripts s (length front + 1) others)) good ∙ before_after_scripts front read (length front + 1) others
      ∙ ap (λ n. after_scripts (front ++ read ∷ []) (scripts_from (n + 1) (views_after views script.items) (drop (at + 1) scripts))) (sym one)
      ∙ ap (λ v. after_scripts (front ++ read ∷ []) (scripts_from (length now + 1) v (drop (at + 1) scripts))) (sym count)
      ∙ ap (λ read. after_scripts read (scripts_from (length now + 1) counted (drop (at + 1) scripts))) (sym is)

-- if no script is left, the scripts so far are all scripts
pub all_read : (front : List Script) (number views : ℕ) → after_scripts front (scripts_from number views []) ≡ Ok front
all_read front number views = rw append-nil refl

-- bytes that aren't the beginning of a script for a view have a bad start if their first line has one
pub started : {E : Type 0} (front : List ℕ) (lines : List (List ℕ)) (result : Result Bool E) → nat_lt (length front) 5 ≡ false → is_for_view front ≡ false
    → lines ≡ slice_split (λ b. b == 10) front → IfOk result (λ bad. bad ≡ has_bad_first lines) → IfOk result (λ bad. bad ≡ has_bad_start front)
started front lines (Ok bad) few other is same = rw (few, other) (same ∙ ap has_bad_first is)
started front lines (Err e) few other is same = tt
