-- Each step preserves the rule of the log.
use Rattle.std.proofs.Common.{◌≡◌, ℕ, zero, suc, ◌+◌, ◌<◌, ◌≤◌, ◌==◌, Bool, true, false, List, [], ◌∷◌, ◌++◌, length, refl, ap, sym, ◌∙◌, subst, arith, inl, None, length-append}
use Rattle.std.proofs.lemmas.List.{append-nil}
use Rattle.std.proofs.lemmas.Bool.{true≢false}
use Rattle.std.proofs.lemmas.Bool.Decides.{nat_tests}
use mathlib.Core.List.{IsPrefix}
use prog.Atomic.{either}
use Rattle.logbook.specs.Pages.{Cell, cell, keeps, gives, adds, nib, no_nib, may_write, may_make, step, Moves, Goes, View}
use Rattle.vol_views.specs.declared.history.LogEntry.{LogEntry}
use Rattle.vol_views.specs.LogRule.{words, IsKept, Adds, Appends, Compares}
use Rattle.vol_views.proofs.Beginnings.{prefix_whole}
use Rattle.vol_views.proofs.Words.{words_length, word_set, word_more, stays}

abbrev pub shown : List LogEntry → List LogEntry
shown log = []

abbrev pub moved : List LogEntry → List LogEntry → ℕ → Type 0
moved before after answer = Unit {0}

-- the owner's view of a log whose next entry takes word `key`
abbrev pub owns : List LogEntry → ℕ → View LogEntry ℕ
owns log key = (log, (nib may_write key 0, None))

abbrev pub same : ℕ → ℕ
same n = either (n == 0) 0 n

-- the words of a log: the first, then `made` words that entries took and `left` words that pens may write
abbrev pub cells_of : ℕ → ℕ → List Cell
cells_of made left = (made + left, true) ∷ words made left

-- the word of a pen, which no entry took, comes after the words of all entries
pub pen_last : (made left k : ℕ) → (cell (words made left) k).1 ≡ false → made ≤ k
pen_last zero left k away = omega arith
pen_last (suc made) left zero away = absurd (true≢false away)
pen_last (suc made) left (suc k) away = let rest = pen_last made left k away in omega (arith, rest)

-- if the owner knows the whole log, its step appends the entry to the log
append_goes : (log : List LogEntry) (entry : LogEntry) (made left : ℕ) → length log ≡ suc made
    → Goes IsKept shown moved 0 (owns log (suc made)) same (Appends (step 0 0 0 entry) (owns log (suc made))) (cells_of made (suc left)) log
append_goes log entry made left counted =
    let count : same (made + suc left) ≡ suc made + left = stays (made + suc left) ∙ omega arith in (
      gives,
      entry ∷ [],
      None,
      refl,
      record {
        made = suc made;
        left = left;
        cells_are = cc (count, word_set made left);
        counted = omega (arith, counted, length-append log (entry ∷ []));
      },
      inl (refl, refl),
      refl,
    )

append_at : (log seen : List LogEntry) (entry : LogEntry) (n made left : ℕ) → length seen ≡ suc n → length log ≡ suc made → IsPrefix seen log
    → suc n < length (cells_of made left) → (cell (cells_of made left) (suc n)).1 ≡ false
    → Goes IsKept shown moved 0 (owns seen (suc n)) same (Appends (step 0 0 0 entry) (owns seen (suc n))) (cells_of made left) log
append_at log seen entry n made zero len counted begins low away =
    let last = pen_last made zero n away in absurd (omega (arith, low, last, words_length made zero))
append_at log seen entry n made (suc left) len counted begins low away =
    let last : made ≤ n = pen_last made (suc left) n away in
    let whole : seen ≡ log = prefix_whole seen log begins (omega (arith, len, counted, last)) in
    let at : n ≡ made = omega (arith, len, counted, ap length whole) in
    rw (whole, at) (append_goes log entry made left counted)

-- the owner's step appends the entry to everything that the owner knows, for any log
pub append_moves : (seen : List LogEntry) (entry : LogEntry) (n : ℕ) → length seen ≡ suc n
    → Moves IsKept shown moved 0 (owns seen (suc n)) same (Appends (step 0 0 0 entry) (owns seen (suc n)))
append_moves seen entry n len cs log kept begins away =
    let P : List Cell → Type 0 = λ c. (0 < length c) × ((cell c 0).1 ≡ true) × Goes IsKept shown moved 0 (owns seen (suc n)) same (Appends (step 0 0 0 entry) (owns seen (suc n))) c log in
    let out = subst (λ c. (suc n < length c) × ((cell c (suc n)).1 ≡ false)) kept.cells_are (away refl) in
    subst P (sym kept.cells_are) (omega arith, refl, append_at log seen entry n kept.made kept.left len kept.counted begins out.0 out.1)

compare_at : (log seen : List LogEntry) (entry : LogEntry) (n made left : ℕ) → length log ≡ suc made
    → (cell (cells_of made left) (suc n)).1 ≡ false
    → Goes IsKept shown moved 0 (owns seen (suc n)) same (Compares (step 0 0 0 entry) (owns seen (suc n))) (cells_of made left) log
compare_at log seen entry n made left counted away =
    let last : made ≤ n = pen_last made left n away in
    let all : length (log ++ []) ≡ suc made = ap length (append-nil log) ∙ counted in (
      keeps,
      [],
      None,
      tt,
      record { made = made; left = left; cells_are = ap (λ k. (k, true) ∷ words made left) (stays (made + left)); counted = all },
      inl (refl, refl),
      (omega (arith, all, last), refl),
    )

-- the owner's comparison finds that the log isn't longer than the owner knows, for any log
pub compare_moves : (seen : List LogEntry) (entry : LogEntry) (n : ℕ)
    → Moves IsKept shown moved 0 (owns seen (suc n)) same (Compares (step 0 0 0 entry) (owns seen (suc n)))
compare_moves seen entry n cs log kept begins away =
    let P : List Cell → Type 0 = λ c. (0 < length c) × ((cell c 0).1 ≡ true) × Goes IsKept shown moved 0 (owns seen (suc n)) same (Compares (step 0 0 0 entry) (owns seen (suc n))) c log in
    let out = subst (λ c. (suc n < length c) × ((cell c (suc n)).1 ≡ false)) kept.cells_are (away refl) in
    subst P (sym kept.cells_are) (omega arith, refl, compare_at log seen entry n kept.made kept.left kept.counted out.1)

-- the number after an attempt to raise it by one, which succeeds if it is the expected one
abbrev pub raised : ℕ → ℕ → ℕ
raised old n = either (n == old) (old + 1) n

add_goes : (log seen : List LogEntry) (entry : LogEntry) (old made left : ℕ) → length log ≡ suc made → (found : Bool) → ((made + left) == old) ≡ found
    → Goes IsKept shown moved 0 (seen, (no_nib, None)) (raised old) (Adds (step 0 old (old + 1) entry) (seen, (no_nib, None))) (cells_of made left) log
add_goes log seen entry old made left counted true is =
    let here : made + left ≡ old = grind (arith, nat_tests) in
    let all : length (log ++ []) ≡ suc made = ap length (append-nil log) ∙ counted in
    let count : raised old (made + left) ≡ made + suc left = rw is (omega (arith, here)) in
    let len : length (cells_of made left) ≡ old + 1 = omega (arith, here, words_length made left) in (
      adds,
      [],
      None,
      tt,
      record { made = made; left = suc left; cells_are = cc (count, word_more made left); counted = all },
      inl (refl, refl),
      rw is (ap (λ k. nib may_make k 0) len),
    )
add_goes log seen entry old made left counted false is =
    let all : length (log ++ []) ≡ suc made = ap length (append-nil log) ∙ counted in
    let count : raised old (made + left) ≡ made + left = rw is refl in (
      keeps,
      [],
      None,
      tt,
      record { made = made; left = left; cells_are = ap (λ k. (k, true) ∷ words made left) count; counted = all },
      inl (refl, refl),
      rw is tt,
    )

-- a step adds a word if the log has as many words as expected, for any log
pub add_moves : (seen : List LogEntry) (entry : LogEntry) (old : ℕ)
    → Moves IsKept shown moved 0 (seen, (no_nib, None)) (raised old) (Adds (step 0 old (old + 1) entry) (seen, (no_nib, None)))
add_moves seen entry old cs log kept begins away =
    let P : List Cell → Type 0 = λ c. (0 < length c) × ((cell c 0).1 ≡ true) × Goes IsKept shown moved 0 (seen, (no_nib, None)) (raised old) (Adds (step 0 old (old + 1) entry) (seen, (no_nib, None))) c log in
    subst P (sym kept.cells_are) (omega arith, refl, add_goes log seen entry old kept.made kept.left kept.counted ((kept.made + kept.left) == old) refl)
