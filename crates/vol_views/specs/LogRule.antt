-- The invariant of the log, and the effects of its steps.
use Rattle.std.specs.Prelude.{◌≡◌, ◌==◌, ℕ, zero, suc, ◌+◌, ◌≤◌, true, false, List, [], ◌∷◌, ◌++◌, length, MatchBool}
use Rattle.logbook.specs.Pages.{Cell, Step, View, Book, Named, nib, may_make}
use Rattle.vol_layout.specs.declared.edition.Edition.TheVariants as editions
use Rattle.vol_volume.specs.Volume.{Mounted}
use Rattle.vol_receipts.specs.Agrees.{origin_of}
use Rattle.vol_views.specs.declared.history.LogEntry.{LogEntry}
use Rattle.vol_views.specs.declared.history.LogEntry.TheVariants.{Opened}

-- `n` words that entries took, then `m` words that pens may write (this project)
abbrev pub words : ℕ → ℕ → List Cell
words zero zero = []
words zero (suc m) = (0, false) ∷ words zero m
words (suc n) m = (0, true) ∷ words n m

-- the first word's value is the number of words after it; each entry except the first took one of these words, in order (this project)
pub record IsKept (cells : List Cell) (log : List LogEntry) : Type 0 where
  pub made : ℕ
  pub left : ℕ
  pub cells_are : cells ≡ (made + left, true) ∷ words made left
  pub counted : length log ≡ suc made

-- the first word of a log (this project)
abbrev pub head_of : Book → Named
head_of book = record { tracked = true; key = 0; book = book }

-- the log of a volume when it is opened (this project)
abbrev pub first_log : Mounted → List LogEntry
first_log volume = Opened (origin_of volume) volume.journal ∷ []

-- the entry of a step that appends nothing (this project)
abbrev pub no_entry : LogEntry
no_entry = Opened (record { edition = editions.V6; bytes = []; first = 0 }) []

-- if there were as many words as expected, one word was added, and the pen may write it (this project)
abbrev pub Adds : Step LogEntry → View LogEntry ℕ → ℕ → View LogEntry ℕ → Type 0
Adds st before found after = MatchBool (found == st.old) (after.1.0 ≡ nib may_make (st.old + 1) 0) (Unit {0})

-- the entry was appended after all entries seen before (this project)
abbrev pub Appends : Step LogEntry → View LogEntry ℕ → ℕ → View LogEntry ℕ → Type 0
Appends st before found after = after.0 ≡ before.0 ++ st.ask ∷ []

-- all entries of the log were seen, and no entry took the pen's word (this project)
abbrev pub Compares : Step LogEntry → View LogEntry ℕ → ℕ → View LogEntry ℕ → Type 0
Compares st before found after = (length after.0 ≤ before.1.0.key) × (after.1.0 ≡ before.1.0)
