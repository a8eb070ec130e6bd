-- The views of seats, and the effect of each step on a view.
use Rattle.std.specs.Prelude.{◌≡◌, ℕ, ◌+◌, ◌-◌, ◌≤◌, List, [], ◌∷◌, ◌++◌, length, replicate}
use Rattle.atomic_table.specs.Table.{Me, Step}
use Rattle.count_table.specs.declared.rule.Mark.{Mark}
use Rattle.count_table.specs.declared.rule.SeatView.{SeatView}
use Rattle.count_table.specs.declared.rule.TableShape.{TableShape}

-- the view of a seat: the number of its parts, its draws, its marks, and the number of marks of 1 made by its last step if that was a `count_times`
-- (this project)
abbrev pub view_times : ℕ → List ℕ → List Mark → ℕ → SeatView
view_times parts draws marks times = record { parts = parts; draws = draws; marks = marks; times = times }

-- the view of a seat whose last step was not a `count_times` (this project)
abbrev pub view : ℕ → List ℕ → List Mark → SeatView
view parts draws marks = view_times parts draws marks 1

-- the mark with this amount for this word (this project)
abbrev pub mark : ℕ → ℕ → Mark
mark word amount = record { word = word; amount = amount }

-- the view of a seat without parts, draws and marks (this project)
abbrev pub blank : SeatView
blank = view 0 [] []

-- the view of the first seat, which holds all parts (this project)
abbrev pub first_view : TableShape → SeatView
first_view shape = view shape.seats [] []

-- the view of a seat after it drew a piece (this project)
abbrev pub drew : SeatView → ℕ → SeatView
drew v number = view v.parts (v.draws ++ number ∷ []) v.marks

-- the view of a seat after it made a mark (this project)
abbrev pub marked_view : SeatView → Mark → SeatView
marked_view v m = view v.parts v.draws (v.marks ++ m ∷ [])

-- the view of a seat after one part was split off (this project)
abbrev pub kept_half : SeatView → SeatView
kept_half v = view (v.parts - 1) v.draws v.marks

-- the view of the new seat that was split off (this project)
abbrev pub given_half : SeatView → SeatView
given_half v = view 1 [] []

-- the view of two joined seats (this project)
abbrev pub joined : SeatView → SeatView → SeatView
joined v w = view (v.parts + w.parts) (v.draws ++ w.draws) (v.marks ++ w.marks)

-- the step drew the number `found`, which is at least the number of the seat's earlier draws (this project)
abbrev pub Drew : Step (Unit {0}) → Me (Unit {0}) SeatView → ℕ → Me (Unit {0}) SeatView → Type 0
Drew st before found after = (after ≡ (drew before.0 found, before.1)) × (length before.0.draws ≤ found)

-- the step made a mark for its word, with its operand as the amount (this project)
abbrev pub Marked : Step (Unit {0}) → Me (Unit {0}) SeatView → ℕ → Me (Unit {0}) SeatView → Type 0
Marked st before found after = after ≡ (marked_view before.0 (mark st.word st.first), before.1)

-- the view of a seat after `times` marks of 1 for a word (this project)
abbrev pub counted_view : SeatView → ℕ → ℕ → SeatView
counted_view v word times = view_times v.parts v.draws (v.marks ++ replicate times (mark word 1)) times

-- the view of a seat after marks of one value for a word, as many as its previous step made marks of 1 (this project)
abbrev pub lowered_view : SeatView → ℕ → ℕ → SeatView
lowered_view v word value = view v.parts v.draws (v.marks ++ replicate v.times (mark word value))

-- the step made marks of 1 for its word, as many as its operand (this project)
abbrev pub MarkedTimes : Step (Unit {0}) → Me (Unit {0}) SeatView → ℕ → Me (Unit {0}) SeatView → Type 0
MarkedTimes st before found after = after ≡ (counted_view before.0 st.word st.first, before.1)

-- the step made marks for its word, with its operand as the amount, as many as the previous step made (this project)
abbrev pub MarkedAgain : Step (Unit {0}) → Me (Unit {0}) SeatView → ℕ → Me (Unit {0}) SeatView → Type 0
MarkedAgain st before found after = after ≡ (lowered_view before.0 st.word st.first, before.1)
