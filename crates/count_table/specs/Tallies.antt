-- Seats of a table, and the table's final words.
use Rattle.std.specs.Prelude.{◌≡◌, ℕ, List, []}
use Rattle.std.specs.Slots.{slots_items}
use Rattle.atomic_table.specs.declared.shared.Seat.{Seat}
use Rattle.count_table.specs.declared.rule.SeatView.{SeatView}
use Rattle.count_table.specs.declared.rule.TableShape.{TableShape}
use Rattle.count_table.specs.declared.words.Tally.{Tally}
use Rattle.count_table.specs.declared.words.Summed.{Summed}

-- the shape with which a table was created (this project)
abbrev pub table_shape : Tally → TableShape
table_shape t = t.table.shared.key

-- the seat belongs to this table, and holds no slot (this project)
abbrev pub IsSeatAt : Tally → Seat (Unit {0}) SeatView → Type 0
IsSeatAt t seat = (seat.table_id ≡ t.table.shared.table_id) × (seat.me.1 ≡ [])

-- the final words (this project)
abbrev pub items_of : Summed → List ℕ
items_of s = slots_items s.closed.words
