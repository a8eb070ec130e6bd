-- The marks that a seat makes for directories, slot by slot.
use Rattle.std.specs.Prelude.{◌≡◌, ℕ, ◌+◌}
use Rattle.count_table.specs.declared.rule.Mark.{Mark}
use Rattle.count_table.specs.declared.words.Tally.{Tally}
use Rattle.count_table.specs.Sums.{total}
use Rattle.count_table.specs.Tallies.{IsSeatAt}
use Rattle.vol_reports.specs.Placed.{Placed}
use Rattle.vol_check.specs.declared.seats.CheckSeat.{CheckSeat}
use Rattle.vol_check.specs.Pieces.{Adds}

-- a seat made marks and kept entries of these weights, and is otherwise unchanged (this project)
pub record Notes (tally : Tally) (old new : CheckSeat) (amount : (Mark → ℕ) → ℕ) (kept : (Placed → ℕ) → ℕ) : Type 0 where
  pub adds : Adds tally old.seat new.seat amount
  pub entries : (weight : Placed → ℕ) → total weight new.entries.items ≡ total weight old.entries.items + kept weight
  pub fault : new.fault ≡ old.fault
  pub ended : new.ended ≡ old.ended
  pub spoiled : new.spoiled ≡ old.spoiled

-- a seat still belongs to the table, and its draws are unchanged (this project)
pub record Stays (tally : Tally) (old new : CheckSeat) : Type 0 where
  pub own : IsSeatAt tally new.seat
  pub parts : new.seat.me.0.parts ≡ old.seat.me.0.parts
  pub draws : new.seat.me.0.draws ≡ old.seat.me.0.draws
  pub ended : new.ended ≡ old.ended
