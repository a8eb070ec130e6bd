-- Joining the seats of a sweep.
use Rattle.std.specs.Prelude.{◌≡◌, ℕ, ◌+◌, ◌≤◌, ◌||◌, false, List, ◌++◌, All, length}
use Rattle.std.specs.List.{list_any}
use Rattle.std.specs.Option.{option_or}
use Rattle.count_table.specs.declared.words.Tally.{Tally}
use Rattle.count_table.specs.Sums.{late}
use Rattle.count_table.specs.Views.{view}
use Rattle.count_table.specs.Tallies.{IsSeatAt, table_shape}
use Rattle.vol_check.specs.declared.checker.Checker.{Checker}
use Rattle.vol_check.specs.declared.seats.CheckSeat.{CheckSeat}
use Rattle.vol_check.specs.Shapes.{Layout}
use Rattle.vol_check.specs.Seats.{IsOf, found_no_memory}

-- one seat has the marks and entries of two (this project)
pub record Joins (tally : Tally) (old other new : CheckSeat) : Type 0 where
  pub own : IsSeatAt tally new.seat
  pub joined : new.seat.me.0 ≡ view (old.seat.me.0.parts + other.seat.me.0.parts) (old.seat.me.0.draws ++ other.seat.me.0.draws) (old.seat.me.0.marks ++ other.seat.me.0.marks)
  pub fault : new.fault ≡ option_or old.fault other.fault
  pub entries : new.entries.items ≡ old.entries.items ++ other.entries.items
  pub spoiled : new.spoiled ≡ (old.spoiled || other.spoiled)

-- one seat is the join of several seats, one of which has stopped, and fits each image that they all fit; if none of them ran out of memory, one of
-- its draws is past the pieces (this project)
pub record Gathers (tally : Tally) (seats : List CheckSeat) (all : CheckSeat) : Type 0 where
  pub own : IsSeatAt tally all.seat
  pub parts : all.seat.me.0.parts ≡ length seats
  pub spoiled : all.spoiled ≡ list_any found_no_memory seats
  pub stopped : all.spoiled ≡ false → 1 ≤ late (table_shape tally).pieces all.seat.me.0.draws
  pub knows : (checker : Checker) (layout : Layout) (image : List ℕ) → All (IsOf checker layout image) seats → IsOf checker layout image all
