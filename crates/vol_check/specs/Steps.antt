-- The steps of a sweep.
use Rattle.std.specs.Prelude.{◌≡◌, ◌⊎◌, ℕ, ◌+◌, ◌<◌, ◌≤◌, ◌==◌, true, false, if◌then◌else◌, List, [], ◌∷◌, ◌++◌, length, Option, None, Some, Result, Ok, Err, IsErr}
use Rattle.std.specs.declared.alloc.AllocError.{AllocError}
use Rattle.vol_layout.specs.declared.geometry.Geometry.{Geometry}
use Rattle.count_table.specs.declared.words.Tally.{Tally}
use Rattle.count_table.specs.Sums.{total}
use Rattle.count_table.specs.Tallies.{table_shape}
use Rattle.vol_free.specs.declared.free_walk.FreeFault.{FreeFault}
use Rattle.vol_free.specs.FreeWalk.{free_walk}
use Rattle.vol_reports.specs.Placed.{Placed}
use Rattle.vol_check.specs.declared.checker.Checker.{Checker}
use Rattle.vol_check.specs.declared.checker.Checker.TheVariants.{Blocks, Entries, Names}
use Rattle.vol_check.specs.declared.seats.CheckSeat.{CheckSeat}
use Rattle.vol_check.specs.declared.seats.Piece.{Piece}
use Rattle.vol_check.specs.declared.sweeps.Sweep.{Sweep}
use Rattle.vol_check.specs.Pieces.{Adds}
use Rattle.vol_check.specs.Seats.{IsSeatOf, IsOf, is_stopped, checker_weight, checker_kept}

-- the fault that is kept after piece `p` is done (icheck)
abbrev pub fault_after : Checker → Geometry → List ℕ → ℕ → Option (FreeFault × ℕ) → Option (FreeFault × ℕ)
fault_after Blocks g image p before = if p == 0 then (free_walk g image).fault else before
fault_after Entries g image p before = before
fault_after Names g image p before = before

-- a piece was done: its marks were made, and its fault and its entries are kept (icheck, dcheck, ncheck)
pub record Works (tally : Tally) (checker : Checker) (g : Geometry) (image : List ℕ) (p : ℕ) (old new : CheckSeat) : Type 0 where
  pub adds : Adds tally old.seat new.seat (λ weight. checker_weight checker g image weight p)
  pub entries : (weight : Placed → ℕ) → total weight new.entries.items ≡ total weight old.entries.items + checker_kept checker g image weight p
  pub fault : new.fault ≡ fault_after checker g image p old.fault
  pub ended : new.ended ≡ old.ended
  pub spoiled : new.spoiled ≡ old.spoiled

-- the result of a step: the piece that it drew, or `None` if its last draw is past the pieces, or that memory ran out (this project)
abbrev pub StepAnswers : Sweep → CheckSeat → CheckSeat → Result (Option Piece) AllocError → Type 0
StepAnswers sweep old new (Ok (Some p)) = (new.seat.me.0.draws ≡ old.seat.me.0.draws ++ p.number ∷ [])
    × (p.number < (table_shape sweep.tally).pieces) × (length old.seat.me.0.draws ≤ p.number) × (new.spoiled ≡ false)
StepAnswers sweep old new (Ok None) = (new.ended ≡ true) × (new.spoiled ≡ false)
StepAnswers sweep old new (Err failed) = new.spoiled ≡ true

-- a step: the seat still belongs to the sweep and fits the image. It drew at most one number, and none if it had stopped before. Once a seat has run
-- out of memory, every step fails (this project)
pub record Stepped (sweep : Sweep) (image : List ℕ) (old new : CheckSeat) (result : Result (Option Piece) AllocError) : Type 0 where
  pub own : IsSeatOf sweep.tally new
  pub knows : IsOf sweep.checker sweep.layout image new
  pub answers : StepAnswers sweep old new result
  pub drew : (new.seat.me.0.draws ≡ old.seat.me.0.draws) ⊎ ((n : ℕ) × (new.seat.me.0.draws ≡ old.seat.me.0.draws ++ n ∷ []))
  pub for_good : old.spoiled ≡ true → IsErr result
  pub no_more : is_stopped old ≡ true → new.seat.me.0.draws ≡ old.seat.me.0.draws

-- a seat that worked on pieces until none was left or it ran out of memory (this project)
pub record Ran (sweep : Sweep) (image : List ℕ) (seat : CheckSeat) : Type 0 where
  pub own : IsSeatOf sweep.tally seat
  pub knows : IsOf sweep.checker sweep.layout image seat
  pub stopped : is_stopped seat ≡ true
