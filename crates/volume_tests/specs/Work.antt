-- Seats of a sweep at work.
use Rattle.std.specs.Prelude.{ℕ, List}
use Rattle.vol_check.specs.declared.seats.CheckSeat.{CheckSeat}
use Rattle.vol_check.specs.declared.sweeps.Sweep.{Sweep}
use Rattle.vol_check.specs.Layouts.{IsSeatIn, HasSwept}

-- a seat belongs to a sweep, and has swept only this image (this project)
pub record IsAtWork (sweep : Sweep) (image : List ℕ) (seat : CheckSeat) : Type 0 where
  pub own : IsSeatIn sweep seat
  pub swept : HasSwept sweep image seat
