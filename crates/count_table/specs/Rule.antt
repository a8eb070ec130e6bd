-- The invariant of the table, and its initial and final words.
use Rattle.std.specs.Prelude.{◌≡◌, ℕ, ◌+◌, ◌^◌, ◌%◌, ◌<◌, ◌≤◌, List, length, slice_index}
use mathlib.Core.Option.{some}
use lib.ListN.{get_elem?}
use Rattle.atomic_table.specs.Table.{State}
use Rattle.count_table.specs.declared.rule.Mark.{Mark}
use Rattle.count_table.specs.declared.rule.SeatView.{SeatView}
use Rattle.count_table.specs.declared.rule.TableShape.{TableShape}
use Rattle.count_table.specs.Sums.{total, below, late, sum_at, least_at}
use Rattle.count_table.specs.Views.{blank}

-- a seat that holds no part is blank; any seat has at most as many draws past the last piece as it holds parts (this project)
pub record IsWithinParts (pieces : ℕ) (v : SeatView) : Type 0 where
  pub empty : v.parts ≡ 0 → v ≡ blank
  pub bounded : late pieces v.draws ≤ v.parts

-- the invariant of the table: the draws of all seats together are the numbers below word 0, each once; each count is the sum of its marks in all
-- views, modulo 2^64; each minimum is the least of 2^64 - 1 and its marks; and the log has the marks of all seats in the order of the steps (this
-- project)
pub record Kept (shape : TableShape) (s : State (Unit {0}) SeatView) : Type 0 where
  pub log : List Mark
  pub wide : length s.words ≡ 1 + (shape.counts + shape.leasts)
  pub small : shape.pieces + shape.seats < 2 ^ 63
  pub whole : total (λ v. v.parts) s.views ≡ shape.seats
  pub drawn : (weight : ℕ → ℕ) → total (λ v. total weight v.draws) s.views ≡ below weight (slice_index s.words 0)
  pub marked : (weight : Mark → ℕ) → total (λ v. total weight v.marks) s.views ≡ total weight log
  pub counted : (w : ℕ) → 1 ≤ w → w < 1 + shape.counts → slice_index s.words w ≡ sum_at w log % 2 ^ 64
  pub lowest : (w : ℕ) → 1 + shape.counts ≤ w → w < 1 + (shape.counts + shape.leasts) → slice_index s.words w ≡ least_at w log
  pub each : (id : ℕ) (v : SeatView) → get_elem? s.views id ≡ some v → IsWithinParts shape.pieces v

-- the final words, if one seat has all draws and marks (this project)
pub record IsSummed (shape : TableShape) (v : SeatView) (words : List ℕ) : Type 0 where
  pub wide : length words ≡ 1 + (shape.counts + shape.leasts)
  pub drawn : (weight : ℕ → ℕ) → total weight v.draws ≡ below weight (slice_index words 0)
  pub counted : (w : ℕ) → 1 ≤ w → w < 1 + shape.counts → slice_index words w ≡ sum_at w v.marks % 2 ^ 64
  pub lowest : (w : ℕ) → 1 + shape.counts ≤ w → w < 1 + (shape.counts + shape.leasts) → slice_index words w ≡ least_at w v.marks

-- the initial words (this project)
pub record IsStart (shape : TableShape) (words : List ℕ) : Type 0 where
  pub wide : length words ≡ 1 + (shape.counts + shape.leasts)
  pub zero : slice_index words 0 ≡ 0
  pub counts : (w : ℕ) → w < 1 + shape.counts → slice_index words w ≡ 0
  pub leasts : (w : ℕ) → 1 + shape.counts ≤ w → w < 1 + (shape.counts + shape.leasts) → slice_index words w ≡ 18446744073709551615
