-- The marks of an i-node's piece, level by level of its indirect blocks.
use Rattle.std.specs.Prelude.{◌≡◌, ℕ, zero, suc, ◌+◌, ◌*◌, ◌≤◌, true, List}
use Rattle.std.specs.List.{sum_by}
use Rattle.atomic_table.specs.declared.shared.Seat.{Seat}
use Rattle.vol_layout.specs.Edition.{constants}
use Rattle.vol_layout.specs.Geometry.{in_zone}
use Rattle.vol_layout.specs.BlockPointers.{pointer_in}
use Rattle.vol_layout.specs.declared.geometry.Geometry.{Geometry}
use Rattle.vol_judge.specs.Marks.{blocks_from}
use Rattle.count_table.specs.declared.rule.Mark.{Mark}
use Rattle.count_table.specs.declared.rule.SeatView.{SeatView}
use Rattle.count_table.specs.declared.words.Tally.{Tally}
use Rattle.count_table.specs.Sums.{total, below}
use Rattle.count_table.specs.Tallies.{IsSeatAt}
use Rattle.vol_check.specs.declared.levels.NamedBlock.{NamedBlock}
use Rattle.vol_check.specs.Pieces.{place_weight}

-- a data block that at least one block-map position points to (this project)
abbrev pub IsNamed : Geometry → NamedBlock → Type 0
IsNamed g n = (in_zone g n.number ≡ true) × (1 ≤ n.times)

-- the weight of the numbers below block `b`, which has `d` levels of indirect blocks including its own (this project)
unfoldable pub below_block : Geometry → List ℕ → (ℕ → ℕ) → ℕ → ℕ → ℕ
below_block g image weight zero b = 0
below_block g image weight (suc d) b = below (λ j. total weight (blocks_from g image d (pointer_in g image b j))) (constants g.edition).pointers

-- the weight of a block's number, times the positions that point to it (this project)
abbrev pub by_times : (ℕ → ℕ) → NamedBlock → ℕ
by_times f n = n.times * f n.number

-- the weight below a block, times the positions that point to it (this project)
abbrev pub below_named : Geometry → List ℕ → ℕ → (Mark → ℕ) → ℕ → NamedBlock → ℕ
below_named g image i weight d = by_times (below_block g image (place_weight g weight i) d)

-- the sum, over these blocks, of the weight below a block times the positions that point to it (this project)
abbrev pub below_all : Geometry → List ℕ → ℕ → (Mark → ℕ) → ℕ → List NamedBlock → ℕ
below_all g image i weight d named = sum_by (below_named g image i weight d) named

-- a seat still belongs to the table, and its draws are unchanged (this project)
pub record KeepsDraws (tally : Tally) (old new : Seat (Unit {0}) SeatView) : Type 0 where
  pub own : IsSeatAt tally new
  pub parts : new.me.0.parts ≡ old.me.0.parts
  pub draws : new.me.0.draws ≡ old.me.0.draws

-- a seat made marks of this weight, except for an amount that is still to be made (this project)
abbrev pub AddsBut : Seat (Unit {0}) SeatView → Seat (Unit {0}) SeatView → ((Mark → ℕ) → ℕ) → ((Mark → ℕ) → ℕ) → Type 0
AddsBut old new all left = (weight : Mark → ℕ) → total weight new.me.0.marks + left weight ≡ total weight old.me.0.marks + all weight
