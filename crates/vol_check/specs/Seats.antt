-- Seats of a sweep, and the image that they fit.
use Rattle.std.specs.Prelude.{◌≡◌, ℕ, ◌≤◌, ◌==◌, ◌||◌, ◌++◌, ◌∷◌, Bool, true, false, if◌then◌else◌, List, [], Option, None, Ok, Err}
use Rattle.vol_layout.specs.declared.geometry.Geometry.{Geometry}
use Rattle.count_table.specs.declared.rule.Mark.{Mark}
use Rattle.count_table.specs.declared.words.Tally.{Tally}
use Rattle.count_table.specs.Sums.{total, late}
use Rattle.count_table.specs.Views.{view}
use Rattle.count_table.specs.Tallies.{IsSeatAt, table_shape}
use Rattle.vol_reports.specs.Icheck.{one_if}
use Rattle.vol_free.specs.FreeWalk.{free_walk}
use Rattle.vol_reports.specs.Placed.{Placed}
use Rattle.vol_free.specs.declared.free_walk.FreeFault.{FreeFault}
use Rattle.vol_check.specs.declared.checker.Checker.{Checker}
use Rattle.vol_check.specs.declared.checker.Checker.TheVariants.{Blocks, Entries, Names}
use Rattle.vol_check.specs.declared.seats.CheckSeat.{CheckSeat}
use Rattle.vol_check.specs.Shapes.{Layout}
use Rattle.vol_check.specs.Pieces.{piece_weight}
use Rattle.vol_check.specs.Slots.{slot_weight, slot_kept, slots_piece}

-- the marks of piece `p` of a sweep (icheck, dcheck, ncheck)
abbrev pub checker_weight : Checker → Geometry → List ℕ → (Mark → ℕ) → ℕ → ℕ
checker_weight Blocks g image weight p = piece_weight g image weight p
checker_weight Entries g image weight p = slots_piece g image (slot_weight Entries g weight) p
checker_weight Names g image weight p = slots_piece g image (slot_weight Names g weight) p

-- the entries kept from piece `p` (ncheck)
abbrev pub checker_kept : Checker → Geometry → List ℕ → (Placed → ℕ) → ℕ → ℕ
checker_kept Blocks g image weight p = 0
checker_kept Entries g image weight p = slots_piece g image (slot_kept Entries weight) p
checker_kept Names g image weight p = slots_piece g image (slot_kept Names weight) p

-- the fault of the walk over the free list, kept by the seat that drew piece 0 of a sweep over the blocks (icheck)
abbrev pub checker_fault : Checker → Geometry → List ℕ → List ℕ → Option (FreeFault × ℕ)
checker_fault Blocks g image draws = if total (λ p. one_if (p == 0)) draws == 0 then None else (free_walk g image).fault
checker_fault Entries g image draws = None
checker_fault Names g image draws = None

-- the marks of piece `p` of an image with this layout; an image without geometry has no pieces (icheck, dcheck, ncheck)
abbrev pub layout_weight : Checker → Layout → List ℕ → (Mark → ℕ) → ℕ → ℕ
layout_weight checker (Ok g) image weight p = checker_weight checker g image weight p
layout_weight checker (Err fault) image weight p = 0

-- the entries kept from piece `p` of an image with this layout (ncheck)
abbrev pub layout_kept : Checker → Layout → List ℕ → (Placed → ℕ) → ℕ → ℕ
layout_kept checker (Ok g) image weight p = checker_kept checker g image weight p
layout_kept checker (Err fault) image weight p = 0

-- the free-list fault that is kept for an image with this layout (icheck)
abbrev pub layout_fault : Checker → Layout → List ℕ → List ℕ → Option (FreeFault × ℕ)
layout_fault checker (Ok g) image draws = checker_fault checker g image draws
layout_fault checker (Err fault) image draws = None

-- true if a seat ran out of memory (this project)
abbrev pub found_no_memory : CheckSeat → Bool
found_no_memory s = s.spoiled

-- true if the last step of a seat found no piece left or ran out of memory (this project)
abbrev pub is_stopped : CheckSeat → Bool
is_stopped s = s.ended || s.spoiled

-- the last draw is past the pieces (this project)
pub record EndsPast (pieces : ℕ) (draws : List ℕ) : Type 0 where
  pub front : List ℕ
  pub n : ℕ
  pub is : draws ≡ front ++ n ∷ []
  pub past : pieces ≤ n

-- a seat of a table to which no other seat was joined; after it has stopped, its last draw, and no other, is past the pieces (this project)
pub record IsSeatOf (tally : Tally) (s : CheckSeat) : Type 0 where
  pub own : IsSeatAt tally s.seat
  pub parts : s.seat.me.0.parts ≡ 1
  pub late : late (table_shape tally).pieces s.seat.me.0.draws ≡ one_if s.ended
  pub last : s.ended ≡ true → EndsPast (table_shape tally).pieces s.seat.me.0.draws

-- the marks of a seat, and the fault and the entries that it keeps, are those of the pieces that it drew, in this image; nothing is stated about a
-- seat that ran out of memory (icheck, dcheck, ncheck)
pub record IsOf (checker : Checker) (layout : Layout) (image : List ℕ) (s : CheckSeat) : Type 0 where
  pub marks : s.spoiled ≡ false → (weight : Mark → ℕ) → total weight s.seat.me.0.marks ≡ total (layout_weight checker layout image weight) s.seat.me.0.draws
  pub fault : s.spoiled ≡ false → s.fault ≡ layout_fault checker layout image s.seat.me.0.draws
  pub entries : s.spoiled ≡ false → (weight : Placed → ℕ) → total weight s.entries.items ≡ total (layout_kept checker layout image weight) s.seat.me.0.draws

-- a seat that has done nothing yet (this project)
pub record IsFresh (tally : Tally) (s : CheckSeat) : Type 0 where
  pub own : IsSeatAt tally s.seat
  pub nothing : s.seat.me.0 ≡ view 1 [] []
  pub fault : s.fault ≡ None
  pub entries : s.entries.items ≡ []
  pub ended : s.ended ≡ false
  pub spoiled : s.spoiled ≡ false
