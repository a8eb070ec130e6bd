-- The pieces of a sweep over directories.
use Rattle.std.proofs.Common.{◌≡◌, ◌≢◌, ℕ, ◌+◌, ◌-◌, ◌<◌, ◌∙◌, ap, List, Ok, Err, refl, arith}
use Rattle.vol_layout.specs.declared.geometry.Geometry.{Geometry}
use Rattle.count_table.specs.declared.rule.TableShape.{TableShape}
use Rattle.count_table.specs.declared.words.Tally.{Tally}
use Rattle.count_table.proofs.Totals.{below_more}
use Rattle.vol_reports.specs.declared.inode_link_counts.LinkCount.{LinkCount}
use Rattle.vol_check.specs.declared.checker.Checker.{Checker}
use Rattle.vol_check.specs.declared.checker.Checker.TheVariants.{Blocks, Entries, Names}
use Rattle.vol_check.specs.declared.parts.Part.{Part}
use Rattle.vol_check.specs.declared.seats.CheckSeat.{CheckSeat}
use Rattle.vol_check.specs.Parts.{part_count, parts_before, HasStarts, IsPart}
use Rattle.vol_check.specs.Shapes.{Layout, IsShaped}
use Rattle.vol_check.specs.Slots.{SlotWeight, slot_weight, slot_kept, part_sum, slots_piece}
use Rattle.vol_check.specs.Notes.{Notes}
use Rattle.vol_check.specs.Steps.{Works}
use Rattle.vol_check.proofs.PieceSums.{value_at}
use Rattle.vol_check.proofs.PastPieces.{parts_one}
use Rattle.vol_check.proofs.AddedMarks.{adds_as}

-- a sweep that has pieces is over images with a geometry
pub laid : (checker : Checker) (layout : Layout) (pieces n : ℕ) (starts : List ℕ) (links : List LinkCount) (shape : TableShape) → IsShaped checker layout pieces starts links shape
    → n < pieces → (g : Geometry) × (layout ≡ Ok g)
laid checker (Ok g) pieces n starts links shape shaped lt = (g, refl)
laid checker (Err fault) pieces n starts links shape shaped lt = let z = shaped.none fault refl in absurd (omega arith)

-- a layout has one geometry
pub one_geometry : (layout : Layout) (g h : Geometry) → layout ≡ Ok g → layout ≡ Ok h → g ≡ h
one_geometry layout g h first second = cc

module _ (g : Geometry) (image starts : List ℕ) (n : ℕ) (part : Part) (has : HasStarts g image starts) (is : IsPart starts n part) where
  start : n ≡ parts_before g image (part.inode - 1) + part.index
  start =
      let wide = has.wide in
      let last = is.last in
      let first = is.first in
      let a = has.at (part.inode - 1) (omega arith) in
      let s = is.start in omega arith

  -- the part of a piece is one of the parts of its i-number
  pub part_within : part.index < part_count g image part.inode
  part_within =
      let wide = has.wide in
      let last = is.last in
      let first = is.first in
      let b = has.at part.inode (omega arith) in
      let back : part.inode - 1 + 1 ≡ part.inode = omega arith in
      let more = below_more (λ k. part_count g image (k + 1)) (part.inode - 1) in
      let here = ap (parts_before g image) back in
      let count = ap (part_count g image) back in
      let s = start in
      let e = is.end in omega arith

  -- the weight of a piece is the sum over its part
  pub piece_is : (weight : SlotWeight) → slots_piece g image weight n ≡ part_sum g image weight part.inode part.index
  unfolding slots_piece
  piece_is weight =
      let wide = has.wide in
      let last = is.last in
      let first = is.first in
      let back : 1 + (part.inode - 1) ≡ part.inode = omega arith in
      let count = ap (part_count g image) back in
      let before = parts_one g image (part.inode - 1) in
      let s = start in
      let w = part_within in
      value_at (part_count g image) (part_sum g image weight) 1 g.last_inode (part.inode - 1) part.index n (omega arith) (omega arith) (omega arith)
      ∙ ap (λ i. part_sum g image weight i part.index) back

  -- a seat that marked a part and kept its entries has done the piece
  pub note_works : (tally : Tally) (checker : Checker) (old new : CheckSeat) → checker ≢ Blocks
      → Notes tally old new (λ weight. part_sum g image (slot_weight checker g weight) part.inode part.index) (λ weight. part_sum g image (slot_kept checker weight) part.inode part.index)
      → Works tally checker g image n old new
  note_works tally Blocks old new other notes = absurd (other refl)
  note_works tally Entries old new other notes = record {
    adds = adds_as tally old.seat new.seat (λ weight. part_sum g image (slot_weight Entries g weight) part.inode part.index)
        (λ weight. slots_piece g image (slot_weight Entries g weight) n) notes.adds (λ weight. piece_is (slot_weight Entries g weight));
    entries = λ weight. let e = notes.entries weight in let p = piece_is (slot_kept Entries weight) in omega arith;
    fault = notes.fault;
    ended = notes.ended;
    spoiled = notes.spoiled;
  }
  note_works tally Names old new other notes = record {
    adds = adds_as tally old.seat new.seat (λ weight. part_sum g image (slot_weight Names g weight) part.inode part.index)
        (λ weight. slots_piece g image (slot_weight Names g weight) n) notes.adds (λ weight. piece_is (slot_weight Names g weight));
    entries = λ weight. let e = notes.entries weight in let p = piece_is (slot_kept Names weight) in omega arith;
    fault = notes.fault;
    ended = notes.ended;
    spoiled = notes.spoiled;
  }
