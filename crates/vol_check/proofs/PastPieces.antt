-- Past the last piece nothing is marked and no entry is kept.
use Rattle.std.proofs.Common.{◌≡◌, ◌≢◌, ℕ, ◌+◌, ◌<◌, ◌≤◌, ◌∙◌, sym, ap, ◌==◌, if◌then◌else◌, nat_le, List, [], ◌∷◌, ◌++◌, Option, None, Ok, Err, refl, inl, inr, arith}
use Rattle.std.proofs.lemmas.Bool.{cases_eq, eq-eqb, ne_eqb}
use Rattle.vol_layout.specs.declared.geometry.Geometry.{Geometry}
use Rattle.count_table.specs.declared.rule.Mark.{Mark}
use Rattle.count_table.specs.declared.rule.TableShape.{TableShape}
use Rattle.count_table.specs.Sums.{total, below}
use Rattle.count_table.proofs.Totals.{total_push}
use Rattle.vol_reports.specs.Icheck.{one_if}
use Rattle.vol_free.specs.FreeWalk.{free_walk}
use Rattle.vol_reports.specs.Placed.{Placed}
use Rattle.vol_reports.specs.declared.inode_link_counts.LinkCount.{LinkCount}
use Rattle.vol_check.specs.declared.checker.Checker.{Checker}
use Rattle.vol_check.specs.declared.checker.Checker.TheVariants.{Blocks, Entries, Names}
use Rattle.vol_check.specs.Shapes.{Layout, IsReady, IsShaped}
use Rattle.vol_check.specs.Parts.{part_count, parts_before, HasStarts}
use Rattle.vol_check.specs.Slots.{SlotWeight, slot_weight, slot_kept, part_sum, slots_piece}
use Rattle.vol_check.specs.Pieces.{piece_weight, free_weight, inode_weight}
use Rattle.vol_check.specs.Seats.{checker_weight, checker_kept, checker_fault, layout_weight, layout_kept, layout_fault}
use Rattle.vol_check.specs.Steps.{fault_after}
use Rattle.vol_check.proofs.Sums.{below_same}
use Rattle.vol_check.proofs.PieceSums.{value_past}

-- a piece of blocks past the last i-number makes no marks
pub past_weight : (g : Geometry) (image : List ℕ) (weight : Mark → ℕ) (n : ℕ) → g.last_inode < n → piece_weight g image weight n ≡ 0
unfolding piece_weight
past_weight g image weight n lt = grind (arith, lt)

-- piece 0 makes the marks of the free list
pub free_piece : (g : Geometry) (image : List ℕ) (weight : Mark → ℕ) (n : ℕ) → n ≡ 0 → piece_weight g image weight n ≡ free_weight g image weight
unfolding piece_weight
free_piece g image weight n e = ap (λ t. if t then free_weight g image weight else if nat_le n g.last_inode then inode_weight g image weight n else 0) (eq-eqb n 0 e)

pub inode_piece : (g : Geometry) (image : List ℕ) (weight : Mark → ℕ) (n : ℕ) → 1 ≤ n → n ≤ g.last_inode → piece_weight g image weight n ≡ inode_weight g image weight n
unfolding piece_weight
inode_piece g image weight n low high = grind (arith, low, high)

-- the number of pieces of the first `n` i-numbers is a sum over them
pub parts_one : (g : Geometry) (image : List ℕ) (n : ℕ) → below (λ x. part_count g image (1 + x)) n ≡ parts_before g image n
parts_one g image n = below_same (λ x. part_count g image (1 + x)) (λ k. part_count g image (k + 1)) n (λ k lt. ap (part_count g image) (omega arith))

-- a piece past the last part makes no marks
pub slots_past : (g : Geometry) (image : List ℕ) (weight : SlotWeight) (n : ℕ) → parts_before g image g.last_inode ≤ n → slots_piece g image weight n ≡ 0
unfolding slots_piece
slots_past g image weight n le =
    value_past (part_count g image) (part_sum g image weight) 1 g.last_inode n (let e = parts_one g image g.last_inode in omega arith)

module _ (g : Geometry) (image : List ℕ) (pieces : ℕ) (starts : List ℕ) (links : List LinkCount) (shape : TableShape) (n : ℕ) (high : pieces ≤ n) where
  parts_past : (checker : Checker) → checker ≢ Blocks → IsReady checker g pieces starts links shape → HasStarts g image starts → parts_before g image g.last_inode ≤ n
  parts_past checker other ready has = let p = ready.parts other in let a = has.at g.last_inode (omega arith) in omega (arith, p.last, a, high)

  checker_past : (checker : Checker) → shape.pieces ≡ pieces → IsReady checker g pieces starts links shape → (checker ≢ Blocks → HasStarts g image starts)
      → (weight : Mark → ℕ) → checker_weight checker g image weight n ≡ 0
  checker_past Blocks count ready has weight = past_weight g image weight n (omega (arith, count, (ready.words.of_blocks refl).pieces, high))
  checker_past Entries count ready has weight = let other : Entries ≢ Blocks = λ e. absurd (cc) in
      slots_past g image (slot_weight Entries g weight) n (parts_past Entries other ready (has other))
  checker_past Names count ready has weight = let other : Names ≢ Blocks = λ e. absurd (cc) in
      slots_past g image (slot_weight Names g weight) n (parts_past Names other ready (has other))

  kept_past : (checker : Checker) → IsReady checker g pieces starts links shape → (checker ≢ Blocks → HasStarts g image starts)
      → (weight : Placed → ℕ) → checker_kept checker g image weight n ≡ 0
  kept_past Blocks ready has weight = refl
  kept_past Entries ready has weight = let other : Entries ≢ Blocks = λ e. absurd (cc) in
      slots_past g image (slot_kept Entries weight) n (parts_past Entries other ready (has other))
  kept_past Names ready has weight = let other : Names ≢ Blocks = λ e. absurd (cc) in
      slots_past g image (slot_kept Names weight) n (parts_past Names other ready (has other))

-- a seat that drew piece 0 keeps the fault of the free list
zero_kept : (g : Geometry) (image : List ℕ) (draws : List ℕ) (n : ℕ) → n ≡ 0 → checker_fault Blocks g image (draws ++ n ∷ []) ≡ (free_walk g image).fault
zero_kept g image draws n e =
    let p = total_push (λ p. one_if (p == 0)) draws n in
    let o : ◌≡◌ {A = ℕ} (one_if (n == 0)) 1 = ap one_if (eq-eqb n 0 e) in
    let some : total (λ p. one_if (p == 0)) (draws ++ n ∷ []) ≢ 0 = λ z. omega (arith, p, o, z) in
    ap (λ t. if t then None else (free_walk g image).fault) (ne_eqb (total (λ p. one_if (p == 0)) (draws ++ n ∷ [])) 0 some)

other_kept : (checker : Checker) (g : Geometry) (image : List ℕ) (draws : List ℕ) (n : ℕ) → n ≢ 0 → checker_fault checker g image (draws ++ n ∷ []) ≡ checker_fault checker g image draws
other_kept Blocks g image draws n ne =
    let p = total_push (λ p. one_if (p == 0)) draws n in
    let o : ◌≡◌ {A = ℕ} (one_if (n == 0)) 0 = ap one_if (ne_eqb n 0 ne) in
    let same : total (λ p. one_if (p == 0)) (draws ++ n ∷ []) ≡ total (λ p. one_if (p == 0)) draws = omega (arith, p, o) in
    ap (λ k. if k == 0 then None else (free_walk g image).fault) same
other_kept Entries g image draws n ne = refl
other_kept Names g image draws n ne = refl

-- after piece `n` is done, the seat keeps the right fault
pub kept_next : (checker : Checker) (g : Geometry) (image : List ℕ) (draws : List ℕ) (n : ℕ) (old new : Option _) → old ≡ checker_fault checker g image draws
    → new ≡ fault_after checker g image n old → new ≡ checker_fault checker g image (draws ++ n ∷ [])
kept_next Blocks g image draws n old new before is = elim (cases_eq n 0) [
  | inl e ↦ is ∙ (ap (λ t. if t then (free_walk g image).fault else old) (eq-eqb n 0 e) ∙ sym (zero_kept g image draws n e))
  | inr ne ↦ is ∙ (ap (λ t. if t then (free_walk g image).fault else old) (ne_eqb n 0 ne) ∙ (before ∙ sym (other_kept Blocks g image draws n ne)))
]
kept_next Entries g image draws n old new before is = is ∙ before
kept_next Names g image draws n old new before is = is ∙ before

-- a number past the last piece: it adds no marks, no entries and no fault
pub record IsPast (checker : Checker) (layout : Layout) (image : List ℕ) (n : ℕ) : Type 0 where
  pub marks : (weight : Mark → ℕ) → layout_weight checker layout image weight n ≡ 0
  pub entries : (weight : Placed → ℕ) → layout_kept checker layout image weight n ≡ 0
  pub fault : (draws : List ℕ) → layout_fault checker layout image (draws ++ n ∷ []) ≡ layout_fault checker layout image draws

-- a draw past the last piece of a sweep over the blocks doesn't change the fault that is kept
some_blocks : (checker : Checker) (g : Geometry) (pieces : ℕ) (starts : List ℕ) (links : List LinkCount) (shape : TableShape) (n : ℕ) → shape.pieces ≡ pieces
    → IsReady checker g pieces starts links shape → pieces ≤ n → (draws : List ℕ) (image : List ℕ)
    → checker_fault checker g image (draws ++ n ∷ []) ≡ checker_fault checker g image draws
some_blocks Blocks g pieces starts links shape n count ready high draws image = other_kept Blocks g image draws n (λ e. omega (arith, e, count, (ready.words.of_blocks refl).pieces, high))
some_blocks Entries g pieces starts links shape n count ready high draws image = refl
some_blocks Names g pieces starts links shape n count ready high draws image = refl

pub is_past : (checker : Checker) (layout : Layout) (image : List ℕ) (pieces : ℕ) (starts : List ℕ) (links : List LinkCount) (shape : TableShape) (n : ℕ)
    → IsShaped checker layout pieces starts links shape → ((g : Geometry) → layout ≡ Ok g → checker ≢ Blocks → HasStarts g image starts) → pieces ≤ n
    → IsPast checker layout image n
is_past checker (Ok g) image pieces starts links shape n shaped has high =
    let ready = shaped.ready g refl in record {
      marks = λ weight. checker_past g image pieces starts links shape n high checker shaped.count ready (has g refl) weight;
      entries = λ weight. kept_past g image pieces starts links shape n high checker ready (has g refl) weight;
      fault = λ draws. some_blocks checker g pieces starts links shape n shaped.count ready high draws image;
    }
is_past checker (Err fault) image pieces starts links shape n shaped has high = record { marks = λ weight. refl; entries = λ weight. refl; fault = λ draws. refl }
