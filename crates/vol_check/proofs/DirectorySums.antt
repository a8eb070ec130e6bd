-- The sums over the slots of all directories.
use Rattle.std.proofs.Common.{◌≡◌, ◌≢◌, ◌⊎◌, ℕ, ◌+◌, ◌-◌, ◌*◌, ◌≤◌, ◌∙◌, sym, ap, List, [], ◌∷◌, map, None, refl, inl, inr, arith}
use Rattle.vol_layout.specs.declared.geometry.Geometry.{Geometry}
use Rattle.vol_layout.specs.declared.mode.Kind.{Kind}
use Rattle.vol_layout.specs.declared.mode.Kind.TheVariants as kinds
use Rattle.vol_file.specs.Rules.{kind_at}
use Rattle.vol_dir.specs.Entries.{entry_at, slot_count}
use Rattle.count_table.specs.Sums.{total, below, late}
use Rattle.count_table.proofs.Totals.{below_more, below_none, total_nil, total_cons}
use Rattle.vol_check.specs.Parts.{part_count, parts_before, HasStarts}
use Rattle.vol_check.specs.Shapes.{CountsParts}
use Rattle.vol_check.specs.Slots.{SlotWeight, in_directory, part_sum, slots_piece}
use Rattle.vol_check.proofs.Sums.{below_same}
use Rattle.vol_check.proofs.Drawn.{below_stops, each_once}
use Rattle.vol_check.proofs.PieceSums.{below_rows, all_pieces}
use Rattle.vol_check.proofs.PartCounts.{one_part, directory_parts}
use Rattle.vol_check.proofs.PastPieces.{parts_one, slots_past}
use Rattle.vol_check.proofs.Noted.{part_is, part_none, entry_past}

-- the sum over the slots of i-number `d`, or 0 if it isn't a directory
abbrev pub directory_sum : Geometry → List ℕ → SlotWeight → ℕ → ℕ
directory_sum g image weight d = in_directory (kind_at g image d) (below (λ s. weight d s (entry_at g image d s)) (slot_count g image d))

-- a kind is either the kind of a directory or another one
is_directory : (kind : Kind) → (kind ≡ kinds.Directory) ⊎ (kind ≢ kinds.Directory)
is_directory kinds.Directory = inl refl
is_directory kinds.Free = inr (λ e. absurd (cc))
is_directory kinds.Regular = inr (λ e. absurd (cc))
is_directory kinds.Special = inr (λ e. absurd (cc))
is_directory kinds.Odd = inr (λ e. absurd (cc))

pub none_in : (kind : Kind) (n : ℕ) → kind ≢ kinds.Directory → in_directory kind n ≡ 0
none_in kinds.Directory n other = absurd (other refl)
none_in kinds.Free n other = refl
none_in kinds.Regular n other = refl
none_in kinds.Special n other = refl
none_in kinds.Odd n other = refl

module _ (g : Geometry) (image : List ℕ) (weight : SlotWeight) (blank : (d s : ℕ) → weight d s None ≡ 0) where
  -- the sum over all parts of an i-number is the sum over all its slots
  pub all_parts : (d : ℕ) → below (part_sum g image weight d) (part_count g image d) ≡ directory_sum g image weight d
  all_parts d = elim (is_directory (kind_at g image d)) [
    | inl is ↦
        let f : ℕ → ℕ = λ s. weight d s (entry_at g image d s) in
        let n = part_count g image d in
        let parts = directory_parts g image d is in
        let rows = below_same (part_sum g image weight d) (λ k. below (λ t. f (2048 * k + t)) 2048) n (λ k lt. part_is g image weight d k is) ∙ below_rows f 2048 n in
        let len : 2048 * n ≡ slot_count g image d + (2048 * n - slot_count g image d) = omega arith in
        let end = ap (below f) len ∙ below_stops f (slot_count g image d) (2048 * n - slot_count g image d)
        (λ s le. ap (weight d s) (entry_past g image d s le) ∙ blank d s) in
        rows ∙ (end ∙ sym (ap (λ k. in_directory k (below f (slot_count g image d))) is))
    | inr other ↦
        let one = ap (below (part_sum g image weight d)) (one_part g image d other) in
        let more = below_more (part_sum g image weight d) 0 in
        let none = below_none (part_sum g image weight d) in
        let zero-sum = part_none g image weight d 0 other in
        let here = none_in (kind_at g image d) (below (λ s. weight d s (entry_at g image d s)) (slot_count g image d)) other in
        one ∙ omega (arith, more, none, zero-sum, here)
  ]

  -- the sum over all pieces is the sum over the slots of all directories
  pub all_slots : below (slots_piece g image weight) (parts_before g image g.last_inode) ≡ below (λ k. directory_sum g image weight (k + 1)) g.last_inode
  unfolding slots_piece
  all_slots =
      let count = parts_one g image g.last_inode in
      let a = ap (below (slots_piece g image weight)) (sym count) in
      let p = all_pieces (part_count g image) (part_sum g image weight) 1 g.last_inode in
      let s = below_same (λ k. below (part_sum g image weight (1 + k)) (part_count g image (1 + k))) (λ k. directory_sum g image weight (k + 1)) g.last_inode
      (λ k lt. let e : 1 + k ≡ k + 1 = omega arith in
      ap (λ d. below (part_sum g image weight d) (part_count g image d)) e ∙ all_parts (k + 1)) in
      a ∙ (p ∙ s)

  -- if all pieces were drawn, each once, the sum over the draws is the sum over the slots of all directories
  pub drawn_slots : (pieces n : ℕ) (starts draws : List ℕ) → ((f : ℕ → ℕ) → total f draws ≡ below f n) → 1 ≤ late pieces draws
      → CountsParts g pieces starts → HasStarts g image starts
      → total (slots_piece g image weight) draws ≡ below (λ k. directory_sum g image weight (k + 1)) g.last_inode
  drawn_slots pieces n starts draws drawn stopped parts has =
      let count : pieces ≡ parts_before g image g.last_inode = sym parts.last ∙ has.at g.last_inode (omega arith) in
      each_once pieces n draws (slots_piece g image weight) drawn stopped (λ p le. slots_past g image weight p (omega arith))
      ∙ (ap (below (slots_piece g image weight)) count ∙ all_slots)

-- the sum over a mapped list is the sum of the mapped elements' weights
pub total_map : {A B : Type 0} (f : B → ℕ) (h : A → B) (xs : List A) → total f (map h xs) ≡ total (λ x. f (h x)) xs
total_map f h [] = total_nil f ∙ sym (total_nil (λ x. f (h x)))
total_map f h (x ∷ xs) =
    let a = total_cons f (h x) (map h xs) in let b = total_cons (λ x. f (h x)) x xs in let e = total_map f h xs in omega arith
