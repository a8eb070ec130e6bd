-- The words that are counted satisfy the definition of the entry report.
use Rattle.std.proofs.Common.{◌≡◌, ℕ, ◌+◌, ◌^◌, ◌%◌, ◌<◌, ◌≤◌, ◌∙◌, sym, ap, cond, if◌then◌else◌, nat_le, List, map, slice_index, Option, None, Some, Bool, true, false, refl, inl, inr, arith}
use Rattle.std.proofs.lemmas.Bool.{cases_eq, eq-eqb, ne_eqb, le-leb}
use Rattle.std.proofs.lemmas.List.Sums.{count_by-le-length}
use Rattle.std.specs.List.{count_by, range_with_len}
use Rattle.vol_layout.specs.Geometry.{Fits}
use Rattle.vol_layout.specs.declared.geometry.Geometry.{Geometry}
use Rattle.vol_layout.specs.declared.mode.Kind.{Kind}
use Rattle.vol_layout.specs.declared.mode.Kind.TheVariants as kinds
use Rattle.vol_file.specs.Rules.{kind_at}
use Rattle.vol_dir.specs.Entries.{entry_at, slot_count, slots}
use Rattle.vol_dir.proofs.Searches.{slots_low}
use Rattle.vol_dir.proofs.ReadSlots.{length-slots}
use Rattle.vol_judge.specs.Directories.{is_for, count_in, entry_count}
use Rattle.count_table.specs.declared.rule.Mark.{Mark}
use Rattle.count_table.specs.declared.rule.SeatView.{SeatView}
use Rattle.count_table.specs.declared.rule.TableShape.{TableShape}
use Rattle.count_table.specs.Sums.{total, below, late, sum_at, amount_at}
use Rattle.count_table.specs.Rule.{IsSummed}
use Rattle.vol_reports.specs.Words.{HasEntryWords, entry_word}
use Rattle.vol_reports.specs.Counted.{CountsEntries}
use Rattle.vol_check.specs.declared.checker.Checker.TheVariants.{Entries}
use Rattle.vol_check.specs.Parts.{HasStarts}
use Rattle.vol_check.specs.Shapes.{CountsParts}
use Rattle.vol_check.specs.Slots.{slot_weight, entry_weight, in_directory, slots_piece}
use Rattle.vol_check.proofs.Sums.{below_same, total_start}
use Rattle.vol_check.proofs.Drawn.{total_by, over_inodes, below_at_most}
use Rattle.vol_check.proofs.BlockWords.{on_here, on_else}
use Rattle.vol_check.proofs.Reported.{exact, few_inodes}
use Rattle.vol_check.proofs.Noted.{blank_weight}
use Rattle.vol_check.proofs.DirectorySums.{directory_sum, drawn_slots, total_map}

-- an entry adds 1 to the word of its i-number, and nothing to other words
entry_at_word : (g : Geometry) (i : ℕ) (slot : Option (List ℕ × ℕ)) → i ≤ g.last_inode → entry_weight g (amount_at (entry_word i)) slot ≡ cond (is_for i slot) 1 0
entry_at_word g i None last = refl
entry_at_word g i (Some e) last = elim (cases_eq e.1 i) [
  | inl same ↦
      let few = le-leb e.1 g.last_inode (omega arith) in
      ap (λ t. if t then amount_at i (record { word = e.1; amount = 1 }) else 0) few
      ∙ (on_here (λ (m : Mark). m.amount) e.1 i 1 same ∙ sym (ap (λ t. cond t 1 0) (eq-eqb e.1 i same)))
  | inr other ↦
      let none = on_else (λ (m : Mark). m.amount) e.1 i 1 other in
      either_zero (nat_le e.1 g.last_inode) (amount_at i (record { word = e.1; amount = 1 })) none ∙ sym (ap (λ t. cond t 1 0) (ne_eqb e.1 i other))
]
  where
    either_zero : (t : Bool) (n : ℕ) → n ≡ 0 → (if t then n else 0) ≡ 0
    either_zero true n none = none
    either_zero false n none = refl

-- the slots of directory `d` add to the word of i-number `i` the number of entries for `i`
slots_for : (g : Geometry) (image : List ℕ) (i d : ℕ) → i ≤ g.last_inode
    → below (λ s. entry_weight g (amount_at (entry_word i)) (entry_at g image d s)) (slot_count g image d) ≡ count_by (is_for i) (slots g image d)
unfolding slots
slots_for g image i d last =
    below_same (λ s. entry_weight g (amount_at (entry_word i)) (entry_at g image d s)) (λ s. cond (is_for i (entry_at g image d s)) 1 0) (slot_count g image d)
    (λ s lt. entry_at_word g i (entry_at g image d s) last)
    ∙ (sym (total_start (λ s. cond (is_for i (entry_at g image d s)) 1 0) (slot_count g image d))
    ∙ (sym (total_map (λ slot. cond (is_for i slot) 1 0) (entry_at g image d) (range_with_len 0 (slot_count g image d)))
    ∙ total_by (λ slot. cond (is_for i slot) 1 0) (map (entry_at g image d) (range_with_len 0 (slot_count g image d)))))

by_kind : (g : Geometry) (image : List ℕ) (i d : ℕ) (kind : Kind) (n : ℕ) → n ≡ count_by (is_for i) (slots g image d) → in_directory kind n ≡ count_in g image i d kind
by_kind g image i d kinds.Directory n is = is
by_kind g image i d kinds.Free n is = refl
by_kind g image i d kinds.Regular n is = refl
by_kind g image i d kinds.Special n is = refl
by_kind g image i d kinds.Odd n is = refl

few_in : (g : Geometry) (image : List ℕ) (i d : ℕ) (kind : Kind) → count_in g image i d kind ≤ 268435456
few_in g image i d kinds.Directory =
    let c = count_by-le-length (is_for i) (slots g image d) in
    let l = length-slots g image d in
    let few = slots_low g image d in omega arith
few_in g image i d kinds.Free = omega arith
few_in g image i d kinds.Regular = omega arith
few_in g image i d kinds.Special = omega arith
few_in g image i d kinds.Odd = omega arith

module _ (g : Geometry) (image : List ℕ) (fits : Fits g image) where
  few_entries : (i : ℕ) → entry_count g image i < 2 ^ 64
  unfolding entry_count
  few_entries i =
      let f : ℕ → ℕ = λ d. count_in g image i d (kind_at g image d) in
      let o = over_inodes f g.last_inode in
      let m = below_at_most (λ k. f (k + 1)) 268435456 g.last_inode (λ k lt. few_in g image i (k + 1) (kind_at g image (k + 1))) in
      let l = few_inodes g image fits in omega (arith, o, m, l)

  module _ (shape : TableShape) (v : SeatView) (words : List ℕ) (pieces : ℕ) (starts : List ℕ) (has : HasEntryWords g shape) (summed : IsSummed shape v words)
      (count : shape.pieces ≡ pieces) (stopped : 1 ≤ late shape.pieces v.draws) (parts : CountsParts g pieces starts) (at : HasStarts g image starts)
      (marks : (weight : Mark → ℕ) → total weight v.marks ≡ total (slots_piece g image (slot_weight Entries g weight)) v.draws) where
    entries_summed : (i : ℕ) → i ≤ g.last_inode → sum_at (entry_word i) v.marks ≡ entry_count g image i
    unfolding entry_count
    entries_summed i last =
        let w = amount_at (entry_word i) in
        let m = marks w in
        let d = drawn_slots g image (slot_weight Entries g w) (λ d s. blank_weight Entries g w d s) pieces (slice_index words 0) starts v.draws summed.drawn
        (let c = ap (λ p. late p v.draws) count in omega arith) parts at in
        let e = below_same (λ k. directory_sum g image (slot_weight Entries g w) (k + 1)) (λ k. count_in g image i (k + 1) (kind_at g image (k + 1))) g.last_inode
        (λ k lt. by_kind g image i (k + 1) (kind_at g image (k + 1)) _ (slots_for g image i (k + 1) last)) in
        let o = over_inodes (λ d. count_in g image i d (kind_at g image d)) g.last_inode in
        m ∙ (d ∙ (e ∙ o))

    pub counts_entries : CountsEntries g image words
    counts_entries = record {
      wide = let e = summed.wide in let c = has.counts in let l = has.leasts in omega arith;
      entries = λ i first last.
          exact (slice_index words i) (entry_count g image i)
          (summed.counted i first (let c = has.counts in omega arith) ∙ ap (λ n. n % 2 ^ 64) (entries_summed i last)) (few_entries i);
    }
