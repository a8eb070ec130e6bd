-- The words and entries that are collected satisfy the definition of the name report.
use Rattle.std.proofs.Common.{◌≡◌, ◌⊎◌, ℕ, zero, suc, ◌+◌, ◌≤◌, ◌∙◌, ◌==◌, sym, ap, cond, if◌then◌else◌, nat_le, List, [], ◌∷◌, ◌++◌, map, filter, slice_index, Option, None, Some, Bool, true, false, refl, inl, inr, arith}
use Rattle.std.proofs.lemmas.Bool.{cases_eq, cases_Bool, eq-eqb, ne_eqb, le-leb}
use Rattle.std.specs.List.{flat_map, range_with_len}
use Rattle.vol_layout.specs.Geometry.{Fits}
use Rattle.vol_layout.specs.declared.geometry.Geometry.{Geometry}
use Rattle.vol_layout.specs.declared.mode.Kind.{Kind}
use Rattle.vol_layout.specs.declared.mode.Kind.TheVariants as kinds
use Rattle.vol_file.specs.Rules.{kind_at}
use Rattle.vol_dir.specs.Entries.{entry_at, slot_count}
use Rattle.vol_dir.specs.Names.{is_dots}
use Rattle.vol_dir.proofs.Searches.{slots_low}
use Rattle.vol_judge.specs.Steps.{rank}
use Rattle.count_table.specs.declared.rule.Mark.{Mark}
use Rattle.count_table.specs.declared.rule.SeatView.{SeatView}
use Rattle.count_table.specs.declared.rule.TableShape.{TableShape}
use Rattle.count_table.specs.Sums.{total, below, late}
use Rattle.count_table.specs.Views.{mark}
use Rattle.count_table.specs.Rule.{IsSummed}
use Rattle.count_table.proofs.Totals.{total_nil, total_cons}
use Rattle.vol_reports.specs.Words.{HasNameWords, name_word}
use Rattle.vol_reports.specs.Icheck.{least_of}
use Rattle.vol_reports.specs.Placed.{Placed, placed}
use Rattle.vol_reports.specs.Ncheck.{entered, entries_of, entries_in, all_entries, naming_entry}
use Rattle.vol_reports.specs.Counted.{rank_of, CountsNames}
use Rattle.vol_check.specs.declared.checker.Checker.TheVariants.{Names}
use Rattle.vol_check.specs.Parts.{HasStarts}
use Rattle.vol_check.specs.Shapes.{CountsParts}
use Rattle.vol_check.specs.Slots.{slot_weight, slot_kept, name_weight, in_directory, slots_piece}
use Rattle.vol_check.proofs.Sums.{below_same, total_flat, total_range, total_start}
use Rattle.vol_check.proofs.Drawn.{total_by}
use Rattle.vol_check.proofs.BlockWords.{on, on_here, on_else, total_kept, least_is}
use Rattle.vol_check.proofs.Reported.{few_inodes}
use Rattle.vol_check.proofs.Noted.{blank_weight, blank_kept}
use Rattle.vol_check.proofs.DirectorySums.{directory_sum, drawn_slots, total_map}

-- the rank of an entry
abbrev rank_at : Placed → ℕ
rank_at e = rank e.directory e.slot

-- the sum over the entries of a directory is the sum over its slots
pub sum_in : (g : Geometry) (image : List ℕ) (weight : Placed → ℕ) (d : ℕ) (kind : Kind)
    → total weight (entries_in g image d kind) ≡ in_directory kind (below (λ s. total weight (entered d s (entry_at g image d s))) (slot_count g image d))
unfolding entries_of
sum_in g image weight d kinds.Directory =
    total_flat weight (λ s. entered d s (entry_at g image d s)) (range_with_len 0 (slot_count g image d))
    ∙ total_start (λ s. total weight (entered d s (entry_at g image d s))) (slot_count g image d)
sum_in g image weight d kinds.Free = total_nil weight
sum_in g image weight d kinds.Regular = total_nil weight
sum_in g image weight d kinds.Special = total_nil weight
sum_in g image weight d kinds.Odd = total_nil weight

-- the sum over all entries is the sum over the slots of all directories
pub sum_all : (g : Geometry) (image : List ℕ) (weight : Placed → ℕ)
    → total weight (all_entries g image) ≡ below (λ k. directory_sum g image (slot_kept Names weight) (k + 1)) g.last_inode
unfolding all_entries
sum_all g image weight =
    total_flat weight (λ d. entries_in g image d (kind_at g image d)) (range_with_len 1 g.last_inode)
    ∙ (total_range (λ d. total weight (entries_in g image d (kind_at g image d))) 1 g.last_inode
    ∙ below_same (λ k. total weight (entries_in g image (1 + k) (kind_at g image (1 + k)))) (λ k. directory_sum g image (slot_kept Names weight) (k + 1)) g.last_inode
    (λ k lt. let e : 1 + k ≡ k + 1 = omega arith in
    ap (λ d. total weight (entries_in g image d (kind_at g image d))) e ∙ sum_in g image weight (k + 1) (kind_at g image (k + 1))))

-- the mark of an entry's rank if the entry is for i-number `i`, else 0
abbrev for_inode : ℕ → (Mark → ℕ) → Placed → ℕ
for_inode i weight e = if e.inode == i then weight (mark i (rank_at e)) else 0

-- a slot marks the word of i-number `i` with the rank of its entry if the entry is for `i`
mark_in : (g : Geometry) (i d s : ℕ) (weight : Mark → ℕ) (slot : Option (List ℕ × ℕ)) → i ≤ g.last_inode
    → name_weight g (on (name_word i) weight) d s slot ≡ total (for_inode i weight) (entered d s slot)
mark_in g i d s weight None last = sym (total_nil (for_inode i weight))
mark_in g i d s weight (Some e) last = elim (cases_Bool (is_dots e.0)) [
  | inl dots ↦
      ap (λ t. if t then 0 else if nat_le e.1 g.last_inode then on i weight (mark e.1 (rank d s)) else 0) dots
      ∙ sym (ap (λ t. total (for_inode i weight) (if t then [] else placed d s e.1 e.0 ∷ [])) dots ∙ total_nil (for_inode i weight))
  | inr other ↦
      let one = total_cons (for_inode i weight) (placed d s e.1 e.0) [] in
      let none = total_nil (for_inode i weight) in
      let right : total (for_inode i weight) (entered d s (Some e)) ≡ for_inode i weight (placed d s e.1 e.0) =
      ap (λ t. total (for_inode i weight) (if t then [] else placed d s e.1 e.0 ∷ [])) other ∙ omega arith in
      ap (λ t. if t then 0 else if nat_le e.1 g.last_inode then on i weight (mark e.1 (rank d s)) else 0) other
      ∙ (marked (cases_eq e.1 i) ∙ sym right)
]
  where
    unless : (t : Bool) (n : ℕ) → n ≡ 0 → (if t then n else 0) ≡ 0
    unless true n none = none
    unless false n none = refl

    marked : (e.1 ≡ i) ⊎ (e.1 ≡ i → ⊥) → (if nat_le e.1 g.last_inode then on i weight (mark e.1 (rank d s)) else 0) ≡ (if e.1 == i then weight (mark i (rank d s)) else 0)
    marked (inl same) =
        let few = le-leb e.1 g.last_inode (omega arith) in
        ap (λ t. if t then on i weight (mark e.1 (rank d s)) else 0) few
        ∙ (on_here weight e.1 i (rank d s) same ∙ sym (ap (λ t. if t then weight (mark i (rank d s)) else 0) (eq-eqb e.1 i same)))
    marked (inr differs) =
        unless (nat_le e.1 g.last_inode) (on i weight (mark e.1 (rank d s))) (on_else weight e.1 i (rank d s) differs)
        ∙ sym (ap (λ t. if t then weight (mark i (rank d s)) else 0) (ne_eqb e.1 i differs))

-- entries are in ascending order of their ranks, and the first rank is at least `low`
abbrev Ascends : ℕ → List Placed → Type 0
Ascends low [] = Unit {0}
Ascends low (e ∷ es) = (low ≤ rank_at e) × Ascends (rank_at e) es

-- no rank of these entries is above `high`
abbrev UpTo : ℕ → List Placed → Type 0
UpTo high [] = Unit {0}
UpTo high (e ∷ es) = (rank_at e ≤ high) × UpTo high es

lower : (low less : ℕ) (es : List Placed) → less ≤ low → Ascends low es → Ascends less es
lower low less [] le asc = tt
lower low less (e ∷ es) le asc = (omega (arith, le, asc.0), asc.1)

raise : (high more : ℕ) (es : List Placed) → high ≤ more → UpTo high es → UpTo more es
raise high more [] le up = tt
raise high more (e ∷ es) le up = (omega (arith, le, up.0), raise high more es le up.1)

-- entries up to rank `mid` followed by entries starting with `mid` are in ascending order
behind : (low mid : ℕ) (xs ys : List Placed) → low ≤ mid → Ascends low xs → UpTo mid xs → Ascends mid ys → Ascends low (xs ++ ys)
behind low mid [] ys le asc up rest = lower mid low ys le rest
behind low mid (x ∷ xs) ys le asc up rest = (asc.0, behind (rank_at x) mid xs ys up.0 asc.1 up.1 rest)

both_up : (high : ℕ) (xs ys : List Placed) → UpTo high xs → UpTo high ys → UpTo high (xs ++ ys)
both_up high [] ys first second = second
both_up high (x ∷ xs) ys first second = (first.0, both_up high xs ys first.1 second)

-- the entry of a slot has the slot's rank
one_ascends : (d s i : ℕ) (name : List ℕ) (t : Bool) → Ascends (rank d s) (if t then [] else placed d s i name ∷ [])
one_ascends d s i name true = tt
one_ascends d s i name false = (omega arith, tt)

one_up : (d s i : ℕ) (name : List ℕ) (t : Bool) → UpTo (rank d s) (if t then [] else placed d s i name ∷ [])
one_up d s i name true = tt
one_up d s i name false = (omega arith, tt)

slot_ascends : (d s : ℕ) (slot : Option (List ℕ × ℕ)) → Ascends (rank d s) (entered d s slot)
slot_ascends d s None = tt
slot_ascends d s (Some e) = one_ascends d s e.1 e.0 (is_dots e.0)

slot_up : (d s : ℕ) (slot : Option (List ℕ × ℕ)) → UpTo (rank d s) (entered d s slot)
slot_up d s None = tt
slot_up d s (Some e) = one_up d s e.1 e.0 (is_dots e.0)

module _ (g : Geometry) (image : List ℕ) where
  -- the entries of directory `d` starting with slot `a` are in the order of their slots
  slots_ascend : (d a n : ℕ) → Ascends (rank d a) (flat_map (λ s. entered d s (entry_at g image d s)) (range_with_len a n))
  slots_ascend d a zero = tt
  slots_ascend d a (suc n) =
      behind (rank d a) (rank d a) (entered d a (entry_at g image d a)) (flat_map (λ s. entered d s (entry_at g image d s)) (range_with_len (a + 1) n)) (omega arith)
      (slot_ascends d a (entry_at g image d a)) (slot_up d a (entry_at g image d a))
      (lower (rank d (a + 1)) (rank d a) (flat_map (λ s. entered d s (entry_at g image d s)) (range_with_len (a + 1) n)) (omega arith) (slots_ascend d (a + 1) n))

  slots_up : (d a n : ℕ) → UpTo (rank d (a + n)) (flat_map (λ s. entered d s (entry_at g image d s)) (range_with_len a n))
  slots_up d a zero = tt
  slots_up d a (suc n) =
      both_up (rank d (a + suc n)) (entered d a (entry_at g image d a)) (flat_map (λ s. entered d s (entry_at g image d s)) (range_with_len (a + 1) n))
      (raise (rank d a) (rank d (a + suc n)) (entered d a (entry_at g image d a)) (omega arith) (slot_up d a (entry_at g image d a)))
      (raise (rank d (a + 1 + n)) (rank d (a + suc n)) (flat_map (λ s. entered d s (entry_at g image d s)) (range_with_len (a + 1) n)) (omega arith) (slots_up d (a + 1) n))

  -- the entries of directory `d` are in ascending order, starting with the rank of its first slot
  in_ascends : (d : ℕ) (kind : Kind) → Ascends (rank d 0) (entries_in g image d kind)
  unfolding entries_of
  in_ascends d kinds.Directory = slots_ascend d 0 (slot_count g image d)
  in_ascends d kinds.Free = tt
  in_ascends d kinds.Regular = tt
  in_ascends d kinds.Special = tt
  in_ascends d kinds.Odd = tt

  in_up : (d : ℕ) (kind : Kind) → UpTo (rank (d + 1) 0) (entries_in g image d kind)
  unfolding entries_of
  in_up d kinds.Directory =
      let few = slots_low g image d in
      raise (rank d (0 + slot_count g image d)) (rank (d + 1) 0) (flat_map (λ s. entered d s (entry_at g image d s)) (range_with_len 0 (slot_count g image d)))
      (omega arith) (slots_up d 0 (slot_count g image d))
  in_up d kinds.Free = tt
  in_up d kinds.Regular = tt
  in_up d kinds.Special = tt
  in_up d kinds.Odd = tt

  directories_ascend : (a n : ℕ) → Ascends (rank a 0) (flat_map (λ d. entries_in g image d (kind_at g image d)) (range_with_len a n))
  directories_ascend a zero = tt
  directories_ascend a (suc n) =
      behind (rank a 0) (rank (a + 1) 0) (entries_in g image a (kind_at g image a)) (flat_map (λ d. entries_in g image d (kind_at g image d)) (range_with_len (a + 1) n))
      (omega arith) (in_ascends a (kind_at g image a)) (in_up a (kind_at g image a)) (directories_ascend (a + 1) n)

  directories_up : (a n : ℕ) → UpTo (rank (a + n) 0) (flat_map (λ d. entries_in g image d (kind_at g image d)) (range_with_len a n))
  directories_up a zero = tt
  directories_up a (suc n) =
      both_up (rank (a + suc n) 0) (entries_in g image a (kind_at g image a)) (flat_map (λ d. entries_in g image d (kind_at g image d)) (range_with_len (a + 1) n))
      (raise (rank (a + 1) 0) (rank (a + suc n) 0) (entries_in g image a (kind_at g image a)) (omega arith) (in_up a (kind_at g image a)))
      (raise (rank (a + 1 + n) 0) (rank (a + suc n) 0) (flat_map (λ d. entries_in g image d (kind_at g image d)) (range_with_len (a + 1) n)) (omega arith) (directories_up (a + 1) n))

  all_ascend : Ascends (rank 1 0) (all_entries g image)
  unfolding all_entries
  all_ascend = directories_ascend 1 g.last_inode

  all_up : UpTo (rank (1 + g.last_inode) 0) (all_entries g image)
  unfolding all_entries
  all_up = directories_up 1 g.last_inode

-- the least rank of the entries that pass a test isn't below `low`
least_from : (low : ℕ) (test : Placed → Bool) (es : List Placed) → low ≤ 18446744073709551615 → Ascends low es → low ≤ least_of (map rank_at (filter test es))
unfolding least_of
least_from low test [] small asc = small
least_from low test (e ∷ es) small asc = elim (cases_Bool (test e)) [
  | inl passes ↦
      let h = least_from low test es small (lower (rank_at e) low es asc.0 asc.1) in
      let f = ap (λ t. least_of (map rank_at (cond t (e ∷ filter test es) (filter test es)))) passes in
      let a = asc.0 in omega arith
  | inr fails ↦
      let h = least_from low test es small (lower (rank_at e) low es asc.0 asc.1) in
      let f = ap (λ t. least_of (map rank_at (cond t (e ∷ filter test es) (filter test es)))) fails in omega arith
]

-- the least rank of the entries for an i-number is the rank of its naming entry
least_naming : (i low high : ℕ) (es : List Placed) → high ≤ 18446744073709551615 → Ascends low es → UpTo high es
    → least_of (map rank_at (filter (λ e. e.inode == i) es)) ≡ rank_of (naming_entry i es)
unfolding least_of naming_entry
least_naming i low high [] small asc up = refl
least_naming i low high (e ∷ es) small asc up = elim (cases_eq e.inode i) [
  | inl same ↦
      let yes-test : (e.inode == i) ≡ true = eq-eqb e.inode i same in
      let top : rank_at e ≤ 18446744073709551615 = omega (arith, up.0, small) in
      let h = least_from (rank_at e) (λ e. e.inode == i) es top asc.1 in
      let f = ap (λ t. least_of (map rank_at (cond t (e ∷ filter (λ (e : Placed). e.inode == i) es) (filter (λ (e : Placed). e.inode == i) es)))) yes-test in
      let n = ap (λ t. rank_of (if t then Some e else naming_entry i es)) yes-test in
      omega arith
  | inr other ↦
      let no-test : (e.inode == i) ≡ false = ne_eqb e.inode i other in
      let h = least_naming i (rank_at e) high es small asc.1 up.1 in
      let f = ap (λ t. least_of (map rank_at (cond t (e ∷ filter (λ (e : Placed). e.inode == i) es) (filter (λ (e : Placed). e.inode == i) es)))) no-test in
      let n = ap (λ t. rank_of (if t then Some e else naming_entry i es)) no-test in
      f ∙ (h ∙ sym n)
]

module _ (g : Geometry) (image : List ℕ) (fits : Fits g image) (shape : TableShape) (v : SeatView) (words : List ℕ) (pieces : ℕ) (starts : List ℕ)
    (has : HasNameWords g shape) (summed : IsSummed shape v words) (count : shape.pieces ≡ pieces) (stopped : 1 ≤ late shape.pieces v.draws)
    (parts : CountsParts g pieces starts) (at : HasStarts g image starts)
    (marks : (weight : Mark → ℕ) → total weight v.marks ≡ total (slots_piece g image (slot_weight Names g weight)) v.draws)
    (entries : List Placed) (kept : (weight : Placed → ℕ) → total weight entries ≡ total (slots_piece g image (slot_kept Names weight)) v.draws) where
  drawn_late : 1 ≤ late pieces v.draws
  drawn_late = let c = ap (λ p. late p v.draws) count in omega arith

  -- the marks on the word of an i-number are the ranks of its entries
  ranks_marked : (i : ℕ) → i ≤ g.last_inode → (weight : Mark → ℕ)
      → total (on (name_word i) weight) v.marks ≡ total (λ k. weight (mark i k)) (map rank_at (filter (λ e. e.inode == i) (all_entries g image)))
  ranks_marked i last weight =
      let w = on (name_word i) weight in
      let m = marks w in
      let d = drawn_slots g image (slot_weight Names g w) (λ d s. blank_weight Names g w d s) pieces (slice_index words 0) starts v.draws summed.drawn drawn_late parts at in
      let e = below_same (λ k. directory_sum g image (slot_weight Names g w) (k + 1)) (λ k. directory_sum g image (slot_kept Names (for_inode i weight)) (k + 1)) g.last_inode
      (λ k lt. ap (in_directory (kind_at g image (k + 1)))
      (below_same (λ s. name_weight g w (k + 1) s (entry_at g image (k + 1) s)) (λ s. total (for_inode i weight) (entered (k + 1) s (entry_at g image (k + 1) s)))
      (slot_count g image (k + 1)) (λ s less. mark_in g i (k + 1) s weight (entry_at g image (k + 1) s) last))) in
      let s = sum_all g image (for_inode i weight) in
      let f = total_kept (λ (e : Placed). e.inode == i) (λ e. weight (mark i (rank_at e))) (all_entries g image) in
      let p = total_map (λ k. weight (mark i k)) rank_at (filter (λ (e : Placed). e.inode == i) (all_entries g image)) in
      m ∙ (d ∙ (e ∙ (sym s ∙ (sym f ∙ sym p))))

  pub counts_names : CountsNames g image words entries
  counts_names = record {
    wide = let e = summed.wide in let c = has.counts in let l = has.leasts in omega arith;
    ranks = λ i first last.
        let few = few_inodes g image fits in
        summed.lowest i (let c = has.counts in omega arith) (let c = has.counts in let l = has.leasts in omega arith)
        ∙ (least_is i v.marks (map rank_at (filter (λ (e : Placed). e.inode == i) (all_entries g image))) (ranks_marked i last)
        ∙ least_naming i (rank 1 0) (rank (1 + g.last_inode) 0) (all_entries g image) (omega arith) (all_ascend g image) (all_up g image));
    same = λ weight.
        let k = kept weight in
        let d = drawn_slots g image (slot_kept Names weight) (λ d s. blank_kept Names weight d s) pieces (slice_index words 0) starts v.draws summed.drawn drawn_late parts at in
        let s = sum_all g image weight in
        sym (total_by weight entries) ∙ (k ∙ (d ∙ (sym s ∙ total_by weight (all_entries g image))));
  }
