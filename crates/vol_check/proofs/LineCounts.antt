-- Laws of the number of lines of a name report.
use Rattle.std.proofs.Common.{◌≡◌, ◌≢◌, ℕ, zero, suc, ◌+◌, ◌-◌, ◌≤◌, ◌∙◌, sym, ap, if◌then◌else◌, List, [], ◌∷◌, map, length, Option, None, Some, Bool, true, false, Ok, subst, arith}
use Rattle.std.proofs.lemmas.List.{length-map}
use Rattle.vol_layout.specs.Geometry.{geometry_read}
use Rattle.vol_layout.specs.declared.edition.Edition.{Edition}
use Rattle.vol_layout.specs.declared.geometry.Geometry.{Geometry}
use Rattle.vol_layout.specs.declared.mode.Kind.TheVariants as kinds
use Rattle.vol_file.specs.Rules.{kind_at}
use Rattle.vol_dir.specs.Entries.{entry_at, slot_count}
use Rattle.vol_dir.specs.Names.{is_dots}
use Rattle.count_table.specs.Sums.{total, below}
use Rattle.count_table.proofs.Totals.{total_nil, total_cons, below_more}
use Rattle.vol_reports.specs.Placed.{Placed, placed}
use Rattle.vol_reports.specs.Ncheck.{entered, entries_in, all_entries, naming_entry, named_path, named_paths, name_line, IsNameLines}
use Rattle.vol_reports.specs.Reports.{IsNameReportOf}
use Rattle.vol_reports.specs.declared.line.Line.{Line}
use Rattle.vol_check.specs.LineCounts.{HasLines, named_one, name_count}
use Rattle.vol_check.specs.Slots.{in_directory}
use Rattle.vol_check.proofs.Sums.{below_same}
use Rattle.vol_check.proofs.Drawn.{total_by, below_at_most}
use Rattle.vol_check.proofs.DirectorySums.{directory_sum, none_in}
use Rattle.vol_check.proofs.NamesReported.{sum_in, sum_all}
use Rattle.vol_check.specs.Slots.{slot_kept}
use Rattle.vol_check.specs.declared.checker.Checker.TheVariants.{Names}

-- each element counts as 1
abbrev one : {A : Type 0} → A → ℕ
one x = 1

-- the sum of ones over a list is its length
total_ones : {A : Type 0} (xs : List A) → total one xs ≡ length xs
total_ones [] = total_nil one
total_ones (x ∷ xs) = let h = total_ones xs in let t = total_cons one x xs in omega arith

-- a slot has as many entries with a line as it counts
slot_names : (d s : ℕ) (slot : Option (List ℕ × ℕ)) → total one (entered d s slot) ≡ named_one slot
slot_names d s None = total_nil one
slot_names d s (Some entry) = names (is_dots entry.0)
  where
    names : (t : Bool) → total {A = Placed} one (if t then [] else placed d s entry.1 entry.0 ∷ []) ≡ (if t then 0 else 1)
    names true = total_nil one
    names false = total_ones (placed d s entry.1 entry.0 ∷ [])

module _ (g : Geometry) (image : List ℕ) where
  -- the number of names in an i-number, by its kind
  names_by : (d : ℕ) → name_count g image d ≡ in_directory (kind_at g image d) (below (λ s. named_one (entry_at g image d s)) (slot_count g image d))
  names_by d =
      sym (total_ones (entries_in g image d (kind_at g image d)))
      ∙ (sum_in g image one d (kind_at g image d)
      ∙ ap (in_directory (kind_at g image d)) (below_same (λ s. total one (entered d s (entry_at g image d s))) (λ s. named_one (entry_at g image d s)) (slot_count g image d)
      (λ s lt. slot_names d s (entry_at g image d s))))

  -- the names of a directory are in its slots
  pub directory_names : (d : ℕ) → kind_at g image d ≡ kinds.Directory
      → name_count g image d ≡ below (λ s. named_one (entry_at g image d s)) (slot_count g image d)
  directory_names d is = names_by d ∙ ap (λ k. in_directory k (below (λ s. named_one (entry_at g image d s)) (slot_count g image d))) is

  -- an i-number of another kind has no names
  pub no_names : (d : ℕ) → kind_at g image d ≢ kinds.Directory → name_count g image d ≡ 0
  no_names d other = names_by d ∙ none_in (kind_at g image d) (below (λ s. named_one (entry_at g image d s)) (slot_count g image d)) other

  -- all entries are those of all i-numbers
  pub all_names : length (all_entries g image) ≡ below (λ k. name_count g image (k + 1)) g.last_inode
  all_names =
      sym (total_ones (all_entries g image))
      ∙ (sum_all g image one
      ∙ below_same (λ k. directory_sum g image (slot_kept Names one) (k + 1)) (λ k. name_count g image (k + 1)) g.last_inode
      (λ k lt. sym (sym (total_ones (entries_in g image (k + 1) (kind_at g image (k + 1)))) ∙ sum_in g image one (k + 1) (kind_at g image (k + 1)))))

  -- a name report has a line for each entry
  pub report_lines : (report : List Line) → IsNameLines g image report → length report ≡ length (all_entries g image)
  unfolding named_paths
  report_lines report is =
      let pairs = is.pairs in
      ap length is.lines
      ∙ (length-map pairs name_line
      ∙ (sym (total_ones pairs) ∙ (total_by one pairs
      ∙ (is.same one
      ∙ (sym (total_by one (named_paths g image)) ∙ (total_ones (named_paths g image)
      ∙ length-map (all_entries g image) (named_path g (λ i. naming_entry i (all_entries g image)))))))))

-- a slot has at most one name
pub few_in : (slot : Option (List ℕ × ℕ)) → named_one slot ≤ 1
few_in None = omega arith
few_in (Some entry) = few (is_dots entry.0)
  where
    few : (t : Bool) → (if t then 0 else 1) ≤ 1
    few true = omega arith
    few false = omega arith

-- the number of names in some slots is at most their number
pub few_names : (slot : ℕ → Option (List ℕ × ℕ)) (n : ℕ) → below (λ s. named_one (slot s)) n ≤ n
few_names slot n = let h = below_at_most (λ s. named_one (slot s)) 1 n (λ s lt. few_in (slot s)) in omega arith

-- a sum over more numbers isn't less
pub below_rises : (f : ℕ → ℕ) (n more : ℕ) → below f n ≤ below f (n + more)
below_rises f n zero = let e = ap (below f) (zero_more n) in omega arith
  where
    zero_more : (n : ℕ) → n + 0 ≡ n
    zero_more n = omega arith
below_rises f n (suc more) =
    let s : n + suc more ≡ n + more + 1 = omega arith in
    let e = ap (below f) s in
    let h = below_rises f n more in
    let b = below_more f (n + more) in omega arith

-- the names of the first i-numbers are at most the lines of the report
pub has_lines : (edition : Edition) (g : Geometry) (image : List ℕ) (n : ℕ) → geometry_read edition image ≡ Ok g → n ≤ g.last_inode
    → HasLines edition image (below (λ k. name_count g image (k + 1)) n)
has_lines edition g image n read le report is =
    let lines = report_lines g image report (subst (λ r. IsNameReportOf r image report) read is) in
    let all = all_names g image in
    let split : n + (g.last_inode - n) ≡ g.last_inode = omega arith in
    let rises = below_rises (λ k. name_count g image (k + 1)) n (g.last_inode - n) in
    let e = ap (below (λ k. name_count g image (k + 1))) split in
    omega arith
