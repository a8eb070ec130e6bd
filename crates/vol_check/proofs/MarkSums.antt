-- The sums of the marks of all pieces, word by word.
use Rattle.std.proofs.Common.{◌≡◌, ◌≢◌, ℕ, zero, suc, ◌+◌, ◌-◌, ◌*◌, ◌<◌, ◌≤◌, ◌∙◌, ◌==◌, sym, ap, cond, if◌then◌else◌, List, [], ◌∷◌, length, filter, Bool, true, false, not, ◌&&◌, nat_lt, refl, inl, inr, arith}
use Rattle.std.proofs.Math.Nat.{le_trans, mul-le-mul_right}
use Rattle.std.proofs.lemmas.Bool.{cases_eq, eq-eqb, ne_eqb, and_parts}
use Rattle.std.specs.List.{count_by, list_all, list_any}
use Rattle.pdp_words.specs.Words.{word}
use Rattle.vol_layout.specs.Edition.{constants, number}
use Rattle.vol_layout.specs.Super.{free_head}
use Rattle.vol_layout.specs.declared.edition.Edition.{Edition}
use Rattle.vol_layout.specs.declared.edition.Edition.TheVariants.{V6, V7}
use Rattle.vol_layout.specs.Geometry.{in_zone, Fits}
use Rattle.vol_layout.specs.BlockPointers.{form_at, pointer_in}
use Rattle.vol_layout.specs.BlockMaps.{first_count, levels}
use Rattle.vol_layout.specs.declared.block_map.BlockMap.{BlockMap}
use Rattle.vol_layout.specs.declared.block_map.BlockMap.TheVariants.{Small, Large, Deep, Bare}
use Rattle.vol_layout.specs.declared.geometry.Geometry.{Geometry}
use Rattle.vol_layout.specs.declared.mode.Kind.{Kind}
use Rattle.vol_layout.specs.declared.mode.Kind.TheVariants as kinds
use Rattle.vol_layout.proofs.BodyLaws.{zone_bounds}
use Rattle.vol_file.specs.Rules.{kind_at}
use Rattle.vol_file.specs.Changes.{blocks_of}
use Rattle.vol_judge.specs.Marks.{blocks_from}
use Rattle.vol_judge.proofs.FileBlocks.{address_blocks}
use Rattle.count_table.specs.declared.rule.Mark.{Mark}
use Rattle.count_table.specs.Sums.{total, below, amount_at, least_at, sum_at}
use Rattle.count_table.specs.Views.{mark}
use Rattle.count_table.proofs.Totals.{total_cons, total_nil, total_ones}
use Rattle.vol_reports.specs.Words.{zone_len, place_word, free_word, bad_word, kind_word, least_word}
use Rattle.vol_free.specs.FreeWalk.{Walked, walk_rest, free_walk}
use Rattle.vol_check.specs.Pieces.{place_weight, kind_weight, inode_weight, free_weight}
use Rattle.vol_reports.specs.Icheck.{least_of, is_kind, use_count, met_count, bad_numbers, kind_count}
use Rattle.vol_check.proofs.Sums.{below_same, below_zero}
use Rattle.vol_check.proofs.Weights.{weigh_file, weigh_zero, weigh_leaf, weigh_block, entry_weight}
use Rattle.vol_check.proofs.Drawn.{total_by, total_same, over_inodes, below_at_most, below_alone}
use Rattle.vol_check.proofs.BlockWords.{on, on_here, on_else, place_at, place_past, place_bad, place_least, kind_else, free_else, total_kept, least_is}

-- a property of a value chosen by a test holds if it holds in both cases
pub either_way : {A : Type 0} (P : A → Type 0) (t : Bool) (a b : A) → P a → (t ≡ false → P b) → P (if t then a else b)
either_way P true a b yes-case no-case = yes-case
either_way P false a b yes-case no-case = no-case refl

and_both : (x y : Bool) → x ≡ true → y ≡ true → (x && y) ≡ true
and_both true y first second = second
and_both false y first second = first

not_false : (x : Bool) → not x ≡ false → x ≡ true
not_false true same = refl
not_false false same = sym same

-- the walk over the free list passes only data blocks
walk_zone : (g : Geometry) (image : List ℕ) (fuel head count : ℕ) (met : List ℕ) → list_all (in_zone g) met ≡ true
    → list_all (in_zone g) (walk_rest g image fuel head count met).met ≡ true
unfolding walk_rest
walk_zone g image zero head count met all = all
walk_zone g image (suc fuel) head count met all =
    let b = number g.edition image (head + 2) (count - 1) in
    let P : Walked → Type 0 = λ w. list_all (in_zone g) w.met ≡ true in
    either_way P (count == 0) _ _ all (λ _.
    either_way P (nat_lt (constants g.edition).free_slots count) _ _ all (λ _.
    either_way P ((count == 1) && (b == 0)) _ _ all (λ _.
    either_way P (not (in_zone g b)) _ _ all (λ inside.
    let more : list_all (in_zone g) (b ∷ met) ≡ true = and_both (in_zone g b) (list_all (in_zone g) met) (not_false (in_zone g b) inside) all in
    either_way P (list_any (λ k. k == b) met) _ _ all (λ _.
    either_way P (count == 1) _ _ (walk_zone g image fuel (512 * b) (word image (512 * b)) (b ∷ met) more)
    (λ _. walk_zone g image fuel head (count - 1) (b ∷ met) more))))))

pub free_zone : (g : Geometry) (image : List ℕ) → list_all (in_zone g) (free_walk g image).met ≡ true
free_zone g image = walk_zone g image (g.zone_end - g.zone_start + 1) (free_head g.edition) (word image (free_head g.edition)) [] refl

-- the greatest number of numbers at and below a block number with `d` levels
abbrev most_from : (d : ℕ) → ℕ
most_from zero = 1
most_from (suc d) = 1 + 256 * most_from d

few_pointers : (edition : Edition) → (constants edition).pointers ≤ 256
few_pointers V6 = omega arith
few_pointers V7 = omega arith

from_at_most : (g : Geometry) (image : List ℕ) (d b : ℕ) → total (λ k. 1) (blocks_from g image d b) ≤ most_from d
from_at_most g image zero b = elim (cases_eq b 0) [
  | inl none ↦ let z = weigh_zero g image (λ k. 1) 0 b none in omega arith
  | inr some ↦ let l = weigh_leaf g image (λ k. 1) 0 b some refl in omega arith
]
from_at_most g image (suc d) b = elim (cases_eq b 0) [
  | inl none ↦ let z = weigh_zero g image (λ k. 1) (suc d) b none in omega arith
  | inr some ↦
      let w = weigh_block g image (λ k. 1) (suc d) b some (omega arith) in
      let less : suc d - 1 ≡ d = omega arith in
      let n = (constants g.edition).pointers in
      let m = below_at_most (entry_weight g image (λ k. 1) (suc d) b) (most_from d) n
      (λ j lt. let h = from_at_most g image d (pointer_in g image b j) in
      let e = ap (λ x. total (λ k. 1) (blocks_from g image x (pointer_in g image b j))) less in omega arith) in
      let p = mul-le-mul_right (most_from d) (few_pointers g.edition) in omega (arith, w, m, p)
]

most_grows : (n : ℕ) → n ≤ 3 → most_from n ≤ 16843009
most_grows zero le = omega arith
most_grows (suc zero) le = omega arith
most_grows (suc (suc zero)) le = omega arith
most_grows (suc (suc (suc zero))) le = omega arith
most_grows (suc (suc (suc (suc n)))) le = absurd (omega arith)

few_levels : (form : BlockMap) (k : ℕ) → k < first_count form → levels form k ≤ 3
few_levels Small k lt = omega arith
few_levels Large k lt = grind arith
few_levels Deep k lt = omega arith
few_levels Bare k lt = omega arith

few_firsts : (form : BlockMap) → first_count form ≤ 13
few_firsts Small = omega arith
few_firsts Large = omega arith
few_firsts Deep = omega arith
few_firsts Bare = omega arith

-- the block map of a file has at most 2^28 numbers
pub few_blocks : (g : Geometry) (image : List ℕ) (i : ℕ) → Fits g image → 1 ≤ i → i ≤ g.last_inode → length (blocks_of g image i) ≤ 268435456
few_blocks g image i fits first last =
    let form = form_at g image i in
    let w = weigh_file g image (λ k. 1) i fits first last in
    let m = below_at_most (λ k. total (λ x. 1) (address_blocks g image i k)) 16843009 (first_count form)
    (λ k lt. le_trans (from_at_most g image (levels form k) _) (most_grows (levels form k) (few_levels form k lt))) in
    let f = few_firsts form in
    let o = total_ones (blocks_of g image i) in omega arith

-- a sum of zeros is 0
total_zero : {A : Type 0} (xs : List A) → total (λ x. 0) xs ≡ 0
total_zero [] = total_nil (λ x. 0)
total_zero (x ∷ xs) = let h = total_zero xs in let t = total_cons (λ x. 0) x xs in omega arith

-- the marks of the free list on the word of block `b` are the number of times that the walk passed `b`
free_same : (g : Geometry) (b : ℕ) (met : List ℕ) → in_zone g b ≡ true → list_all (in_zone g) met ≡ true
    → total (λ k. amount_at (free_word g b) (mark (free_word g k) 1)) met ≡ total (λ k. if k == b then 1 else 0) met
free_same g b [] zone all = total_nil (λ k. amount_at (free_word g b) (mark (free_word g k) 1)) ∙ sym (total_nil (λ k. if k == b then 1 else 0))
free_same g b (k ∷ met) zone all =
    let parts = and_parts (in_zone g k) (list_all (in_zone g) met) all in
    let h = free_same g b met zone parts.1 in
    let at = zone_bounds g k parts.0 in
    let low = zone_bounds g b zone in
    let t = total_cons (λ k. amount_at (free_word g b) (mark (free_word g k) 1)) k met in
    let u = total_cons (λ k. if k == b then 1 else 0) k met in
    let e : amount_at (free_word g b) (mark (free_word g k) 1) ≡ (if k == b then 1 else 0) = elim (cases_eq k b) [
      | inl same ↦ on_here (λ m. m.amount) (free_word g k) (free_word g b) 1 (ap (free_word g) same) ∙ sym (ap (λ t. if t then 1 else 0) (eq-eqb k b same))
      | inr other ↦ on_else (λ m. m.amount) (free_word g k) (free_word g b) 1 (λ q. other (omega (arith, at, low, q)))
          ∙ sym (ap (λ t. if t then 1 else 0) (ne_eqb k b other))
    ] in omega (arith, h, t, u, e)

-- under each weight, the sum of all marks is the sum over the free list and all i-nodes
pub record AllMarked (g : Geometry) (image : List ℕ) (marks : List Mark) : Type 0 where
  pub weighs : (weight : Mark → ℕ) → total weight marks ≡ free_weight g image weight + below (λ k. inode_weight g image weight (k + 1)) g.last_inode

module _ (g : Geometry) where
  kind_one : (c d : ℕ) → c ≡ d → amount_at (kind_word g c) (mark (kind_word g d) 1) ≡ 1
  kind_one c d same = on_here (λ m. m.amount) (kind_word g d) (kind_word g c) 1 (ap (kind_word g) (sym same))

  kind_none : (c d : ℕ) → c ≢ d → amount_at (kind_word g c) (mark (kind_word g d) 1) ≡ 0
  kind_none c d other = on_else (λ m. m.amount) (kind_word g d) (kind_word g c) 1 (λ e. other (omega (arith, e)))

  -- the mark of an i-node's kind adds 1 to the word of regular files if it is a regular file
  files_kind : (kind : Kind) → kind_weight g (amount_at (kind_word g 0)) kind ≡ cond (is_kind kinds.Regular kind) 1 0
  files_kind kinds.Free = refl
  files_kind kinds.Regular = kind_one 0 0 refl
  files_kind kinds.Directory = kind_none 0 1 (λ e. omega (arith, e))
  files_kind kinds.Special = kind_none 0 2 (λ e. omega (arith, e))
  files_kind kinds.Odd = kind_none 0 3 (λ e. omega (arith, e))

  directories_kind : (kind : Kind) → kind_weight g (amount_at (kind_word g 1)) kind ≡ cond (is_kind kinds.Directory kind) 1 0
  directories_kind kinds.Free = refl
  directories_kind kinds.Regular = kind_none 1 0 (λ e. omega (arith, e))
  directories_kind kinds.Directory = kind_one 1 1 refl
  directories_kind kinds.Special = kind_none 1 2 (λ e. omega (arith, e))
  directories_kind kinds.Odd = kind_none 1 3 (λ e. omega (arith, e))

  specials_kind : (kind : Kind) → kind_weight g (amount_at (kind_word g 2)) kind ≡ cond (is_kind kinds.Special kind) 1 0
  specials_kind kinds.Free = refl
  specials_kind kinds.Regular = kind_none 2 0 (λ e. omega (arith, e))
  specials_kind kinds.Directory = kind_none 2 1 (λ e. omega (arith, e))
  specials_kind kinds.Special = kind_one 2 2 refl
  specials_kind kinds.Odd = kind_none 2 3 (λ e. omega (arith, e))

  odds_kind : (kind : Kind) → kind_weight g (amount_at (kind_word g 3)) kind ≡ cond (is_kind kinds.Odd kind) 1 0
  odds_kind kinds.Free = refl
  odds_kind kinds.Regular = kind_none 3 0 (λ e. omega (arith, e))
  odds_kind kinds.Directory = kind_none 3 1 (λ e. omega (arith, e))
  odds_kind kinds.Special = kind_none 3 2 (λ e. omega (arith, e))
  odds_kind kinds.Odd = kind_one 3 3 refl

module _ (g : Geometry) (image : List ℕ) (marks : List Mark) (m : AllMarked g image marks) where
  -- the marks on the word of data block `b` are the number of block-map positions that point to `b`
  pub places_summed : (b : ℕ) → in_zone g b ≡ true
      → sum_at (place_word g b) marks ≡ use_count g image b
  unfolding use_count
  places_summed b zone = let low = zone_bounds g b zone in
      let w = place_word g b in
      let f = free_else g (λ m. m.amount) w (free_walk g image).met (λ k at e. omega (arith, low, e)) (free_zone g image) in
      let each : (i : ℕ) → inode_weight g image (amount_at w) i ≡ count_by (λ k. k == b) (blocks_of g image i) =
      λ i.
      let p = total_same (place_weight g (amount_at w) i) (λ k. if k == b then 1 else 0) (blocks_of g image i) (λ k. place_at g (λ m. m.amount) b i k zone)
      ∙ total_by (λ k. if k == b then 1 else 0) (blocks_of g image i) in
      let n = kind_else g (λ m. m.amount) w (kind_at g image i) (λ c few e. omega (arith, low, e)) in omega (arith, p, n) in
      let s = m.weighs (amount_at w) in
      let e = below_same (λ k. inode_weight g image (amount_at w) (k + 1)) (λ k. count_by (λ x. x == b) (blocks_of g image (k + 1))) g.last_inode (λ k lt. each (k + 1)) in
      let o = over_inodes (λ i. count_by (λ k. k == b) (blocks_of g image i)) g.last_inode in
      omega (arith, f, s, e, o)

  -- the marks on the free-list word of data block `b` are the number of times that the free list has `b`
  pub frees_summed : (b : ℕ) → in_zone g b ≡ true → sum_at (free_word g b) marks ≡ met_count g image b
  unfolding met_count
  frees_summed b zone = let low = zone_bounds g b zone in
      let w = free_word g b in
      let f = free_same g b (free_walk g image).met zone (free_zone g image) ∙ total_by (λ k. if k == b then 1 else 0) (free_walk g image).met in
      let s = m.weighs (amount_at w) in
      let e = below_zero (λ k. inode_weight g image (amount_at w) (k + 1)) g.last_inode (λ k lt.
      let p = total_same (place_weight g (amount_at w) (k + 1)) (λ x. 0) (blocks_of g image (k + 1))
      (λ x. place_past g (λ m. m.amount) w (k + 1) x (omega (arith, low)) (λ q. omega (arith, low, q)) (λ q. omega (arith, low, q))) in
      let z = total_zero (blocks_of g image (k + 1)) in
      let n = kind_else g (λ m. m.amount) w (kind_at g image (k + 1)) (λ c few q. omega (arith, low, q)) in omega (arith, p, z, n)) in
      omega (arith, f, s, e)

  -- the marks on the word of a kind are the number of i-nodes of this kind
  kinds_summed : (c : ℕ) (kind : Kind) → c ≤ 3 → ((other : Kind) → kind_weight g (amount_at (kind_word g c)) other ≡ cond (is_kind kind other) 1 0)
      → sum_at (kind_word g c) marks ≡ kind_count g image kind
  unfolding kind_count
  kinds_summed c kind few is =
      let w = kind_word g c in
      let f = free_else g (λ m. m.amount) w (free_walk g image).met (λ k at e. let low = zone_bounds g k at in omega (arith, low, e)) (free_zone g image) in
      let s = m.weighs (amount_at w) in
      let e = below_same (λ k. inode_weight g image (amount_at w) (k + 1)) (λ k. cond (is_kind kind (kind_at g image (k + 1))) 1 0) g.last_inode (λ k lt.
      let p = total_same (place_weight g (amount_at w) (k + 1)) (λ x. 0) (blocks_of g image (k + 1))
      (λ x. place_past g (λ m. m.amount) w (k + 1) x (omega arith) (λ q. omega (arith, lt, q)) (λ q. omega (arith, few, q))) in
      let z = total_zero (blocks_of g image (k + 1)) in
      let n = is (kind_at g image (k + 1)) in omega (arith, p, z, n)) in
      let o = over_inodes (λ i. cond (is_kind kind (kind_at g image i)) 1 0) g.last_inode in
      omega (arith, f, s, e, o)

  pub files_summed : sum_at (kind_word g 0) marks ≡ kind_count g image kinds.Regular
  files_summed = kinds_summed 0 kinds.Regular (omega arith) (files_kind g)

  pub directories_summed : sum_at (kind_word g 1) marks ≡ kind_count g image kinds.Directory
  directories_summed = kinds_summed 1 kinds.Directory (omega arith) (directories_kind g)

  pub specials_summed : sum_at (kind_word g 2) marks ≡ kind_count g image kinds.Special
  specials_summed = kinds_summed 2 kinds.Special (omega arith) (specials_kind g)

  pub odds_summed : sum_at (kind_word g 3) marks ≡ kind_count g image kinds.Odd
  odds_summed = kinds_summed 3 kinds.Odd (omega arith) (odds_kind g)

  -- the marks on one of the two words of i-node `i` are those of its block-map positions with numbers outside the data blocks
  bads_alone : (f : Mark → ℕ) (w i : ℕ) (each : ℕ → ℕ) → 1 ≤ i → i ≤ g.last_inode → 1 + 2 * zone_len g ≤ w → ((c : ℕ) → c ≤ 3 → kind_word g c ≢ w)
      → ((j : ℕ) → 1 ≤ j → j ≤ g.last_inode → j ≢ i → (w ≢ bad_word g j) × (w ≢ least_word g j))
      → ((k : ℕ) → place_weight g (on w f) i k ≡ (if not (in_zone g k) then each k else 0))
      → total (on w f) marks ≡ total each (filter (λ k. not (in_zone g k)) (blocks_of g image i))
  bads_alone f w i each first last past kinds others own =
      let none = free_else g f w (free_walk g image).met (λ k at e. let low = zone_bounds g k at in omega (arith, low, past, e)) (free_zone g image) in
      let s = m.weighs (on w f) in
      let back : (i - 1) + 1 ≡ i = omega arith in
      let alone = below_alone (λ k. inode_weight g image (on w f) (k + 1)) (i - 1) g.last_inode (omega arith)
      (λ k lt ne.
      let apart = others (k + 1) (omega arith) (omega arith) (λ q. ne (omega (arith, q))) in
      let p = total_same (place_weight g (on w f) (k + 1)) (λ x. 0) (blocks_of g image (k + 1))
      (λ x. place_past g f w (k + 1) x (omega arith) apart.0 apart.1) in
      let z = total_zero (blocks_of g image (k + 1)) in
      let n = kind_else g f w (kind_at g image (k + 1)) kinds in omega (arith, p, z, n)) in
      let here = ap (inode_weight g image (on w f)) back in
      let p = total_same (place_weight g (on w f) i) (λ k. if not (in_zone g k) then each k else 0) (blocks_of g image i) own in
      let q = total_kept (λ k. not (in_zone g k)) each (blocks_of g image i) in
      let n = kind_else g f w (kind_at g image i) kinds in omega (arith, none, s, alone, here, p, q, n)

  -- the marks on the count word of i-node `i` are the number of its bad block addresses
  pub bads_summed : (i : ℕ) → 1 ≤ i → i ≤ g.last_inode
      → sum_at (bad_word g i) marks ≡ length (bad_numbers g image i)
  unfolding bad_numbers
  bads_summed i first last =
      bads_alone (λ m. m.amount) (bad_word g i) i (λ k. 1) first last (omega arith) (λ c few e. omega (arith, last, e))
      (λ j low high ne. ((λ e. ne (omega (arith, low, first, e))), (λ e. omega (arith, low, last, e))))
      (λ k. place_bad g (λ m. m.amount) i k first last)
      ∙ total_ones (filter (λ k. not (in_zone g k)) (blocks_of g image i))

  -- the least mark on the minimum word of i-node `i` is the least of its bad block addresses
  pub leasts_found : (i : ℕ) → 1 ≤ i → i ≤ g.last_inode
      → least_at (least_word g i) marks ≡ least_of (bad_numbers g image i)
  unfolding bad_numbers
  leasts_found i first last =
      least_is (least_word g i) marks (filter (λ k. not (in_zone g k)) (blocks_of g image i))
      (λ weight. bads_alone weight (least_word g i) i (λ k. weight (mark (least_word g i) k)) first last (omega arith) (λ c few e. omega (arith, few, e))
      (λ j low high ne. ((λ e. omega (arith, low, high, e)), (λ e. ne (omega (arith, low, first, e)))))
      (λ k. place_least g weight i k first last))
