-- The numbers of blocks of files and of free blocks as shapes change.
use Rattle.std.proofs.Common.{◌≡◌, ◌≢◌, ◌∙◌, sym, ap, refl, ℕ, zero, suc, ◌+◌, ◌-◌, ◌<◌, ◌≤◌, ◌==◌, ◌&&◌, Bool, true, false, not, cond, if◌then◌else◌, nat_lt, List, [], ◌∷◌, arith, inl, inr}
use Rattle.std.specs.Prelude.{◌||◌}
use Rattle.std.specs.List.{count_by, sum_by, flat_map, range_with_len}
use Rattle.std.proofs.lemmas.Bool.{cases_Bool, cases_eq, and_parts, leb-true}
use Rattle.std.proofs.lemmas.Bool.Decides.{nat_tests}
use Rattle.std.proofs.lemmas.List.Sums.{sum_by-cons}
use Rattle.vol_layout.specs.Inode.{kind_of}
use Rattle.vol_layout.specs.Laws.{IsFront}
use Rattle.vol_layout.specs.BlockPointers.{mode_of}
use Rattle.vol_layout.specs.BlockMaps.{levels, last_place, places_from, places}
use Rattle.vol_layout.specs.declared.edition.Edition.{Edition}
use Rattle.vol_layout.specs.declared.edition.Edition.TheVariants.{V6, V7}
use Rattle.vol_layout.specs.declared.geometry.Geometry.{Geometry}
use Rattle.vol_layout.specs.declared.block_map.BlockMap.{BlockMap}
use Rattle.vol_layout.specs.declared.block_map.BlockMap.TheVariants.{Small, Large, Deep, Bare}
use Rattle.vol_file.specs.Laws.{IsAmong}
use Rattle.vol_file.specs.MissingBlocks.{missing_from}
use Rattle.vol_file.specs.Need.{missing_count, need_of}
use Rattle.vol_file.specs.Shape.{is_on_ways, grows_large, moved_down, fit_form, fit_names, filled}
use Rattle.vol_file.proofs.MissingLaws.{need_some}
use Rattle.vol_file.proofs.PlaceLists.{counted_flat, count_none, count_among, from_front, sum_none}
use Rattle.vol_dir.specs.Tree.{Shape, no_shape, form_in, place_count, free_count, is_number, shape_of, shapes}
use Rattle.vol_judge.proofs.GraphCounts.{sum_but, sum_same}
use Rattle.vol_change.specs.Edits.{set_at}
use Rattle.vol_change.specs.Shapes.{need_in, stored_shape, entry_blocks, shape_with_entry, shape_without_entry, new_directory_shape}
use Rattle.vol_change.specs.Whole.{Rules3To8}
use Rattle.vol_change.proofs.FreeCounts.{used_within}

-- an item in front adds 1 to the count of a list if it passes the test
one_more : (t : List ℕ → Bool) (p : List ℕ) (ps : List (List ℕ)) → count_by t (p ∷ ps) ≡ cond (t p) 1 0 + count_by t ps
one_more t p ps = sum_by-cons (λ q. cond (t q) 1 0) p ps

-- an item that passes either of two tests passes the first, or only the second
either_one : (x y : Bool) → ◌≡◌ {A = ℕ} (cond (x || y) 1 0) (cond x 1 0 + cond (y && not x) 1 0)
either_one true true = refl
either_one true false = refl
either_one false true = refl
either_one false false = refl

-- the number of items that pass either of two tests is the number that pass the first plus the number that pass only the second
count_either : (s t : List ℕ → Bool) (ps : List (List ℕ)) → count_by (λ p. s p || t p) ps ≡ count_by s ps + count_by (λ p. t p && not (s p)) ps
count_either s t [] = refl
count_either s t (p ∷ ps) =
    let rest : count_by (λ q. s q || t q) ps ≡ count_by s ps + count_by (λ q. t q && not (s q)) ps = count_either s t ps in
    let all : count_by (λ q. s q || t q) (p ∷ ps) ≡ cond (s p || t p) 1 0 + count_by (λ q. s q || t q) ps = one_more (λ q. s q || t q) p ps in
    let first : count_by s (p ∷ ps) ≡ cond (s p) 1 0 + count_by s ps = one_more s p ps in
    let second : count_by (λ q. t q && not (s q)) (p ∷ ps) ≡ cond (t p && not (s p)) 1 0 + count_by (λ q. t q && not (s q)) ps =
    one_more (λ q. t q && not (s q)) p ps in
    let here : ◌≡◌ {A = ℕ} (cond (s p || t p) 1 0) (cond (s p) 1 0 + cond (t p && not (s p)) 1 0) = either_one (s p) (t p) in
    omega (arith, rest, all, first, second, here)

-- a sum over a range is the sum over its first part and the sum over the rest
pub sum_split : (f : ℕ → ℕ) (a m n : ℕ)
    → sum_by f (range_with_len a (m + n)) ≡ sum_by f (range_with_len a m) + sum_by f (range_with_len (a + m) n)
sum_split f a zero n =
    let len : 0 + n ≡ n = omega arith in
    let from : a ≡ a + 0 = omega arith in
    let same : sum_by f (range_with_len a (0 + n)) ≡ sum_by f (range_with_len (a + 0) n) =
    ap (λ x. sum_by f (range_with_len a x)) len ∙ ap (λ x. sum_by f (range_with_len x n)) from in
    omega (arith, same)
sum_split f a (suc m) n =
    let len : suc m + n ≡ suc (m + n) = omega arith in
    let from : a + 1 + m ≡ a + suc m = omega arith in
    let rest : sum_by f (range_with_len (a + 1) (m + n)) ≡ sum_by f (range_with_len (a + 1) m) + sum_by f (range_with_len (a + suc m) n) =
    sum_split f (a + 1) m n ∙ ap (λ x. sum_by f (range_with_len (a + 1) m) + sum_by f (range_with_len x n)) from in
    let all : sum_by f (range_with_len a (suc (m + n))) ≡ f a + sum_by f (range_with_len (a + 1) (m + n)) = sum_by-cons f a (range_with_len (a + 1) (m + n)) in
    let front : sum_by f (range_with_len a (suc m)) ≡ f a + sum_by f (range_with_len (a + 1) m) = sum_by-cons f a (range_with_len (a + 1) m) in
    ap (λ x. sum_by f (range_with_len a x)) len ∙ omega (arith, rest, all, front)

-- the count of a list with one item is 1 if the item passes the test, else 0
count_one : (t : List ℕ → Bool) (p : List ℕ) → count_by t (p ∷ []) ≡ cond (t p) 1 0
count_one t p = one_more t p [] ∙ omega arith

-- the count of a list with one position for each number of a range is a sum over the range
count_each : (t : List ℕ → Bool) (f : ℕ → List ℕ) (a n : ℕ)
    → count_by t (flat_map (λ k. f k ∷ []) (range_with_len a n)) ≡ sum_by (λ k. cond (t (f k)) 1 0) (range_with_len a n)
count_each t f a n =
    counted_flat t (λ k. f k ∷ []) (range_with_len a n)
    ∙ sum_same (λ k. count_by t (f k ∷ [])) (λ k. cond (t (f k)) 1 0) a n (λ k low high. count_one t (f k))

-- the count over the positions of a small file is a sum over its eight addresses
count_small : (names : List ℕ → Bool) → count_by names (places Small) ≡ sum_by (λ k. cond (names (k ∷ [])) 1 0) (range_with_len 0 8)
unfolding places
count_small names = count_each names (λ k. k ∷ []) 0 8

-- the entry k of the block that holds the eight old addresses is old address k
moved_low : (names : List ℕ → Bool) (k : ℕ) → k < 8 → moved_down names (k ∷ (0 ∷ [])) ≡ names (k ∷ [])
moved_low names k h = let low : nat_lt k 8 ≡ true = grind (arith, nat_tests) in ap (λ t. t && names (k ∷ [])) low

moved_high : (names : List ℕ → Bool) (k : ℕ) → 8 ≤ k → moved_down names (k ∷ (0 ∷ [])) ≡ false
moved_high names k h = let high : nat_lt k 8 ≡ false = grind (arith, nat_tests) in ap (λ t. t && names (k ∷ [])) high

-- the first eight entries of that block are the old addresses, and the others are 0
count_moved : (names : List ℕ → Bool) (n : ℕ)
    → sum_by (λ j. cond (moved_down names (j ∷ (0 ∷ []))) 1 0) (range_with_len 0 (8 + n)) ≡ sum_by (λ k. cond (names (k ∷ [])) 1 0) (range_with_len 0 8)
count_moved names n =
    let f : ℕ → ℕ = λ j. cond (moved_down names (j ∷ (0 ∷ []))) 1 0 in
    let low : sum_by f (range_with_len 0 8) ≡ sum_by (λ k. cond (names (k ∷ [])) 1 0) (range_with_len 0 8) =
    sum_same f (λ k. cond (names (k ∷ [])) 1 0) 0 8 (λ k from to. ap (λ t. cond t 1 0) (moved_low names k (omega arith))) in
    let high : sum_by f (range_with_len (0 + 8) n) ≡ 0 =
    sum_none f (0 + 8) n (λ k from to. ap (λ t. cond t 1 0) (moved_high names k (omega arith))) in
    sum_split f 0 8 n ∙ omega (arith, low, high)

-- below an address other than the first all addresses are 0
moved_other : (names : List ℕ → Bool) (k : ℕ) (p : List ℕ) → k ≢ 0 → IsFront (k ∷ []) p → moved_down names p ≡ false
moved_other names k [] some front = refl
moved_other names k (a ∷ []) some (inl e) =
    let same : k ≡ a = cc in let differ : (a == 0) ≡ false = grind (arith, nat_tests) in differ
moved_other names k (a ∷ []) some (inr none) = absurd none
moved_other names k (j ∷ (a ∷ [])) some (inl e) = absurd (cc)
moved_other names k (j ∷ (a ∷ [])) some (inr (inl e)) =
    let same : k ≡ a = cc in
    let differ : (a == 0) ≡ false = grind (arith, nat_tests) in
    ap (λ t. t && (nat_lt j 8 && names (j ∷ []))) differ
moved_other names k (j ∷ (a ∷ [])) some (inr (inr none)) = absurd none
moved_other names k (j ∷ (h ∷ (a ∷ p))) some front = refl

-- if no item of a list passes the test, the count is 0
count_nowhere : (t : List ℕ → Bool) (ps : List (List ℕ)) → ((p : List ℕ) → IsAmong p ps → t p ≡ false) → count_by t ps ≡ 0
count_nowhere t ps none = count_among t (λ p. false) ps none ∙ count_none (λ p. false) ps (λ p. refl)

-- the number of blocks at and below the first address of a file made large is the number of its old blocks plus 1
count_first : (names : List ℕ → Bool)
    → count_by (moved_down names) (places_from 256 (0 ∷ []) 1) ≡ 1 + sum_by (λ k. cond (names (k ∷ [])) 1 0) (range_with_len 0 8)
count_first names =
    let below : count_by (moved_down names) (flat_map (λ j. (j ∷ (0 ∷ [])) ∷ []) (range_with_len 0 256)) ≡ sum_by (λ k. cond (names (k ∷ [])) 1 0) (range_with_len 0 8) =
    count_each (moved_down names) (λ j. j ∷ (0 ∷ [])) 0 256 ∙ count_moved names 248 in
    one_more (moved_down names) (0 ∷ []) (flat_map (λ j. (j ∷ (0 ∷ [])) ∷ []) (range_with_len 0 256)) ∙ omega (arith, below)

-- a file made large has one block more than before
count_large : (names : List ℕ → Bool) → count_by (moved_down names) (places Large) ≡ count_by names (places Small) + 1
unfolding places
count_large names =
    let f : ℕ → List (List ℕ) = λ k. places_from 256 (k ∷ []) (levels Large k) in
    let t = moved_down names in
    let small : count_by names (places Small) ≡ sum_by (λ k. cond (names (k ∷ [])) 1 0) (range_with_len 0 8) = count_small names in
    let first : count_by t (f 0) ≡ 1 + sum_by (λ k. cond (names (k ∷ [])) 1 0) (range_with_len 0 8) = count_first names in
    let rest : sum_by (λ k. count_by t (f k)) (range_with_len 1 7) ≡ 0 =
    sum_none (λ k. count_by t (f k)) 1 7
    (λ k low high. count_nowhere t (f k) (λ p among. moved_other names k p (λ e. omega arith) (from_front 256 k [] (levels Large k) p among))) in
    let step : sum_by (λ k. count_by t (f k)) (range_with_len 0 8) ≡ count_by t (f 0) + sum_by (λ k. count_by t (f k)) (range_with_len 1 7) =
    sum_by-cons (λ k. count_by t (f k)) 0 (range_with_len 1 7) in
    counted_flat t f (range_with_len 0 8) ∙ omega (arith, small, first, rest, step)

-- when blocks are to be stored, a file that becomes large gets one more block first
count_fit : (form : BlockMap) (names : List ℕ → Bool) (blocks : List ℕ)
    → count_by (fit_names form names blocks) (places (fit_form form blocks)) ≡ count_by names (places form) + (if grows_large form blocks then 1 else 0)
count_fit Large names blocks = omega arith
count_fit Deep names blocks = omega arith
count_fit Bare names blocks = omega arith
count_fit Small names blocks = elim (cases_Bool (grows_large Small blocks)) [
  | inl grows ↦
      ap (λ t. count_by (if t then moved_down names else names) (places (if t then Large else Small))) grows
      ∙ (count_large names ∙ sym (ap (λ t. count_by names (places Small) + (if t then 1 else 0)) grows))
  | inr stays ↦
      ap (λ t. count_by (if t then moved_down names else names) (places (if t then Large else Small))) stays
      ∙ (omega arith ∙ sym (ap (λ t. count_by names (places Small) + (if t then 1 else 0)) stays))
]

-- after blocks are stored, a file has its old blocks and those that it needed
count_filled : (form : BlockMap) (names : List ℕ → Bool) (blocks : List ℕ)
    → count_by (filled form names blocks) (places (fit_form form blocks)) ≡ count_by names (places form) + need_of form names blocks
unfolding need_of missing_count
count_filled form names blocks =
    let fit = fit_form form blocks in
    let before = fit_names form names blocks in
    let both : count_by (filled form names blocks) (places fit)
    ≡ count_by before (places fit) + count_by (λ p. is_on_ways fit blocks p && not (before p)) (places fit) =
    count_either before (is_on_ways fit blocks) (places fit) in
    let fitted : count_by before (places fit) ≡ count_by names (places form) + (if grows_large form blocks then 1 else 0) = count_fit form names blocks in
    omega (arith, both, fitted)

-- after blocks are stored, the block map of a file is `fit_form`
form_stored : (edition : Edition) (large : Bool) (blocks : List ℕ)
    → form_in edition (large || grows_large (form_in edition large) blocks) ≡ fit_form (form_in edition large) blocks
form_stored V6 true blocks = refl
form_stored V6 false blocks = refl
form_stored V7 true blocks = refl
form_stored V7 false blocks = refl

-- storing blocks takes as many blocks as are needed
pub stored_count : (edition : Edition) (shape : Shape) (blocks : List ℕ)
    → place_count edition (stored_shape edition shape blocks) ≡ place_count edition shape + need_in edition shape blocks
unfolding place_count
stored_count edition shape blocks =
    ap (λ f. count_by (filled (form_in edition shape.large) shape.names blocks) (places f)) (form_stored edition shape.large blocks)
    ∙ count_filled (form_in edition shape.large) shape.names blocks

-- adding an entry to a directory takes the block of its slot if that is missing
pub entry_count : (edition : Edition) (shape : Shape) (name : List ℕ)
    → place_count edition (shape_with_entry edition shape name) ≡ place_count edition shape + need_in edition shape (entry_blocks shape)
unfolding place_count
entry_count edition shape name = stored_count edition shape (entry_blocks shape)

-- removing an entry from a directory takes no blocks
pub gone_count : (edition : Edition) (shape : Shape) (name : List ℕ) → place_count edition (shape_without_entry shape name) ≡ place_count edition shape
unfolding place_count
gone_count edition shape name = refl

-- storing the first logical block of an empty file needs one block
first_needed : (form : BlockMap) → form ≢ Bare → form ≢ Large → need_of form (λ p. false) (0 ∷ []) ≡ 1
unfolding missing_from last_place
first_needed Small some small = need_some Small (λ p. false) 0 1 0 (omega arith) refl
first_needed Deep some small = need_some Deep (λ p. false) 0 1 0 (omega arith) refl
first_needed Large some small = absurd (small refl)
first_needed Bare some small = absurd (some refl)

-- storing the first logical block of an empty file needs one block, in both editions
pub first_in : (edition : Edition) → need_in edition no_shape (0 ∷ []) ≡ 1
first_in V6 = first_needed Small (λ e. cc) (λ e. cc)
first_in V7 = first_needed Deep (λ e. cc) (λ e. cc)

-- an empty shape has no blocks
pub none_count : (edition : Edition) → place_count edition no_shape ≡ 0
unfolding place_count
none_count edition = count_none (λ p. false) (places (form_in edition false)) (λ p. refl)

-- a new directory has one block
pub new_directory_count : (edition : Edition) → place_count edition (new_directory_shape edition) ≡ 1
unfolding place_count
new_directory_count edition =
    let none : place_count edition no_shape ≡ 0 = none_count edition in
    let one : need_in edition no_shape (0 ∷ []) ≡ 1 = first_in edition in
    stored_count edition no_shape (0 ∷ []) ∙ omega (arith, none, one)

-- after the shape of i is set, it is the new shape
pub set_same : (shapes : ℕ → Shape) (i : ℕ) (shape : Shape) → set_at shapes i shape i ≡ shape
set_same shapes i shape = let same : (i == i) ≡ true = grind (arith, nat_tests) in ap (λ t. if t then shape else shapes i) same

pub set_other : (shapes : ℕ → Shape) (i : ℕ) (shape : Shape) (k : ℕ) → k ≢ i → set_at shapes i shape k ≡ shapes k
set_other shapes i shape k other = let differ : (k == i) ≡ false = grind (arith, nat_tests) in ap (λ t. if t then shape else shapes k) differ

-- the number of blocks of all files, computed from their shapes
abbrev pub used_count : Geometry → (ℕ → Shape) → ℕ
used_count geometry shapes = sum_by (λ i. place_count geometry.edition (shapes i)) (range_with_len 1 geometry.last_inode)

-- in a sound image the files have no more blocks than the data zone has
pub sum_within : (geometry : Geometry) (image : List ℕ) → Rules3To8 geometry image → used_count geometry (shapes geometry image) ≤ geometry.zone_end - geometry.zone_start
sum_within geometry image rules = used_within geometry image rules.blocks rules.sound

-- replacing the shape of i changes the number of blocks of all files by the difference
pub used_with : (geometry : Geometry) (shapes : ℕ → Shape) (i : ℕ) (shape : Shape) → 1 ≤ i → i ≤ geometry.last_inode
    → used_count geometry (set_at shapes i shape) + place_count geometry.edition (shapes i) ≡ used_count geometry shapes + place_count geometry.edition shape
used_with geometry shapes i shape first last =
    let e = geometry.edition in
    let now : place_count e (set_at shapes i shape i) ≡ place_count e shape = ap (place_count e) (set_same shapes i shape) in
    let change : used_count geometry (set_at shapes i shape) + place_count e (shapes i) ≡ used_count geometry shapes + place_count e (set_at shapes i shape i) =
    sum_but (λ j. place_count e (set_at shapes i shape j)) (λ j. place_count e (shapes j)) 1 geometry.last_inode i first (omega arith)
    (λ k other. ap (place_count e) (set_other shapes i shape k other)) in
    omega (arith, now, change)

-- if a file gets n more blocks, there are n fewer free blocks
pub free_less : (geometry : Geometry) (shapes : ℕ → Shape) (i : ℕ) (shape : Shape) (n : ℕ) → 1 ≤ i → i ≤ geometry.last_inode
    → place_count geometry.edition shape ≡ place_count geometry.edition (shapes i) + n
    → free_count geometry (set_at shapes i shape) ≡ free_count geometry shapes - n
unfolding free_count
free_less geometry shapes i shape n first last more =
    let used = used_with geometry shapes i shape first last in
    omega (arith, used, more)

-- if a file loses n blocks, there are n more free blocks
pub free_more : (geometry : Geometry) (shapes : ℕ → Shape) (i : ℕ) (shape : Shape) (n : ℕ) → 1 ≤ i → i ≤ geometry.last_inode
    → used_count geometry shapes ≤ geometry.zone_end - geometry.zone_start
    → place_count geometry.edition shape + n ≡ place_count geometry.edition (shapes i)
    → free_count geometry (set_at shapes i shape) ≡ free_count geometry shapes + n
unfolding free_count
free_more geometry shapes i shape n first last within less =
    let used = used_with geometry shapes i shape first last in
    omega (arith, used, within, less)

-- if a file loses all its blocks, they are added to the free blocks
pub free_all : (geometry : Geometry) (shapes : ℕ → Shape) (i : ℕ) → 1 ≤ i → i ≤ geometry.last_inode
    → used_count geometry shapes ≤ geometry.zone_end - geometry.zone_start
    → free_count geometry (set_at shapes i no_shape) ≡ free_count geometry shapes + place_count geometry.edition (shapes i)
free_all geometry shapes i first last within =
    let none : place_count geometry.edition no_shape ≡ 0 = none_count geometry.edition in
    free_more geometry shapes i no_shape (place_count geometry.edition (shapes i)) first last within (omega (arith, none))

-- if each file has the same number of blocks, so do all files together
pub used_same : (geometry : Geometry) (f g : ℕ → Shape) → ((k : ℕ) → place_count geometry.edition (f k) ≡ place_count geometry.edition (g k))
    → used_count geometry f ≡ used_count geometry g
used_same geometry f g same =
    sum_same (λ k. place_count geometry.edition (f k)) (λ k. place_count geometry.edition (g k)) 1 geometry.last_inode (λ k from to. same k)

pub free_same : (geometry : Geometry) (f g : ℕ → Shape) → ((k : ℕ) → place_count geometry.edition (f k) ≡ place_count geometry.edition (g k))
    → free_count geometry f ≡ free_count geometry g
unfolding free_count
free_same geometry f g same = ap (λ n. geometry.zone_end - geometry.zone_start - n) (used_same geometry f g same)

-- setting a shape with the same number of blocks changes no file's number of blocks
pub set_count : (edition : Edition) (shapes : ℕ → Shape) (i : ℕ) (shape : Shape) → place_count edition shape ≡ place_count edition (shapes i) → (k : ℕ)
    → place_count edition (set_at shapes i shape k) ≡ place_count edition (shapes k)
set_count edition shapes i shape same k = elim (cases_eq k i) [
  | inl e ↦
      ap (λ x. place_count edition (set_at shapes i shape x)) e
      ∙ (ap (place_count edition) (set_same shapes i shape) ∙ (same ∙ ap (λ x. place_count edition (shapes x)) (sym e)))
  | inr other ↦ ap (place_count edition) (set_other shapes i shape k other)
]

-- setting the same shape in two lists of shapes with the same numbers of blocks gives lists with the same numbers of blocks
pub set_counts : (edition : Edition) (f g : ℕ → Shape) (i : ℕ) (shape : Shape) → ((k : ℕ) → place_count edition (f k) ≡ place_count edition (g k)) → (k : ℕ)
    → place_count edition (set_at f i shape k) ≡ place_count edition (set_at g i shape k)
set_counts edition f g i shape same k = elim (cases_eq k i) [
  | inl e ↦
      ap (λ x. place_count edition (set_at f i shape x)) e
      ∙ (ap (place_count edition) (set_same f i shape ∙ sym (set_same g i shape)) ∙ ap (λ x. place_count edition (set_at g i shape x)) (sym e))
  | inr other ↦ ap (place_count edition) (set_other f i shape k other) ∙ (same k ∙ ap (place_count edition) (sym (set_other g i shape k other)))
]

-- an i-number outside the volume has no blocks
none_outside : (geometry : Geometry) (image : List ℕ) (i : ℕ) → is_number geometry i ≡ false → place_count geometry.edition (shapes geometry image i) ≡ 0
unfolding shapes
none_outside geometry image i outside =
    ap (λ t. place_count geometry.edition (if t then shape_of geometry image i (kind_of geometry.edition (mode_of geometry image i)) else no_shape)) outside
    ∙ none_count geometry.edition

-- in a sound image, a node that loses all its blocks adds them to the free blocks
pub free_gone : (geometry : Geometry) (image : List ℕ) (i : ℕ) → Rules3To8 geometry image
    → free_count geometry (set_at (shapes geometry image) i no_shape)
    ≡ free_count geometry (shapes geometry image) + place_count geometry.edition (shapes geometry image i)
free_gone geometry image i rules = elim (cases_Bool (is_number geometry i)) [
  | inl inside ↦
      let range = and_parts _ _ inside in
      free_all geometry (shapes geometry image) i (leb-true 1 i range.0) (leb-true i geometry.last_inode range.1) (sum_within geometry image rules)
  | inr outside ↦
      let none : place_count geometry.edition (shapes geometry image i) ≡ 0 = none_outside geometry image i outside in
      let empty : place_count geometry.edition no_shape ≡ 0 = none_count geometry.edition in
      let same : free_count geometry (set_at (shapes geometry image) i no_shape) ≡ free_count geometry (shapes geometry image) =
      free_same geometry (set_at (shapes geometry image) i no_shape) (shapes geometry image)
      (set_count geometry.edition (shapes geometry image) i no_shape (empty ∙ sym none)) in
      omega (arith, none, same)
]
