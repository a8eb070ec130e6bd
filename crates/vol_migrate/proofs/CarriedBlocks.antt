-- The stored logical blocks of a file, and the block-map positions on their paths in the seventh edition.
use Rattle.std.proofs.Common.{◌≡◌, ◌∙◌, sym, ap, refl, ℕ, zero, suc, ◌+◌, ◌-◌, ◌<◌, ◌≤◌, true, false, cond, List, [], ◌∷◌, ◌++◌, filter, None, Some, inl, inr, arith}
use Rattle.std.specs.Prelude.{◌||◌}
use Rattle.std.specs.List.{list_any, count_by, sum_by, range_with_len}
use Rattle.std.specs.Option.{option_map, option_map_or}
use Rattle.std.specs.Str.{bytes_eq}
use Rattle.std.proofs.lemmas.Bool.{cases_Bool, cases_lt}
use Rattle.std.proofs.lemmas.List.Elements.{filter-append}
use Rattle.std.proofs.lemmas.List.Folds.{list_any-append}
use Rattle.std.proofs.lemmas.List.{append-nil}
use Rattle.std.proofs.lemmas.List.Sums.{sum_by-cons}
use Rattle.vol_layout.specs.Inode.{inode_of, inode_place}
use Rattle.vol_layout.specs.BlockMaps.{places, way, last_place}
use Rattle.vol_layout.specs.declared.edition.Edition.TheVariants.{V7}
use Rattle.vol_layout.specs.declared.geometry.Geometry.{Geometry}
use Rattle.vol_layout.specs.declared.mode.Kind.{Kind}
use Rattle.vol_layout.specs.declared.mode.Kind.TheVariants as kinds
use Rattle.vol_layout.specs.declared.block_map.BlockMap.TheVariants.{Small, Deep}
use Rattle.vol_layout.proofs.InodeLaws.{inode_size}
use Rattle.vol_layout.proofs.WayOrder.{range_more}
use Rattle.vol_file.specs.Changes.{whole_blocks}
use Rattle.vol_file.specs.Need.{need_of}
use Rattle.vol_file.specs.Rules.{kind_at, size_of}
use Rattle.vol_file.specs.Shape.{is_on_ways}
use Rattle.vol_file.proofs.PlaceLists.{count_same, count_none}
use Rattle.vol_dir.specs.Tree.{Shape, place_count, shapes, shape_of, no_shape, tree, state, node_of, node_with, content_of}
use Rattle.vol_dir.proofs.WalkLaws.{node_inside}
use Rattle.vol_judge.proofs.GraphCounts.{sum_same}
use Rattle.vol_change.proofs.PlaceCounts.{stored_count, sum_split}
use Rattle.vol_change.proofs.States.{shape_here}
use Rattle.vol_migrate.specs.Raised.{names_block, stored_blocks, raised_shape, size_in}
use Rattle.vol_migrate.specs.Refuse.{places_needed}
use Rattle.vol_migrate.specs.Stages.{places_for, file_need, need_before}

-- one more logical block is added if it is stored
below_more : (shape : Shape) (n : ℕ) → stored_blocks shape (n + 1) ≡ stored_blocks shape n ++ filter (names_block shape) (n ∷ [])
below_more shape n =
    let at : 0 + n ≡ n = omega arith in
    ap (filter (names_block shape)) (range_more 0 n 1)
    ∙ (filter-append (names_block shape) (range_with_len 0 n) ((0 + n) ∷ [])
    ∙ ap (λ x. filter (names_block shape) (range_with_len 0 n) ++ filter (names_block shape) (x ∷ [])) at)

-- a hole adds no stored block
pub below_hole : (shape : Shape) (n : ℕ) → names_block shape n ≡ false → stored_blocks shape (n + 1) ≡ stored_blocks shape n
below_hole shape n hole =
    below_more shape n ∙ (ap (λ t. stored_blocks shape n ++ cond t (n ∷ []) []) hole ∙ append-nil (stored_blocks shape n))

-- consecutive logical blocks that all have data blocks stay if the others are left out
run_named : (shape : Shape) (n k : ℕ) → ((b : ℕ) → n ≤ b → b < n + k → names_block shape b ≡ true)
    → filter (names_block shape) (range_with_len n k) ≡ range_with_len n k
run_named shape n zero some = refl
run_named shape n (suc k) some =
    let rest = run_named shape (n + 1) k (λ b from to. some b (omega (arith, from)) (omega (arith, to))) in
    ap (λ t. cond t (n ∷ filter (names_block shape) (range_with_len (n + 1) k)) (filter (names_block shape) (range_with_len (n + 1) k)))
    (some n (omega arith) (omega arith))
    ∙ ap (λ xs. n ∷ xs) rest

-- consecutive logical blocks with data blocks are added to the stored blocks
below_run : (shape : Shape) (n k : ℕ) → ((b : ℕ) → n ≤ b → b < n + k → names_block shape b ≡ true)
    → stored_blocks shape (n + k) ≡ stored_blocks shape n ++ range_with_len n k
below_run shape n k some =
    let at : 0 + n ≡ n = omega arith in
    ap (filter (names_block shape)) (range_more 0 n k)
    ∙ (filter-append (names_block shape) (range_with_len 0 n) (range_with_len (0 + n) k)
    ∙ (ap (λ x. filter (names_block shape) (range_with_len 0 n) ++ filter (names_block shape) (range_with_len x k)) at
    ∙ ap (λ xs. filter (names_block shape) (range_with_len 0 n) ++ xs) (run_named shape n k some)))

-- a logical block with a data block is such a run
pub one_named : (shape : Shape) (n : ℕ) → names_block shape n ≡ true → (b : ℕ) → n ≤ b → b < n + 1 → names_block shape b ≡ true
one_named shape n some b from to = ap (names_block shape) (let e : b ≡ n = omega (arith, from, to) in e) ∙ some

-- several holes add no stored block
pub below_holes : (shape : Shape) (m n : ℕ) → m ≤ n → ((b : ℕ) → m ≤ b → b < n → names_block shape b ≡ false)
    → stored_blocks shape n ≡ stored_blocks shape m
below_holes shape zero zero order holes = refl
below_holes shape (suc m) zero order holes = absurd (omega (arith, order))
below_holes shape m (suc n) order holes =
    elim (cases_lt n m) [
      | inl low ↦ ap (stored_blocks shape) (let e : suc n ≡ m = omega (arith, order, low) in e)
      | inr high ↦
          ap (stored_blocks shape) (let e : suc n ≡ n + 1 = omega arith in e)
          ∙ (below_hole shape n (holes n high (omega arith)) ∙ below_holes shape m n high (λ b from to. holes b from (omega (arith, to))))
    ]

-- consecutive stored blocks add the positions on their paths
pub on_run : (shape : Shape) (n k : ℕ) (p : List ℕ) → ((b : ℕ) → n ≤ b → b < n + k → names_block shape b ≡ true)
    → is_on_ways Deep (stored_blocks shape (n + k)) p ≡ (is_on_ways Deep (stored_blocks shape n) p || is_on_ways Deep (range_with_len n k) p)
on_run shape n k p some =
    ap (λ blocks. is_on_ways Deep blocks p) (below_run shape n k some)
    ∙ list_any-append (λ b. list_any (bytes_eq p) (way Deep b)) (stored_blocks shape n) (range_with_len n k)

-- one more stored block adds the positions on its path
pub on_more : (shape : Shape) (n : ℕ) (p : List ℕ) → names_block shape n ≡ true
    → is_on_ways Deep (stored_blocks shape (n + 1)) p ≡ (is_on_ways Deep (stored_blocks shape n) p || is_on_ways Deep (n ∷ []) p)
on_more shape n p some = on_run shape n 1 p (one_named shape n some)

-- no blocks need no positions
pub none_below : (shape : Shape) → places_for shape 0 ≡ 0
unfolding places_for
none_below shape = count_none (is_on_ways Deep []) (places Deep) (λ q. refl)

-- holes need no positions
pub count_holes : (shape : Shape) (m n : ℕ) → m ≤ n → ((b : ℕ) → m ≤ b → b < n → names_block shape b ≡ false)
    → places_for shape n ≡ places_for shape m
unfolding places_for
count_holes shape m n order holes = ap (λ blocks. count_by (is_on_ways Deep blocks) (places Deep)) (below_holes shape m n order holes)

-- consecutive stored blocks need the positions on their paths that aren't on an earlier path
pub count_run : (shape : Shape) (n k : ℕ) → ((b : ℕ) → n ≤ b → b < n + k → names_block shape b ≡ true)
    → places_for shape (n + k) ≡ places_for shape n + need_of Deep (is_on_ways Deep (stored_blocks shape n)) (range_with_len n k)
unfolding places_for place_count
count_run shape n k some =
    count_same (is_on_ways Deep (stored_blocks shape (n + k))) (λ p. is_on_ways Deep (stored_blocks shape n) p || is_on_ways Deep (range_with_len n k) p)
    (places Deep) (λ p. on_run shape n k p some)
    ∙ stored_count V7 (record { names = is_on_ways Deep (stored_blocks shape n); large = false; slots = [] }) (range_with_len n k)

-- a stored block needs the positions on its path that aren't on an earlier path
pub count_more : (shape : Shape) (n : ℕ) → names_block shape n ≡ true
    → places_for shape (n + 1) ≡ places_for shape n + need_of Deep (is_on_ways Deep (stored_blocks shape n)) (n ∷ [])
count_more shape n some = count_run shape n 1 (one_named shape n some)

-- more blocks don't need fewer positions
pub count_grows : (shape : Shape) (m n : ℕ) → m ≤ n → places_for shape m ≤ places_for shape n
count_grows shape zero zero order = omega arith
count_grows shape (suc m) zero order = absurd (omega (arith, order))
count_grows shape m (suc n) order =
    let next : places_for shape (suc n) ≡ places_for shape (n + 1) = ap (places_for shape) (let e : suc n ≡ n + 1 = omega arith in e) in
    elim (cases_lt n m) [
      | inl low ↦ let same : places_for shape m ≡ places_for shape (suc n) = ap (places_for shape) (let e : m ≡ suc n = omega (arith, order, low) in e) in omega (arith, same)
      | inr high ↦
          let rest = count_grows shape m n high in
          elim (cases_Bool (names_block shape n)) [
            | inl some ↦ let more = count_more shape n some in omega (arith, next, rest, more)
            | inr hole ↦
                let same = count_holes shape n (n + 1) (omega arith) (λ b from to. ap (names_block shape) (let e : b ≡ n = omega (arith, from, to) in e) ∙ hole) in
                omega (arith, next, rest, same)
          ]
    ]

-- the empty shape stores no block
no_block : (b : ℕ) → names_block no_shape b ≡ false
no_block b = elim (last_place Small b) as (λ o. option_map_or (λ (p : List ℕ). false) o false ≡ false) [ None ↦ refl | Some p ↦ refl ]

-- the empty shape has no stored blocks
pub none_stored : (n : ℕ) → stored_blocks no_shape n ≡ []
none_stored n = below_holes no_shape 0 n (omega arith) (λ b from to. no_block b)

-- the empty shape needs no positions
pub none_needed : (n : ℕ) → places_for no_shape n ≡ 0
none_needed n = count_holes no_shape 0 n (omega arith) (λ b from to. no_block b) ∙ none_below no_shape

-- a file needs as many positions as its raised shape has
pub shape_need : (size : ℕ) (shape : Shape) → place_count V7 (raised_shape size shape) ≡ places_for shape (whole_blocks size)
unfolding place_count places_for
shape_need size shape = refl

-- the positions that an i-node of this kind needs
need_by : (geometry : Geometry) (image : List ℕ) (i : ℕ) (kind : Kind) → kind_at geometry image i ≡ kind
    → places_for (shape_of geometry image i kind)
    (whole_blocks (size_in (option_map (node_with (inode_of geometry.edition image i)) (content_of geometry image i kind))))
    ≡ places_for (shape_of geometry image i kind) (whole_blocks (size_of geometry image i))
need_by geometry image i kinds.Free is = none_needed (whole_blocks 0) ∙ sym (none_needed (whole_blocks (size_of geometry image i)))
need_by geometry image i kinds.Odd is = none_needed (whole_blocks 0) ∙ sym (none_needed (whole_blocks (size_of geometry image i)))
need_by geometry image i kinds.Special is =
    none_needed (whole_blocks (inode_of geometry.edition image i).size) ∙ sym (none_needed (whole_blocks (size_of geometry image i)))
need_by geometry image i kinds.Regular is =
    ap (λ n. places_for (shape_of geometry image i kinds.Regular) (whole_blocks n)) (inode_size geometry.edition image (inode_place geometry.edition i))
need_by geometry image i kinds.Directory is =
    ap (λ n. places_for (shape_of geometry image i kinds.Directory) (whole_blocks n)) (inode_size geometry.edition image (inode_place geometry.edition i))

-- the positions of each i-node's raised shape are those that the i-node needs
need_here : (geometry : Geometry) (image : List ℕ) (i : ℕ) → 1 ≤ i → i ≤ geometry.last_inode
    → place_count V7 (raised_shape (size_in ((tree geometry image).nodes i)) (shapes geometry image i)) ≡ file_need geometry image i
unfolding node_of
need_here geometry image i first last =
    shape_need (size_in ((tree geometry image).nodes i)) (shapes geometry image i)
    ∙ (ap (λ node. places_for (shapes geometry image i) (whole_blocks (size_in node))) (node_inside geometry image i first last)
    ∙ (ap (λ shape. places_for shape (whole_blocks (size_in (node_of geometry image i)))) (shape_here geometry image i first last)
    ∙ (need_by geometry image i (kind_at geometry image i) refl
    ∙ sym (ap (λ shape. places_for shape (whole_blocks (size_of geometry image i))) (shape_here geometry image i first last)))))

-- all files need as many positions as their raised shapes have
pub need_all : (geometry : Geometry) (image : List ℕ) → places_needed (state geometry image) ≡ need_before geometry image (geometry.last_inode + 1)
unfolding places_needed tree
need_all geometry image =
    let count : geometry.last_inode + 1 - 1 ≡ geometry.last_inode = omega arith in
    sum_same (λ i. place_count V7 (raised_shape (size_in ((tree geometry image).nodes i)) (shapes geometry image i))) (file_need geometry image) 1 geometry.last_inode
    (λ i low high. need_here geometry image i low (omega (arith, high)))
    ∙ ap (λ n. sum_by (file_need geometry image) (range_with_len 1 n)) (sym count)

-- the need of the files below `i` + 1 is the need of those below `i` plus that of file `i`
pub before_more : (geometry : Geometry) (image : List ℕ) (i : ℕ) → 1 ≤ i
    → need_before geometry image (i + 1) ≡ need_before geometry image i + file_need geometry image i
before_more geometry image i first =
    let count : i + 1 - 1 ≡ i - 1 + 1 = omega (arith, first) in
    let at : 1 + (i - 1) ≡ i = omega (arith, first) in
    let split = sum_split (file_need geometry image) 1 (i - 1) 1 in
    let one : sum_by (file_need geometry image) (range_with_len (1 + (i - 1)) 1) ≡ file_need geometry image (1 + (i - 1)) =
    let cons = sum_by-cons (file_need geometry image) (1 + (i - 1)) [] in omega (arith, cons) in
    ap (λ n. sum_by (file_need geometry image) (range_with_len 1 n)) count
    ∙ (split ∙ ap (λ n. need_before geometry image i + n) (one ∙ ap (file_need geometry image) at))

-- the files below a lower i-number don't need more positions
pub before_within : (geometry : Geometry) (image : List ℕ) (i n : ℕ) → 1 ≤ i → i ≤ n → need_before geometry image i ≤ need_before geometry image n
before_within geometry image i n first order =
    let count : i - 1 + (n - i) ≡ n - 1 = omega (arith, first, order) in
    let split = sum_split (file_need geometry image) 1 (i - 1) (n - i) in
    let same : sum_by (file_need geometry image) (range_with_len 1 (i - 1 + (n - i))) ≡ need_before geometry image n =
    ap (λ m. sum_by (file_need geometry image) (range_with_len 1 m)) count in
    omega (arith, split, same)
