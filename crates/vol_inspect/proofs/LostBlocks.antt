-- A data block has no owners if and only if the block report has it as lost.
use Rattle.std.proofs.Common.{◌≡◌, ℕ, zero, suc, ◌+◌, ◌*◌, ◌^◌, ◌≤◌, ◌-◌, ◌∙◌, ◌==◌, ◌&&◌, ◌||◌, sym, ap, cond, not, Bool, true, false, if◌then◌else◌, nat_le, nat_lt, List, [], ◌∷◌, ◌++◌, map, Option, None, Some, refl, arith}
use Rattle.std.specs.Prelude.{◌↔◌}
use Rattle.std.specs.List.{count_by, sum_by, find, flat_map, range_with_len, list_any}
use Rattle.std.specs.Option.{option_to_list}
use Rattle.std.proofs.lemmas.Bool.{lt-leb, le-ltb, eq-eqb, ne_eqb, eqb-true, true≢false}
use Rattle.std.proofs.lemmas.List.{map-append}
use Rattle.std.proofs.lemmas.List.Folds.{list_any-append}
use Rattle.std.proofs.lemmas.List.Sums.{sum_by-cons}
use Rattle.vol_layout.specs.Edition.{constants}
use Rattle.vol_layout.specs.Geometry.{Fits, in_zone}
use Rattle.vol_layout.specs.BlockMaps.{first_count}
use Rattle.vol_layout.specs.BlockPointers.{form_at, pointer_in}
use Rattle.vol_layout.specs.declared.block_map.BlockMap.{BlockMap}
use Rattle.vol_layout.specs.declared.geometry.Geometry.{Geometry}
use Rattle.vol_layout.proofs.BodyLaws.{zone_bounds}
use Rattle.vol_file.specs.Changes.{blocks_of}
use Rattle.vol_free.specs.FreeWalk.{free_walk}
use Rattle.vol_free.specs.Walk.{left_after}
use Rattle.vol_judge.specs.Marks.{blocks_from}
use Rattle.vol_judge.proofs.FileBlocks.{address_blocks, addresses_from, blocks_by_address}
use Rattle.vol_reports.specs.Icheck.{one_if, use_count, met_count, is_lost_of}
use Rattle.vol_inspect.specs.Extents.{single, address_holdings, holdings, holdings_from}
use Rattle.vol_inspect.specs.Laws.{ShowsLost}
use Rattle.vol_inspect.specs.Owners.{is_block, naming, owner_by, node_owners, listed_in, holder, or_lost, list_owner, owners_of}
use Rattle.vol_inspect.specs.declared.extent.Extent.{Extent}
use Rattle.vol_inspect.specs.declared.owners.Owner.{Owner}
use Rattle.vol_inspect.specs.declared.owners.Owner.TheVariants as owners

-- the block of an extent
abbrev block_in : Extent → ℕ
block_in e = e.block

-- lists of lists that have the same blocks, taken together
flat_blocks : {X : Type 0} (f : X → List Extent) (h : X → List ℕ) (xs : List X) → ((x : X) → map block_in (f x) ≡ h x)
    → map block_in (flat_map f xs) ≡ flat_map h xs
flat_blocks f h [] same = refl
flat_blocks f h (x ∷ xs) same =
    map-append block_in (f x) (flat_map f xs)
    ∙ ((λ i. same x i ++ map block_in (flat_map f xs)) ∙ ap (λ ys. h x ++ ys) (flat_blocks f h xs same))

-- the blocks below a number, as extents or as numbers
blocks_below : (g : Geometry) (image : List ℕ) (d logical b : ℕ) → map block_in (holdings_from g image d logical b) ≡ blocks_from g image d b
unfolding holdings_from blocks_from
blocks_below g image zero logical b =
    elim (b == 0) as (λ t. map block_in (if t then [] else single g 0 logical b ∷ []) ≡ (if t then [] else b ∷ [])) [ true ↦ refl | false ↦ refl ]
blocks_below g image (suc d) logical b =
    let p = (constants g.edition).pointers in
    let wide = λ (j : ℕ). holdings_from g image d (logical + j * p ^ d) (pointer_in g image b j) in
    let narrow = λ (j : ℕ). blocks_from g image d (pointer_in g image b j) in
    let rest = flat_blocks wide narrow (range_with_len 0 p) (λ j. blocks_below g image d (logical + j * p ^ d) (pointer_in g image b j)) in
    elim (b == 0) as (λ t. map block_in (if t then [] else single g (suc d) logical b ∷ flat_map wide (range_with_len 0 p))
    ≡ (if t then [] else b ∷ flat_map narrow (range_with_len 0 p))) [ true ↦ refl | false ↦ ap (λ ys. b ∷ ys) rest ]

-- the blocks of an i-node, as extents or as numbers
node_blocks : (g : Geometry) (image : List ℕ) (i : ℕ) → Fits g image → 1 ≤ i → i ≤ g.last_inode → map block_in (holdings g image i) ≡ blocks_of g image i
unfolding holdings addresses_from
node_blocks g image i fits first last =
    flat_blocks (address_holdings g image i) (address_blocks g image i) (range_with_len 0 (first_count (form_at g image i))) (λ k. blocks_below g image _ _ _)
    ∙ sym (blocks_by_address g image i fits first last)

-- how often a block is among some extents
abbrev times_in : ℕ → List Extent → ℕ
times_in b xs = count_by (λ k. k == b) (map block_in xs)

-- a search finds a block among extents exactly if it is there
found_none : (b : ℕ) (xs : List Extent) → (find (is_block b) xs ≡ None) ↔ (times_in b xs ≡ 0)
found_none b [] = (λ e. refl, λ e. refl)
found_none b (x ∷ xs) =
    let split = sum_by-cons (λ k. one_if (k == b)) x.block (map block_in xs) in
    let rest = found_none b xs in
    elim (x.block == b) as (λ t. times_in b (x ∷ xs) ≡ one_if t + times_in b xs → (cond t (Some x) (find (is_block b) xs) ≡ None) ↔ (times_in b (x ∷ xs) ≡ 0)) [
      | true ↦ λ sum. (λ e. absurd (cc), λ none. absurd (omega arith))
      | false ↦ λ sum. (λ e. let zero = rest.0 e in omega arith, λ none. rest.1 (omega arith))
    ] split

-- an i-node is an owner exactly if its block map has the block
abbrev owner_in : Geometry → List ℕ → ℕ → ℕ → List Owner
owner_in g image b i = owner_by i (form_at g image i) (naming g image b i)

no_owner : (i : ℕ) (form : BlockMap) (found : Option Extent) → owner_by i form found ≡ [] → found ≡ None
no_owner i form None e = refl
no_owner i form (Some x) e = absurd (cc)

-- both of two lists are empty if they are so one after the other
both_empty : {A : Type 0} (xs ys : List A) → xs ++ ys ≡ [] → (xs ≡ []) × (ys ≡ [])
both_empty [] ys e = (refl, e)
both_empty (x ∷ xs) ys e = absurd (cc)

module _ (g : Geometry) (image : List ℕ) (b : ℕ) (fits : Fits g image) where
  -- the uses of a block by some i-nodes
  abbrev uses_by : ℕ → ℕ
  uses_by i = count_by (λ k. k == b) (blocks_of g image i)

  one_used : (i : ℕ) → 1 ≤ i → i ≤ g.last_inode → (naming g image b i ≡ None) ↔ (uses_by i ≡ 0)
  unfolding naming
  one_used i first last =
      let same : times_in b (holdings g image i) ≡ uses_by i = ap (count_by (λ k. k == b)) (node_blocks g image i fits first last) in
      let found = found_none b (holdings g image i) in
      (λ e. sym same ∙ found.0 e, λ none. found.1 (same ∙ none))

  -- some i-nodes don't use a block exactly if none of them is an owner
  none_used : (a n : ℕ) → 1 ≤ a → a + n ≤ g.last_inode + 1
      → (flat_map (owner_in g image b) (range_with_len a n) ≡ []) ↔ (sum_by uses_by (range_with_len a n) ≡ 0)
  none_used a zero first last = (λ e. refl, λ e. refl)
  none_used a (suc n) first last =
      let split = sum_by-cons uses_by a (range_with_len (a + 1) n) in
      let rest = none_used (a + 1) n (omega arith) (omega arith) in
      let here = one_used a first (omega arith) in (
        λ e.
            let parts = both_empty (owner_in g image b a) (flat_map (owner_in g image b) (range_with_len (a + 1) n)) e in
            let one = here.0 (no_owner a (form_at g image a) (naming g image b a) parts.0) in
            let more = rest.0 parts.1 in
            omega arith,
        λ none.
            let one = here.1 (omega arith) in
            let more = rest.1 (omega arith) in
            ap (λ o. owner_by a (form_at g image a) o ++ flat_map (owner_in g image b) (range_with_len (a + 1) n)) one ∙ more,
      )

  all_used : (node_owners g image b ≡ []) ↔ (use_count g image b ≡ 0)
  unfolding node_owners use_count
  all_used = none_used 1 g.last_inode (omega arith) (omega arith)

-- a block is in the free list exactly if the walk passed it
not_listed : (g : Geometry) (image : List ℕ) (b : ℕ) (met : List ℕ) → (listed_in g image b met ≡ None) ↔ (count_by (λ k. k == b) met ≡ 0)
unfolding listed_in
not_listed g image b [] = (λ e. refl, λ e. refl)
not_listed g image b (m ∷ met) =
    let split = sum_by-cons (λ k. one_if (k == b)) m met in
    let rest = not_listed g image b met in
    elim (m == b) as (λ t. count_by (λ k. k == b) (m ∷ met) ≡ one_if t + count_by (λ k. k == b) met
    → ((if t then Some (owners.Free (holder g image met) (left_after g image met - 1)) else listed_in g image b met) ≡ None) ↔ (count_by (λ k. k == b) (m ∷ met) ≡ 0)) [
      | true ↦ λ sum. (λ e. absurd (cc), λ none. absurd (omega arith))
      | false ↦ λ sum. (λ e. let zero = rest.0 e in omega arith, λ none. rest.1 (omega arith))
    ] split

-- true of `Lost` alone
abbrev is_lost_owner : Owner → Bool
is_lost_owner owners.Lost = true
is_lost_owner (owners.Free holder index) = false
is_lost_owner (owners.Node i form e) = false
is_lost_owner (owners.IList first last) = false
is_lost_owner owners.Boot = false
is_lost_owner owners.SuperBlock = false
is_lost_owner owners.Outside = false

-- an owner by its place in the free list isn't `Lost`
listed_real : (g : Geometry) (image : List ℕ) (b : ℕ) (met : List ℕ) → list_any is_lost_owner (option_to_list (listed_in g image b met)) ≡ false
unfolding listed_in
listed_real g image b [] = refl
listed_real g image b (m ∷ met) =
    elim (m == b) as (λ t. list_any is_lost_owner (option_to_list (if t then Some (owners.Free (holder g image met) (left_after g image met - 1)) else listed_in g image b met)) ≡ false) [
      | true ↦ refl
      | false ↦ listed_real g image b met
    ]

owner_real : (i : ℕ) (form : BlockMap) (found : Option Extent) → list_any is_lost_owner (owner_by i form found) ≡ false
owner_real i form None = refl
owner_real i form (Some e) = refl

-- no i-node is `Lost`
nodes_real : (g : Geometry) (image : List ℕ) (b : ℕ) (xs : List ℕ) → list_any is_lost_owner (flat_map (owner_in g image b) xs) ≡ false
nodes_real g image b [] = refl
nodes_real g image b (i ∷ xs) =
    list_any-append is_lost_owner (owner_in g image b i) (flat_map (owner_in g image b) xs)
    ∙ (λ j. owner_real i (form_at g image i) (naming g image b i) j || nodes_real g image b xs j)

-- owners of which none is `Lost` are shown as lost exactly if there are none
lost_if_none : (found : List Owner) → list_any is_lost_owner found ≡ false → (or_lost found ≡ owners.Lost ∷ []) ↔ (found ≡ [])
lost_if_none [] real = (λ e. refl, λ e. refl)
lost_if_none (owner ∷ more) real = (λ e. absurd (first_is owner more real e), λ e. absurd (cc))
  where
    first_is : (owner : Owner) (more : List Owner) → list_any is_lost_owner (owner ∷ more) ≡ false → owner ∷ more ≡ owners.Lost ∷ [] → ⊥
    first_is owner more real e = true≢false (sym (ap (list_any is_lost_owner) e) ∙ real)

-- no places and not free
lost_parts : (n : ℕ) (met : ℕ) → (is_lost_of n (not (met == 0)) ≡ true) ↔ ((n ≡ 0) × (met ≡ 0))
lost_parts n met = elim (n == 0) as (λ t. (n == 0) ≡ t → ((t && not (not (met == 0))) ≡ true) ↔ ((n ≡ 0) × (met ≡ 0))) [
  | false ↦ λ e. (λ h. absurd (true≢false (sym h)), λ both. absurd (true≢false (sym (eq-eqb n 0 both.0) ∙ e)))
  | true ↦ λ e. elim (met == 0) as (λ u. (met == 0) ≡ u → ((true && not (not u)) ≡ true) ↔ ((n ≡ 0) × (met ≡ 0))) [
    | true ↦ λ f. (λ h. (eqb-true n 0 e, eqb-true met 0 f), λ both. refl)
    | false ↦ λ f. (λ h. absurd (true≢false (sym h)), λ both. absurd (true≢false (sym (eq-eqb met 0 both.1) ∙ f)))
  ] refl
] refl

-- the owners of a data block
zone_owners : (g : Geometry) (image : List ℕ) (b : ℕ) → Fits g image → in_zone g b ≡ true
    → owners_of g image b ≡ or_lost (option_to_list (listed_in g image b (free_walk g image).met) ++ node_owners g image b)
unfolding owners_of
zone_owners g image b fits zone =
    let bounds = zone_bounds g b zone in
    let low : 2 ≤ b = omega (arith, bounds.0, fits.i_list) in
    let inside : nat_le g.zone_end b ≡ false = lt-leb g.zone_end b bounds.1 in
    let boot : (b == 0) ≡ false = ne_eqb b 0 (λ e. absurd (omega (arith, low, e))) in
    let top : (b == 1) ≡ false = ne_eqb b 1 (λ e. absurd (omega (arith, low, e))) in
    let listed : nat_lt b g.zone_start ≡ false = le-ltb b g.zone_start bounds.0 in
    let rest = or_lost (option_to_list (listed_in g image b (free_walk g image).met) ++ node_owners g image b) in
    λ j. if inside j then owners.Outside ∷ [] else if boot j then owners.Boot ∷ [] else if top j then owners.SuperBlock ∷ []
    else if listed j then list_owner g b ∷ [] else rest

pub shows_lost : ShowsLost
unfolding node_owners met_count
shows_lost g image b fits zone =
    let met = (free_walk g image).met in
    let listed = listed_in g image b met in
    let nodes = node_owners g image b in
    let is = zone_owners g image b fits zone in
    let real : list_any is_lost_owner (option_to_list listed ++ nodes) ≡ false =
    list_any-append is_lost_owner (option_to_list listed) nodes
    ∙ (λ j. listed_real g image b met j || nodes_real g image b (range_with_len 1 g.last_inode) j) in
    let shown = lost_if_none (option_to_list listed ++ nodes) real in
    let free = not_listed g image b met in
    let used = all_used g image b fits in
    let parts = lost_parts (use_count g image b) (count_by (λ k. k == b) met) in (
      λ e.
          let empty = both_empty (option_to_list listed) nodes (shown.0 (sym is ∙ e)) in
          parts.1 (used.0 empty.1, free.0 (no_option listed empty.0)),
      λ lost.
          let both = parts.0 lost in
          is ∙ shown.1 (ap (λ o. option_to_list o ++ nodes) (free.1 both.1) ∙ used.1 both.0),
    )
  where
    no_option : (o : Option Owner) → option_to_list o ≡ [] → o ≡ None
    no_option None e = refl
    no_option (Some x) e = absurd (cc)
