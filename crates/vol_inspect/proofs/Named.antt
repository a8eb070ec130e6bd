-- The number of block-map positions that point to a block, at each level and in all.
use Rattle.std.proofs.Common.{◌≡◌, ◌≢◌, ℕ, zero, suc, ◌+◌, ◌-◌, ◌≤◌, ◌∙◌, ◌==◌, ◌&&◌, sym, ap, not, Bool, true, false, if◌then◌else◌, List, [], ◌∷◌, map, refl, arith, inl, inr}
use Rattle.std.proofs.lemmas.Bool.{cases_eq, ne_eqb}
use Rattle.std.proofs.lemmas.List.Sums.{sum_by-cons}
use Rattle.std.specs.List.{count_by, sum_by, filter, flat_map, range_with_len}
use Rattle.vol_layout.specs.Edition.{constants}
use Rattle.vol_layout.specs.Geometry.{Fits}
use Rattle.vol_layout.specs.Inode.{inode_place, address_at, kind_of}
use Rattle.vol_layout.specs.BlockPointers.{mode_of, form_at, named, pointer_in}
use Rattle.vol_layout.specs.BlockMaps.{has_places, file_form, first_count, pointer_count, levels, levels_below, places_from, places}
use Rattle.vol_layout.specs.declared.block_map.BlockMap.TheVariants.{Bare}
use Rattle.vol_layout.specs.declared.geometry.Geometry.{Geometry}
use Rattle.vol_layout.specs.declared.mode.Kind.TheVariants as kinds
use Rattle.vol_file.specs.Changes.{blocks_of}
use Rattle.vol_file.specs.Clears.{blocks_at}
use Rattle.vol_file.specs.Laws.{IsAmong}
use Rattle.vol_file.specs.Rules.{kind_at}
use Rattle.vol_file.proofs.BlockLists.{at_nil, at_zero, at_some}
use Rattle.vol_file.proofs.FirstBlocks.{levels_few}
use Rattle.vol_file.proofs.PlaceLists.{counted_flat, among_places}
use Rattle.vol_reports.specs.Icheck.{one_if, is_kind, use_count}
use Rattle.vol_inspect.specs.PlaceCounts.{found_at, names_at, node_count, wanted_count, naming_count}
use Rattle.vol_inspect.proofs.Found.{here_at}
use Rattle.vol_inspect.proofs.LaidOut.{pointers_or_none}

-- the sum over the levels 0 to 3
abbrev pub all_levels : (ℕ → ℕ) → ℕ
all_levels f = f 0 + f 1 + f 2 + f 3

-- sums at each level add up to the sum over the levels
sum_levels : (f h : ℕ → ℕ → ℕ) (xs : List ℕ)
    → sum_by (λ x. all_levels (f x) + all_levels (h x)) xs ≡ all_levels (λ e. sum_by (λ x. f x e) xs) + all_levels (λ e. sum_by (λ x. h x e) xs)
sum_levels f h [] = refl
sum_levels f h (x ∷ xs) =
    let rest = sum_levels f h xs in
    let each = λ (e : ℕ). sum_by-cons (λ y. f y e) x xs in
    let other = λ (e : ℕ). sum_by-cons (λ y. h y e) x xs in
    omega (arith, rest, sum_by-cons (λ y. all_levels (f y) + all_levels (h y)) x xs, each 0, each 1, each 2, each 3, other 0, other 1, other 2, other 3)

-- a level from 0 to 3 is exactly one of the four levels
level_one : (t : Bool) (l : ℕ) → l ≤ 3 → one_if t ≡ all_levels (λ e. one_if (t && (e == l)))
level_one false l low = refl
level_one true zero low = refl
level_one true (suc zero) low = refl
level_one true (suc (suc zero)) low = refl
level_one true (suc (suc (suc zero))) low = refl
level_one true (suc (suc (suc (suc l)))) low = absurd (omega (arith, low))

-- a count of positions is the sum of the counts at each level
by_level : (t : List ℕ → Bool) (level : List ℕ → ℕ) (qs : List (List ℕ)) → ((q : List ℕ) → IsAmong q qs → level q ≤ 3)
    → count_by t qs ≡ all_levels (λ e. count_by (λ q. t q && (e == level q)) qs)
by_level t level [] low = refl
by_level t level (q ∷ qs) low =
    let rest = by_level t level qs (λ p among. low p (inr among)) in
    let each = λ (e : ℕ). sum_by-cons (λ p. one_if (t p && (e == level p))) q qs in
    omega (arith, rest, level_one (t q) (level q) (low q (inl refl)), sum_by-cons (λ p. one_if (t p)) q qs, each 0, each 1, each 2, each 3)

module _ (g : Geometry) (image : List ℕ) (i : ℕ) where
  -- a number other than 0 occurs among the numbers of positions once for each position that points to it
  named_counted : (b : ℕ) (qs : List (List ℕ)) → b ≢ 0 → count_by (λ k. k == b) (blocks_at g image i qs) ≡ count_by (λ q. named g image i q == b) qs
  named_counted b [] some = ap (count_by (λ k. k == b)) (at_nil g image i)
  named_counted b (q ∷ qs) some =
      let rest = named_counted b qs some in
      let split = sum_by-cons (λ p. one_if (named g image i p == b)) q qs in
      elim (cases_eq (named g image i q) 0) [
        | inl none ↦
            let here = ap (count_by (λ k. k == b)) (at_zero g image i q qs none) in
            let other : one_if (named g image i q == b) ≡ 0 = ap one_if (ne_eqb (named g image i q) b (λ same. some (sym same ∙ none))) in
            omega (arith, rest, split, here, other)
        | inr one ↦
            let here = ap (count_by (λ k. k == b)) (at_some g image i (named g image i q) q qs refl one) in
            omega (arith, rest, split, here, sum_by-cons (λ k. one_if (k == b)) (named g image i q) (blocks_at g image i qs))
      ]

  -- the positions at and below a position that point to block `c` are as many as `c` is found at and below its number
  placed_from : (n d a c e : ℕ) (p : List ℕ) → n ≡ (constants g.edition).pointers → levels_below (form_at g image i) (a ∷ p) ≡ d
      → count_by (names_at g image i c e) (places_from n (a ∷ p) d) ≡ found_at g image d (named g image i (a ∷ p)) c e
  unfolding found_at
  placed_from n zero a c e p many is =
      let b = named g image i (a ∷ p) in
      let one : count_by (names_at g image i c e) ((a ∷ p) ∷ []) ≡ here_at b c e (levels_below (form_at g image i) (a ∷ p)) =
      omega (arith, sum_by-cons (λ q. one_if (names_at g image i c e q)) (a ∷ p) []) in
      one ∙ ap (here_at b c e) is
  placed_from n (suc d) a c e p many is =
      let b = named g image i (a ∷ p) in
      let entry : ℕ → List (List ℕ) = λ j. places_from n (j ∷ (a ∷ p)) d in
      let less : levels_below (form_at g image i) (a ∷ p) - 1 ≡ d = omega (arith, is) in
      let rest : count_by (names_at g image i c e) (flat_map entry (range_with_len 0 n))
      ≡ sum_by (λ j. found_at g image d (pointer_in g image b j) c e) (range_with_len 0 (constants g.edition).pointers) =
      counted_flat (names_at g image i c e) entry (range_with_len 0 n)
      ∙ (λ k. sum_by (λ j. placed_from n d j c e (a ∷ p) many less k) (range_with_len 0 (many k))) in
      sum_by-cons (λ q. one_if (names_at g image i c e q)) (a ∷ p) (flat_map entry (range_with_len 0 n)) ∙ (λ k. here_at b c e (is k) + rest k)

  -- the positions of an i-node that point to a block, summed over its addresses
  pub node_is : Fits g image → (c e : ℕ) → node_count g image i c e
      ≡ sum_by (λ k. found_at g image (levels (form_at g image i) k) (address_at g.edition image (inode_place g.edition i) k) c e)
      (range_with_len 0 (first_count (form_at g image i)))
  unfolding node_count places
  node_is fits c e =
      let form = form_at g image i in
      let from : ℕ → List (List ℕ) = λ k. places_from (pointer_count form) (k ∷ []) (levels form k) in
      let found : ℕ → ℕ = λ k. found_at g image (levels form k) (address_at g.edition image (inode_place g.edition i) k) c e in
      counted_flat (names_at g image i c e) from (range_with_len 0 (first_count form))
      ∙ elim (pointers_or_none g image i fits (has_places (kind_of g.edition (mode_of g image i)))) [
        | inl many ↦ λ x. sum_by (λ k. placed_from (pointer_count form) (levels form k) k c e [] many refl x) (range_with_len 0 (first_count form))
        | inr none ↦
            ap (λ n. sum_by (λ k. count_by (names_at g image i c e) (from k)) (range_with_len 0 n)) none
            ∙ sym (ap (λ n. sum_by found (range_with_len 0 n)) none)
      ]

  module _ (b : ℕ) (some : b ≢ 0) where
    -- the positions of an i-node that point to a block, summed over the levels
    node_all : count_by (λ k. k == b) (blocks_of g image i) ≡ all_levels (node_count g image i b)
    unfolding blocks_of blocks_at node_count
    node_all =
        named_counted b (places (form_at g image i)) some
        ∙ by_level (λ q. named g image i q == b) (levels_below (form_at g image i)) (places (form_at g image i))
        (λ q among. levels_few (form_at g image i) q (among_places (form_at g image i) q among))

    -- an i-node without a block map has no position that points to a block
    bare_none : has_places (kind_at g image i) ≡ false → count_by (λ k. k == b) (blocks_of g image i) ≡ 0
    unfolding blocks_of places
    bare_none bare =
        ap (λ t. count_by (λ k. k == b) (filter (λ k. not (k == 0)) (map (named g image i) (places (if t then file_form g.edition (mode_of g image i) else Bare))))) bare

    -- the positions of an i-node that point to a block, summed over both kinds
    node_wanted : count_by (λ k. k == b) (blocks_of g image i)
        ≡ all_levels (wanted_count g image kinds.Directory i b) + all_levels (wanted_count g image kinds.Regular i b)
    node_wanted = elim (kind_at g image i) as (λ kind. kind_at g image i ≡ kind → count_by (λ k. k == b) (blocks_of g image i)
        ≡ all_levels (λ e. if is_kind kinds.Directory kind then node_count g image i b e else 0)
        + all_levels (λ e. if is_kind kinds.Regular kind then node_count g image i b e else 0)) [
          | kinds.Free ↦ λ is. bare_none (ap has_places is)
          | kinds.Regular ↦ λ is. omega (arith, node_all)
          | kinds.Directory ↦ λ is. omega (arith, node_all)
          | kinds.Special ↦ λ is. bare_none (ap has_places is)
          | kinds.Odd ↦ λ is. bare_none (ap has_places is)
        ] refl

-- the positions of all i-nodes that point to a block, summed over both kinds and all levels
pub used_by_level : (g : Geometry) (image : List ℕ) (b : ℕ) → b ≢ 0
    → use_count g image b ≡ all_levels (naming_count g image kinds.Directory b) + all_levels (naming_count g image kinds.Regular b)
unfolding use_count naming_count
used_by_level g image b some =
    (λ k. sum_by (λ i. node_wanted g image i b some k) (range_with_len 1 g.last_inode))
    ∙ sum_levels (λ i. wanted_count g image kinds.Directory i b) (λ i. wanted_count g image kinds.Regular i b) (range_with_len 1 g.last_inode)
