-- The positions in the block map on the paths of the first logical blocks are those that aren't past them.
use Rattle.std.proofs.Common.{◌≡◌, ℕ, zero, suc, ◌+◌, ◌-◌, ◌*◌, ◌/◌, ◌%◌, ◌^◌, ◌<◌, ◌≤◌, ◌∙◌, Bool, true, false, sym, ap, List, [], ◌∷◌, length, filter, cond, refl, arith, inl, inr, None, Some}
use Rattle.std.specs.Prelude.{◌||◌, not}
use Rattle.std.specs.Option.{option_map_or}
use Rattle.std.specs.List.{list_any, range_with_len}
use Rattle.std.specs.Str.{bytes_eq}
use Rattle.std.proofs.lemmas.Bool.{cases_lt}
use Rattle.std.proofs.lemmas.Bool.Decides.{nat_tests}
use Rattle.vol_layout.specs.BlockMaps.{levels, levels_below, IsPlace, block_limit, last_place, fronts, way, places}
use Rattle.vol_layout.specs.Laws.{IsFront}
use Rattle.vol_layout.specs.BlockPointers.{form_at}
use Rattle.vol_layout.specs.declared.geometry.Geometry.{Geometry}
use Rattle.vol_layout.specs.declared.block_map.BlockMap.{BlockMap}
use Rattle.vol_layout.specs.declared.block_map.BlockMap.TheVariants.{Small, Large, Deep, Bare}
use Rattle.vol_layout.proofs.PlaceLaws.{leaf_block, small_levels, last_leaf, front_above}
use Rattle.vol_layout.proofs.LastPlaces.{last_small, last_large, last_huge, last_direct, last_single, last_double, last_triple}
use Rattle.vol_file.specs.Shape.{is_on_ways}
use Rattle.vol_file.specs.Laws.{IsAmong}
use Rattle.vol_file.specs.Changes.{whole_blocks, is_kept, blocks_past}
use Rattle.vol_file.specs.Clears.{first_at, first_block, is_past, blocks_at}
use Rattle.vol_file.proofs.FirstBlocks.{past_true, past_false, first_front, some_pointers}
use Rattle.vol_file.proofs.Lasts.{front_true, way_is}
use Rattle.vol_file.proofs.PlaceLists.{among_places}
use Rattle.vol_file.proofs.Ranges.{is_on_at}
use Rattle.vol_file.proofs.ReachedPlaces.{has_front_is}

-- lists of two indexes are equal if the indexes are
two_same : (a b c d : ℕ) → a ≡ c → b ≡ d → a ∷ (b ∷ []) ≡ c ∷ (d ∷ [])
two_same a b c d e f = cc

three_same : (a b x c d y : ℕ) → a ≡ c → b ≡ d → x ≡ y → a ∷ (b ∷ (x ∷ [])) ≡ c ∷ (d ∷ (y ∷ []))
three_same a b x c d y e f g = cc

four_same : (a b x u c d y v : ℕ) → a ≡ c → b ≡ d → x ≡ y → u ≡ v → a ∷ (b ∷ (x ∷ (u ∷ []))) ≡ c ∷ (d ∷ (y ∷ (v ∷ [])))
four_same a b x u c d y v e f g h = cc

-- the only address of a large file with two levels below it is the last
large_two : (k : ℕ) → 2 ≤ levels Large k → k ≡ 7
large_two k deep = grind (arith, nat_tests)

-- an address of a large file has one or two levels below it
large_some : (k : ℕ) → (1 ≤ levels Large k) × (levels Large k ≤ 2)
large_some k = (grind (arith, nat_tests), grind (arith, nat_tests))

-- if an address of a large file has one level below it, it isn't the last
large_one : (k : ℕ) → k < 8 → levels Large k - 1 ≡ 0 → k < 7
large_one k low none = grind (arith, nat_tests)

-- the first logical block below the doubly indirect block of the seventh edition is block 138
deep_eleven : first_at Deep 11 ≡ 138
deep_eleven = refl

deep_twelve : first_at Deep 12 ≡ 16522
deep_twelve = refl

deep_low : (k : ℕ) → k < 11 → first_at Deep k ≡ k
deep_low k low = grind (arith, nat_tests)

-- a position in a large file's block map has at most three indexes minus the number of levels below it
large_long : (q : List ℕ) → IsPlace Large q → levels_below Large q + length q ≤ 3
large_long [] place = absurd place
large_long (k ∷ []) place = let few = large_some k in omega (arith, few.1)
large_long (j ∷ (a ∷ p)) place = let above = large_long (a ∷ p) place.2 in omega (arith, above, place.1)

-- a position in a seventh edition block map has at most four indexes minus the number of levels below it
deep_long : (q : List ℕ) → IsPlace Deep q → levels_below Deep q + length q ≤ 4
deep_long [] place = absurd place
deep_long (k ∷ []) place = omega (arith, place)
deep_long (j ∷ (a ∷ p)) place = let above = deep_long (a ∷ p) place.2 in omega (arith, above, place.1)

-- the first logical block at a position in the block map without a level below it is the one to which it points
pub first_leaf : (form : BlockMap) (q : List ℕ) → IsPlace form q → levels_below form q ≡ 0 → first_block form q ≡ leaf_block form q
first_leaf form [] place bottom = absurd place
first_leaf Small (k ∷ []) place bottom = refl
first_leaf Small (j ∷ (a ∷ p)) place bottom = let none = small_levels (a ∷ p) in absurd (omega (arith, place.1, none))
first_leaf Large (k ∷ []) place bottom = let some = large_some k in absurd (omega (arith, some.0, bottom))
first_leaf Large (r ∷ (a ∷ [])) place bottom = ap (λ d. 256 * a + r * 256 ^ d) bottom ∙ (omega arith)
first_leaf Large (r ∷ (a ∷ (k ∷ []))) place bottom =
    let is : k ≡ 7 = large_two k (omega (arith, place.1)) in
    let one : levels_below Large (a ∷ (k ∷ [])) ≡ 1 = ap (λ x. levels Large x - 1) is in
    let above : first_block Large (a ∷ (k ∷ [])) ≡ 256 * k + a * 256 = ap (λ d. 256 * k + a * 256 ^ d) one in
    ap (λ d. first_block Large (a ∷ (k ∷ [])) + r * 256 ^ d) bottom ∙ omega (arith, above, is)
first_leaf Large (x ∷ (r ∷ (a ∷ (k ∷ p)))) place bottom =
    let few = large_long (x ∷ (r ∷ (a ∷ (k ∷ p)))) place in absurd (omega (arith, few))
first_leaf Deep (k ∷ []) place bottom = deep_low k (omega (arith, bottom))
first_leaf Deep (r ∷ (k ∷ [])) place bottom =
    let is : k ≡ 10 = omega (arith, place.1, bottom) in
    let above : first_at Deep k ≡ 10 = ap (first_at Deep) is in
    ap (λ d. first_at Deep k + r * 128 ^ d) bottom ∙ omega (arith, above)
first_leaf Deep (r ∷ (a ∷ (k ∷ []))) place bottom =
    let is : k ≡ 11 = omega (arith, place.1, bottom) in
    let one : levels_below Deep (a ∷ (k ∷ [])) ≡ 1 = omega (arith, is) in
    let start : first_at Deep k ≡ 138 = ap (first_at Deep) is in
    let above : first_block Deep (a ∷ (k ∷ [])) ≡ 138 + a * 128 = ap (λ s. s + a * 128 ^ levels_below Deep (a ∷ (k ∷ []))) start ∙ ap (λ d. 138 + a * 128 ^ d) one in
    ap (λ d. first_block Deep (a ∷ (k ∷ [])) + r * 128 ^ d) bottom ∙ omega (arith, above)
first_leaf Deep (r ∷ (c ∷ (a ∷ (k ∷ [])))) place bottom =
    let is : k ≡ 12 = omega (arith, place.1, bottom, place.2.2.2) in
    let two : levels_below Deep (a ∷ (k ∷ [])) ≡ 2 = omega (arith, is) in
    let one : levels_below Deep (c ∷ (a ∷ (k ∷ []))) ≡ 1 = omega (arith, is) in
    let start : first_at Deep k ≡ 16522 = ap (first_at Deep) is in
    let high : first_block Deep (a ∷ (k ∷ [])) ≡ 16522 + a * 16384 = ap (λ s. s + a * 128 ^ levels_below Deep (a ∷ (k ∷ []))) start ∙ ap (λ d. 16522 + a * 128 ^ d) two in
    let above : first_block Deep (c ∷ (a ∷ (k ∷ []))) ≡ 16522 + a * 16384 + c * 128 =
    ap (λ s. s + c * 128 ^ levels_below Deep (c ∷ (a ∷ (k ∷ [])))) high ∙ ap (λ d. 16522 + a * 16384 + c * 128 ^ d) one in
    ap (λ d. first_block Deep (c ∷ (a ∷ (k ∷ []))) + r * 128 ^ d) bottom ∙ omega (arith, above)
first_leaf Deep (x ∷ (r ∷ (c ∷ (a ∷ (k ∷ p))))) place bottom =
    let few = deep_long (x ∷ (r ∷ (c ∷ (a ∷ (k ∷ p))))) place in absurd (omega (arith, few))
first_leaf Bare (k ∷ []) place bottom = refl
first_leaf Bare (j ∷ (a ∷ p)) place bottom = absurd (omega (arith, place.0))

-- if a file can have the logical block to which a position in the block map points, its path ends at that position
last_at : (form : BlockMap) (q : List ℕ) → IsPlace form q → levels_below form q ≡ 0 → leaf_block form q < block_limit form
    → last_place form (leaf_block form q) ≡ Some q
last_at form [] place bottom low = absurd place
last_at Small (k ∷ []) place bottom low = last_small k low
last_at Small (j ∷ (a ∷ p)) place bottom low = let none = small_levels (a ∷ p) in absurd (omega (arith, place.1, none))
last_at Large (k ∷ []) place bottom low = let some = large_some k in absurd (omega (arith, some.0, bottom))
last_at Large (r ∷ (a ∷ [])) place bottom low =
    let few : a < 7 = large_one a (omega (arith, place.2)) bottom in
    let b = 256 * a + r in
    last_large b (omega (arith, place.0)) ∙ ap Some (two_same (b % 256) (b / 256) r a (omega (arith, place.0)) (omega (arith, place.0)))
last_at Large (r ∷ (a ∷ (k ∷ []))) place bottom low =
    let is : k ≡ 7 = large_two k (omega (arith, place.1)) in
    let b = 1792 + (256 * a + r) in
    last_huge b (omega arith) low ∙ ap Some (three_same (b % 256) (b / 256 - 7) 7 r a k (omega (arith, place.0)) (omega (arith, place.0)) (sym is))
last_at Large (x ∷ (r ∷ (a ∷ (k ∷ p)))) place bottom low =
    let few = large_long (x ∷ (r ∷ (a ∷ (k ∷ p)))) place in absurd (omega (arith, few))
last_at Deep (k ∷ []) place bottom low = last_direct k (omega (arith, bottom))
last_at Deep (r ∷ (k ∷ [])) place bottom low =
    let is : k ≡ 10 = omega (arith, place.1, bottom) in
    let b = 10 + r in
    last_single b (omega arith) (omega (arith, place.0)) ∙ ap Some (two_same (b - 10) 10 r k (omega arith) (sym is))
last_at Deep (r ∷ (a ∷ (k ∷ []))) place bottom low =
    let is : k ≡ 11 = omega (arith, place.1, bottom) in
    let b = 138 + (128 * a + r) in
    last_double b (omega arith) (omega (arith, place.0, place.2.0))
    ∙ ap Some (three_same ((b - 138) % 128) ((b - 138) / 128) 11 r a k (omega (arith, place.0)) (omega (arith, place.0)) (sym is))
last_at Deep (r ∷ (c ∷ (a ∷ (k ∷ [])))) place bottom low =
    let is : k ≡ 12 = omega (arith, place.1, bottom, place.2.2.2) in
    let b = 16522 + (16384 * a + (128 * c + r)) in
    last_triple b (omega arith) low
    ∙ ap Some (four_same ((b - 16522) % 128) ((b - 16522) / 128 % 128) ((b - 16522) / 16384) 12 r c a k
    (omega (arith, place.0, place.2.0)) (omega (arith, place.0, place.2.0)) (omega (arith, place.0, place.2.0)) (sym is))
last_at Deep (x ∷ (r ∷ (c ∷ (a ∷ (k ∷ p))))) place bottom low =
    let few = deep_long (x ∷ (r ∷ (c ∷ (a ∷ (k ∷ p))))) place in absurd (omega (arith, few))
last_at Bare (k ∷ []) place bottom low = absurd (omega (arith, place))
last_at Bare (j ∷ (a ∷ p)) place bottom low = absurd (omega (arith, place.0))

-- a position in the block map without a level below it, at or below position `p`, with the same first logical block
record Bottom (form : BlockMap) (p : List ℕ) : Type 0 where
  leaf : List ℕ
  place : IsPlace form leaf
  bottom : levels_below form leaf ≡ 0
  front : IsFront p leaf
  same : first_block form leaf ≡ first_block form p

-- if entry 0 of a position in the block map has such a position, the position has it too
bottom_above : (form : BlockMap) (a : ℕ) (p : List ℕ) → Bottom form (0 ∷ (a ∷ p)) → Bottom form (a ∷ p)
bottom_above form a p next =
    let start : first_block form (0 ∷ (a ∷ p)) ≡ first_block form (a ∷ p) = omega arith in
    record {
      leaf = next.leaf;
      place = next.place;
      bottom = next.bottom;
      front = front_above next.leaf p 0 a next.front;
      same = next.same ∙ start;
    }

-- each position in the block map has a position without a level below it, with the same first logical block
bottom_of : (form : BlockMap) (d a : ℕ) (p : List ℕ) → IsPlace form (a ∷ p) → levels_below form (a ∷ p) ≡ d → Bottom form (a ∷ p)
bottom_of form zero a p place deep = record { leaf = a ∷ p; place = place; bottom = deep; front = inl refl; same = refl }
bottom_of form (suc d) a p place deep =
    let some = some_pointers form (a ∷ p) place in
    let entry : IsPlace form (0 ∷ (a ∷ p)) = (omega (arith, some), omega (arith, deep), place) in
    bottom_above form a p (bottom_of form d 0 (a ∷ p) entry (omega (arith, deep)))

-- a position in the block map is on the path of its first logical block
on_first : (form : BlockMap) (a : ℕ) (p : List ℕ) → IsPlace form (a ∷ p) → first_block form (a ∷ p) < block_limit form
    → list_any (bytes_eq (a ∷ p)) (way form (first_block form (a ∷ p))) ≡ true
on_first form a p place low =
    let q = bottom_of form (levels_below form (a ∷ p)) a p place refl in
    let block : leaf_block form q.leaf ≡ first_block form (a ∷ p) = sym (first_leaf form q.leaf q.place q.bottom) ∙ q.same in
    let end : last_place form (first_block form (a ∷ p)) ≡ Some q.leaf =
    ap (last_place form) (sym block) ∙ last_at form q.leaf q.place q.bottom (omega (arith, low, block)) in
    ap (list_any (bytes_eq (a ∷ p))) (way_is form (first_block form (a ∷ p)) q.leaf end) ∙ front_true q.leaf (a ∷ p) q.front

-- a position in the block map is on the path of no logical block before its first one
off_before : (form : BlockMap) (a : ℕ) (p : List ℕ) (b : ℕ) → b < first_block form (a ∷ p) → list_any (bytes_eq (a ∷ p)) (way form b) ≡ false
off_before form a p b low =
    elim (last_place form b) as (λ o. last_place form b ≡ o → list_any (bytes_eq (a ∷ p)) (way form b) ≡ false) [
      | None ↦ λ e. ap (λ o. list_any (bytes_eq (a ∷ p)) (option_map_or fronts o [])) e
      | Some q ↦ λ e.
          elim (list_any (bytes_eq (a ∷ p)) (way form b)) as (λ t. list_any (bytes_eq (a ∷ p)) (way form b) ≡ t → t ≡ false) [
            | false ↦ λ f. refl
            | true ↦ λ f.
                let front : IsFront (a ∷ p) q = has_front_is q (a ∷ p) (sym (ap (list_any (bytes_eq (a ∷ p))) (way_is form b q e)) ∙ f) in
                let leaf = last_leaf form b q e in
                let later = first_front form a p q front in
                let same = first_leaf form q leaf.place leaf.bottom in
                absurd (omega (arith, low, later, same, leaf.block))
          ] refl
    ] refl

-- a position in the block map on the path of no logical block of a range is not on the paths of the range
off_run : (form : BlockMap) (p : List ℕ) (a n : ℕ) → ((b : ℕ) → a ≤ b → b < a + n → list_any (bytes_eq p) (way form b) ≡ false)
    → is_on_ways form (range_with_len a n) p ≡ false
off_run form p a zero off = refl
off_run form p a (suc n) off =
    ap (λ t. t || is_on_ways form (range_with_len (a + 1) n) p) (off a (omega arith) (omega arith))
    ∙ off_run form p (a + 1) n (λ b from low. off b (omega arith) (omega arith))

-- a position in the block map is on the paths of the first `kept` logical blocks if and only if it isn't past them
kept_first : (form : BlockMap) (kept a : ℕ) (p : List ℕ) → IsPlace form (a ∷ p) → kept ≤ block_limit form
    → is_on_ways form (range_with_len 0 kept) (a ∷ p) ≡ not (is_past form kept (a ∷ p))
kept_first form kept a p place few =
    elim (cases_lt (first_block form (a ∷ p)) kept) [
      | inl low ↦
          let same : 0 + first_block form (a ∷ p) ≡ first_block form (a ∷ p) = omega arith in
          is_on_at form (a ∷ p) 0 kept (first_block form (a ∷ p)) low
          (ap (λ b. list_any (bytes_eq (a ∷ p)) (way form b)) same ∙ on_first form a p place (omega (arith, low, few)))
          ∙ sym (ap not (past_false form kept (a ∷ p) low))
      | inr past ↦
          off_run form (a ∷ p) 0 kept (λ b from low. off_before form a p b (omega (arith, low, past)))
          ∙ sym (ap not (past_true form kept (a ∷ p) past))
    ]

-- a position in the block map is kept if and only if it isn't past the blocks kept by a truncation
pub kept_is : (form : BlockMap) (left : ℕ) (p : List ℕ) → IsPlace form p → whole_blocks left ≤ block_limit form
    → is_kept form left p ≡ not (is_past form (whole_blocks left) p)
kept_is form left [] place few = absurd place
kept_is form left (a ∷ p) place few = kept_first form (whole_blocks left) a p place few

-- two tests that agree on the items of a list filter it in the same way
filter_same : (f g : List ℕ → Bool) (ps : List (List ℕ)) → ((p : List ℕ) → IsAmong p ps → f p ≡ g p) → filter f ps ≡ filter g ps
filter_same f g [] same = refl
filter_same f g (p ∷ ps) same =
    ap (λ t. cond t (p ∷ filter f ps) (filter f ps)) (same p (inl refl))
    ∙ ap (λ xs. cond (g p) (p ∷ xs) xs) (filter_same f g ps (λ q among. same q (inr among)))

-- the negation of a negation is the value itself
not_not : (t : Bool) → not (not t) ≡ t
not_not true = refl
not_not false = refl

-- the blocks freed by a truncation are those at positions in the block map past the blocks kept by a truncation
pub past_list : (geometry : Geometry) (image : List ℕ) (i left : ℕ) → whole_blocks left ≤ block_limit (form_at geometry image i)
    → blocks_at geometry image i (filter (is_past (form_at geometry image i) (whole_blocks left)) (places (form_at geometry image i)))
    ≡ blocks_past geometry image i left
unfolding blocks_past blocks_at
past_list geometry image i left few =
    let form = form_at geometry image i in
    ap (λ ps. blocks_at geometry image i ps)
    (filter_same (is_past form (whole_blocks left)) (λ p. not (is_kept form left p)) (places form)
    (λ p among. sym (ap not (kept_is form left p (among_places form p among) few) ∙ not_not (is_past form (whole_blocks left) p))))
