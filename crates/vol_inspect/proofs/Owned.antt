-- The first block-map position that points to a block.
use Rattle.std.proofs.Common.{◌≡◌, ◌≢◌, ℕ, zero, suc, ◌+◌, ◌-◌, ◌*◌, ◌^◌, ◌<◌, ◌≤◌, ◌∙◌, sym, ap, Bool, true, false, true≢false, cond, inl, inr, List, [], ◌∷◌, Option, None, Some, refl, arith, length, get_or, set, replicate, eq-eqb}
use Rattle.std.proofs.lemmas.Bool.{cases_eq, ne_eqb}
use Rattle.std.proofs.lemmas.List.{get_or-set_other, length-set, length-replicate}
use Rattle.std.specs.List.{find, flat_map, range_with_len}
use Rattle.std.specs.Option.{is_some}
use Rattle.vol_layout.specs.Edition.{constants}
use Rattle.vol_layout.specs.Geometry.{in_zone}
use Rattle.vol_layout.specs.BlockPointers.{form_at, pointer_in}
use Rattle.vol_layout.specs.BlockMaps.{first_count}
use Rattle.vol_layout.specs.declared.geometry.Geometry.{Geometry}
use Rattle.vol_inspect.specs.declared.extent.Extent.{Extent}
use Rattle.vol_inspect.specs.Extents.{single, holdings_from, address_holdings, holdings}
use Rattle.vol_inspect.specs.Owners.{AreDead, is_block}
use Rattle.vol_inspect.proofs.Finds.{found_more, found_stops}
use Rattle.vol_inspect.proofs.Gatherings.{entries_before, addresses_before, addresses_all, hold_zero, hold_leaf, hold_entries, hold_outside}

module _ (g : Geometry) (image : List ℕ) (b : ℕ) where
  -- a search skips any other block
  past : (m d logical : ℕ) (rest : List Extent) → m ≢ b → find (is_block b) (single g d logical m ∷ rest) ≡ find (is_block b) rest
  past m d logical rest other = ap (λ t. cond t (Some (single g d logical m)) (find (is_block b) rest)) (ne_eqb m b other)

  -- a search finds the block itself
  at : (m d logical : ℕ) (rest : List Extent) → m ≡ b → find (is_block b) (single g d logical m ∷ rest) ≡ Some (single g d logical m)
  at m d logical rest same = ap (λ t. cond t (Some (single g d logical m)) (find (is_block b) rest)) (eq-eqb m b same)

  -- if the number is the block, its position is the first
  pub found_here : (m d logical : ℕ) → m ≡ b → m ≢ 0 → find (is_block b) (holdings_from g image d logical m) ≡ Some (single g d logical m)
  found_here m d logical same some = elim (cases_eq d 0) [
    | inl leaf ↦ ap (find (is_block b)) (hold_leaf g image d logical m some leaf) ∙ at m d logical [] same
    | inr deep ↦ ap (find (is_block b)) (hold_entries g image d logical m some (omega (arith, deep)))
        ∙ at m d logical (entries_before g image (d - 1) logical m (constants g.edition).pointers) same
  ]

  -- another block without levels below it doesn't lead to the block
  pub none_leaf : (m d logical : ℕ) → m ≢ b → d ≡ 0 → find (is_block b) (holdings_from g image d logical m) ≡ None
  none_leaf m d logical other leaf = elim (cases_eq m 0) [
    | inl nothing ↦ ap (find (is_block b)) (hold_zero g image d logical m nothing)
    | inr some ↦ ap (find (is_block b)) (hold_leaf g image d logical m some leaf) ∙ past m d logical [] other
  ]

  -- a number outside the data blocks, other than the block itself, doesn't lead to the block
  pub none_outside : (m d logical : ℕ) → m ≢ b → 1 ≤ d → in_zone g m ≡ false → find (is_block b) (holdings_from g image d logical m) ≡ None
  none_outside m d logical other deep out = elim (cases_eq m 0) [
    | inl nothing ↦ ap (find (is_block b)) (hold_zero g image d logical m nothing)
    | inr some ↦ ap (find (is_block b)) (hold_outside g image d logical m some deep out) ∙ past m d logical [] other
  ]

  -- the first position that points to the block is at or below the first entry that leads to it
  pub stops : (m d logical j there n : ℕ) (e : Extent) → m ≢ b → m ≢ 0 → 1 ≤ d → j < (constants g.edition).pointers
      → logical + j * (constants g.edition).pointers ^ (d - 1) ≡ there → pointer_in g image m j ≡ n
      → find (is_block b) (entries_before g image (d - 1) logical m j) ≡ None → find (is_block b) (holdings_from g image (d - 1) there n) ≡ Some e
      → find (is_block b) (holdings_from g image d logical m) ≡ Some e
  unfolding entries_before
  stops m d logical j there n e other some deep less is names none found =
      let f = λ (j : ℕ). holdings_from g image (d - 1) (logical + j * (constants g.edition).pointers ^ (d - 1)) (pointer_in g image m j) in
      ap (find (is_block b)) (hold_entries g image d logical m some deep)
      ∙ (past m d logical (flat_map f (range_with_len 0 (constants g.edition).pointers)) other
      ∙ found_stops (is_block b) f 0 j j (constants g.edition).pointers e (omega arith) less none
      ((λ i. find (is_block b) (holdings_from g image (d - 1) (is i) (names i))) ∙ found))

  -- if the entries before `j` and entry `j` don't lead to the block, neither do the entries before `j` + 1
  pub passes : (m d logical j there n : ℕ) → logical + j * (constants g.edition).pointers ^ d ≡ there → pointer_in g image m j ≡ n
      → find (is_block b) (entries_before g image d logical m j) ≡ None → find (is_block b) (holdings_from g image d there n) ≡ None
      → find (is_block b) (entries_before g image d logical m (j + 1)) ≡ None
  unfolding entries_before
  passes m d logical j there n is names none last =
      let f = λ (j : ℕ). holdings_from g image d (logical + j * (constants g.edition).pointers ^ d) (pointer_in g image m j) in
      found_more (is_block b) f 0 j j (j + 1) None (omega arith) refl none ((λ i. find (is_block b) (holdings_from g image d (is i) (names i))) ∙ last)

  -- if no entry leads to the block, there is no position below
  pub none_below : (m d logical : ℕ) → m ≢ b → m ≢ 0 → 1 ≤ d
      → find (is_block b) (entries_before g image (d - 1) logical m (constants g.edition).pointers) ≡ None
      → find (is_block b) (holdings_from g image d logical m) ≡ None
  none_below m d logical other some deep none =
      ap (find (is_block b)) (hold_entries g image d logical m some deep)
      ∙ (past m d logical (entries_before g image (d - 1) logical m (constants g.edition).pointers) other ∙ none)

  -- the first position that points to the block is at or below the first address that leads to it
  pub node_stops : (i k : ℕ) (e : Extent) → k < first_count (form_at g image i) → find (is_block b) (addresses_before g image i k) ≡ None
      → find (is_block b) (address_holdings g image i k) ≡ Some e → find (is_block b) (holdings g image i) ≡ Some e
  unfolding addresses_before holdings
  node_stops i k e less none found = found_stops (is_block b) (address_holdings g image i) 0 k k (first_count (form_at g image i)) e (omega arith) less none found

  -- if the addresses before `k` and address `k` don't lead to the block, neither do the addresses before `k` + 1
  pub node_passes : (i k : ℕ) → find (is_block b) (addresses_before g image i k) ≡ None → find (is_block b) (address_holdings g image i k) ≡ None
      → find (is_block b) (addresses_before g image i (k + 1)) ≡ None
  unfolding addresses_before
  node_passes i k none last = found_more (is_block b) (address_holdings g image i) 0 k k (k + 1) None (omega arith) refl none last

  -- the result of the first entry's search that finds the block is the result of the whole search
  pub stops_with : (m d logical j there n : ℕ) (found : Option Extent) → is_some found ≡ true → m ≢ b → m ≢ 0 → 1 ≤ d → j < (constants g.edition).pointers
      → logical + j * (constants g.edition).pointers ^ (d - 1) ≡ there → pointer_in g image m j ≡ n
      → find (is_block b) (entries_before g image (d - 1) logical m j) ≡ None → found ≡ find (is_block b) (holdings_from g image (d - 1) there n)
      → found ≡ find (is_block b) (holdings_from g image d logical m)
  stops_with m d logical j there n None is other some deep less at names none found = absurd (true≢false (sym is))
  stops_with m d logical j there n (Some e) is other some deep less at names none found =
      sym (stops m d logical j there n e other some deep less at names none (sym found))

  -- the result of the first address's search that finds the block is the result of the whole search
  pub node_stops_with : (i k : ℕ) (found : Option Extent) → is_some found ≡ true → k < first_count (form_at g image i)
      → find (is_block b) (addresses_before g image i k) ≡ None → found ≡ find (is_block b) (address_holdings g image i k)
      → found ≡ find (is_block b) (holdings g image i)
  node_stops_with i k None is less none found = absurd (true≢false (sym is))
  node_stops_with i k (Some e) is less none found = sym (node_stops i k e less none (sym found))

  -- if no address leads to the block, the whole search finds nothing
  pub node_none : (i k : ℕ) → k ≡ first_count (form_at g image i) → find (is_block b) (addresses_before g image i k) ≡ None
      → None ≡ find (is_block b) (holdings g image i)
  node_none i k end none = sym (sym (ap (find (is_block b)) (ap (addresses_before g image i) end ∙ addresses_all g image i)) ∙ none)

  -- marking a block that doesn't lead to `b` keeps the marks right
  pub marked : (dead : List Bool) (m d at : ℕ) → AreDead g image b dead → at ≡ 4 * m + d → d ≤ 3
      → ((logical : ℕ) → find (is_block b) (holdings_from g image d logical m) ≡ None) → AreDead g image b (set dead at true)
  marked dead m d at were is few none = record {
    len = length-set dead at true ∙ were.len;
    none = λ n e logical zone small there. elim (cases_eq at (4 * n + e)) [
      | inl same ↦
          let block : m ≡ n = omega (arith, same, is, few, small) in
          let level : d ≡ e = omega (arith, same, is, few, small) in
          (λ i. find (is_block b) (holdings_from g image (sym level i) logical (sym block i))) ∙ none logical
      | inr other ↦ were.none n e logical zone small (sym (get_or-set_other dead at (4 * n + e) true false (λ s. other (sym s))) ∙ there)
    ];
  }

-- a search result that isn't `Some` is `None`
pub none_found : {A : Type 0} (found : Option A) → is_some found ≡ false → found ≡ None
none_found None is = refl
none_found (Some x) is = absurd (true≢false is)

-- an element of a list of false is false
pub clear : (n b : ℕ) → get_or (replicate n false) b false ≡ false
clear zero b = refl
clear (suc n) zero = refl
clear (suc n) (suc b) = clear n b

-- before any mark is set, the marks are right
pub none_dead : (g : Geometry) (image : List ℕ) (b : ℕ) (dead : List Bool) → dead ≡ replicate (4 * g.zone_end) false → AreDead g image b dead
none_dead g image b dead blank = record {
  len = ap length blank ∙ length-replicate (4 * g.zone_end) false;
  none = λ m d logical zone few is. absurd (true≢false (sym is ∙ (ap (λ ms. get_or ms (4 * m + d) false) blank ∙ clear (4 * g.zone_end) (4 * m + d))));
}
