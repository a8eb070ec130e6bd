-- Laws of `first_outside`: the first address outside the data zone.
use Rattle.std.proofs.Common.{◌≡◌, ◌≢◌, ℕ, zero, suc, ◌+◌, ◌-◌, ◌<◌, ◌≤◌, ◌∙◌, sym, ap, subst, not, true, false, inl, inr, List, [], ◌∷◌, Option, None, Some, refl, arith}
use Rattle.std.proofs.lemmas.Bool.{cases_eq, cases_Bool}
use Rattle.std.proofs.lemmas.Option.{none-some}
use Rattle.vol_layout.specs.Edition.{constants}
use Rattle.vol_layout.specs.Geometry.{in_zone, Fits}
use Rattle.vol_layout.specs.BlockMaps.{places}
use Rattle.vol_layout.specs.BlockPointers.{form_at, pointer_in, named}
use Rattle.vol_layout.specs.declared.geometry.Geometry.{Geometry}
use Rattle.vol_free.specs.Stack.{IsIn}
use Rattle.vol_file.specs.Rules.{IsZoned}
use Rattle.vol_file.specs.Changes.{blocks_of}
use Rattle.vol_file.proofs.PlaceLists.{places_among}
use Rattle.vol_judge.specs.Marks.{IsInside, IsFileZoned, blocks_from}
use Rattle.vol_judge.proofs.AllBlocks.{all_zoned}
use Rattle.vol_judge.proofs.BlocksFrom.{from_zero, from_leaf, from_suc, from_entries, entries_from}
use Rattle.vol_judge.proofs.FileBlocks.{address_blocks, addresses_from, blocks_at_all}
use Rattle.vol_judge.proofs.Insides.{inside_zero}
use Rattle.vol_judge.proofs.NamedOnce.{at_in, flat_in}
use Rattle.vol_judge.specs.OutsideBlocks.{first_outside}
use Rattle.vol_judge.proofs.Searches.{find_here, find_past, find_none, find_more, find_stops, find_each, find_flat}

module _ (g : Geometry) where
  -- `first_outside` passes over a data block
  pub passed : (b : ℕ) (rest : List ℕ) → in_zone g b ≡ true → first_outside g (b ∷ rest) ≡ first_outside g rest
  passed b rest zone = find_past (λ k. not (in_zone g k)) b rest (ap not zone)

  -- if the first address is outside the data zone, `first_outside` returns it
  pub found : (b : ℕ) (rest : List ℕ) → in_zone g b ≡ false → first_outside g (b ∷ rest) ≡ Some b
  found b rest out = find_here (λ k. not (in_zone g k)) b rest (ap not out)

  -- if `first_outside` finds nothing, the first address is a data block, and it finds nothing in the rest
  pub kept : (b : ℕ) (rest : List ℕ) → first_outside g (b ∷ rest) ≡ None → (in_zone g b ≡ true) × (first_outside g rest ≡ None)
  kept b rest none =
      let parts = find_none (λ k. not (in_zone g k)) b rest none in
      elim (cases_Bool (in_zone g b)) [
        | inl zone ↦ (zone, parts.1)
        | inr out ↦ absurd (let there : not (in_zone g b) ≡ true = ap not out in let none-there = parts.0 in cc)
      ]

  -- if `first_outside` finds nothing, each address is a data block
  pub all_kept : (xs : List ℕ) (b : ℕ) → first_outside g xs ≡ None → IsIn b xs → in_zone g b ≡ true
  unfolding IsIn
  all_kept [] b none among = absurd among
  all_kept (x ∷ xs) b none (inl same) = ap (in_zone g) same ∙ (kept x xs none).0
  all_kept (x ∷ xs) b none (inr later) = all_kept xs b (kept x xs none).1 later

  -- the address that `first_outside` finds is in the list, and isn't a data block
  pub found_in : (xs : List ℕ) (b : ℕ) → first_outside g xs ≡ Some b → IsIn b xs × (in_zone g b ≡ false)
  unfolding IsIn
  found_in [] b some = absurd (none-some b some)
  found_in (x ∷ xs) b some = elim (cases_Bool (in_zone g x)) [
    | inl zone ↦ let later = found_in xs b (sym (passed x xs zone) ∙ some) in (inr later.0, later.1)
    | inr out ↦
        let both : Some x ≡ Some b = sym (found x xs out) ∙ some in
        let same : x ≡ b = cc in
        (inl (sym same), sym (ap (in_zone g) same) ∙ out)
  ]

  module _ (image : List ℕ) where
    -- `first_outside` finds nothing at and below address 0
    pub out_zero : (d b : ℕ) → b ≡ 0 → first_outside g (blocks_from g image d b) ≡ None
    out_zero d b none = ap (λ x. first_outside g (blocks_from g image d x)) none ∙ ap (first_outside g) (from_zero g image d)

    -- if b is outside the data zone, it is the first outside address at and below b
    pub out_here : (d b : ℕ) → b ≢ 0 → in_zone g b ≡ false → first_outside g (blocks_from g image d b) ≡ Some b
    out_here zero b some out = ap (first_outside g) (from_leaf g image b some) ∙ found b [] out
    out_here (suc d) b some out =
        ap (first_outside g) (from_suc g image d b some) ∙ found b (entries_from g image d b (constants g.edition).pointers) out

    -- if b is a data block, the first outside address at and below b is the first outside address of its entries
    pub out_below : (d b : ℕ) → b ≢ 0 → 1 ≤ d → in_zone g b ≡ true
        → first_outside g (blocks_from g image d b) ≡ first_outside g (entries_from g image (d - 1) b (constants g.edition).pointers)
    out_below d b some one zone =
        ap (first_outside g) (from_entries g image d b some one) ∙ passed b (entries_from g image (d - 1) b (constants g.edition).pointers) zone

    -- among no entries there is no outside address
    pub entries_start : (d b : ℕ) → first_outside g (entries_from g image d b 0) ≡ None
    unfolding entries_from
    entries_start d b = refl

    -- if the entries before j have no outside address, the first outside address up to entry j is the first at and below entry j
    pub entries_next : (d b j m : ℕ) (end : Option ℕ) → m ≡ j + 1 → first_outside g (entries_from g image d b j) ≡ None
        → first_outside g (blocks_from g image d (pointer_in g image b j)) ≡ end → first_outside g (entries_from g image d b m) ≡ end
    unfolding entries_from
    entries_next d b j m end size none last =
        find_more (λ k. not (in_zone g k)) (λ j. blocks_from g image d (pointer_in g image b j)) 0 j j m end (omega arith) size none last

    -- if the entries before j have no outside address, the first outside address at and below entry j is the first of all entries
    pub entries_stop : (d b j n x : ℕ) → j < n → first_outside g (entries_from g image d b j) ≡ None
        → first_outside g (blocks_from g image d (pointer_in g image b j)) ≡ Some x → first_outside g (entries_from g image d b n) ≡ Some x
    unfolding entries_from
    entries_stop d b j n x less none some =
        find_stops (λ k. not (in_zone g k)) (λ j. blocks_from g image d (pointer_in g image b j)) 0 j j n x (omega arith) less none some

    -- entries that are 0 have no outside address
    pub entries_zeros : (d b j n m : ℕ) → j + n ≡ m → ((x : ℕ) → j ≤ x → x < m → pointer_in g image b x ≡ 0)
        → first_outside g (entries_from g image d b j) ≡ None → first_outside g (entries_from g image d b m) ≡ None
    entries_zeros d b j zero m size zeros none =
        let same : m ≡ j = omega arith in ap (λ x. first_outside g (entries_from g image d b x)) same ∙ none
    entries_zeros d b j (suc n) m size zeros none =
        let before = entries_zeros d b j n (j + n) refl (λ x low high. zeros x low (omega arith)) none in
        entries_next d b (j + n) m None (omega arith) before
        (out_zero d (pointer_in g image b (j + n)) (zeros (j + n) (omega arith) (omega arith)))

    -- if `first_outside` finds nothing at and below b, all addresses there are in the data zone
    pub none_inside : (d b : ℕ) → Fits g image → first_outside g (blocks_from g image d b) ≡ None → IsInside g image d b
    unfolding IsInside entries_from
    none_inside zero b fits none = λ some. (kept b [] (sym (ap (first_outside g) (from_leaf g image b some)) ∙ none)).0
    none_inside (suc d) b fits none = elim (cases_eq b 0) [
      | inl zero-there ↦ subst (IsInside g image (suc d)) (sym zero-there) (inside_zero g image (suc d) fits)
      | inr some ↦
          let parts = kept b (entries_from g image d b (constants g.edition).pointers) (sym (ap (first_outside g) (from_suc g image d b some)) ∙ none) in (
            λ some. parts.0,
            λ j h.
                none_inside d (pointer_in g image b j) fits
                (find_each (λ k. not (in_zone g k)) (λ j. blocks_from g image d (pointer_in g image b j)) 0 (constants g.edition).pointers parts.1 j
                (omega arith) (omega (arith, h))),
          )
    ]

    -- if all addresses at and below b are in the data zone, `first_outside` finds nothing there
    pub inside_none : (d b : ℕ) → IsInside g image d b → first_outside g (blocks_from g image d b) ≡ None
    unfolding IsInside entries_from
    inside_none zero b inside = elim (cases_eq b 0) [
      | inl none ↦ out_zero 0 b none
      | inr some ↦ ap (first_outside g) (from_leaf g image b some) ∙ passed b [] (inside some)
    ]
    inside_none (suc d) b inside = elim (cases_eq b 0) [
      | inl none ↦ out_zero (suc d) b none
      | inr some ↦
          ap (first_outside g) (from_suc g image d b some)
          ∙ (passed b (entries_from g image d b (constants g.edition).pointers) (inside.0 some)
          ∙ find_flat (λ k. not (in_zone g k)) (λ j. blocks_from g image d (pointer_in g image b j)) 0 (constants g.edition).pointers
          (λ j low high. inside_none d (pointer_in g image b j) (inside.1 j (omega (arith, high)))))
    ]

    -- among no addresses there is no outside address
    pub addresses_start : (i : ℕ) → first_outside g (addresses_from g image i 0) ≡ None
    unfolding addresses_from
    addresses_start i = refl

    -- if the addresses before k have no outside address below them, the first outside address up to address k is the first at and below address k
    pub addresses_next : (i k m : ℕ) (end : Option ℕ) → m ≡ k + 1 → first_outside g (addresses_from g image i k) ≡ None
        → first_outside g (address_blocks g image i k) ≡ end → first_outside g (addresses_from g image i m) ≡ end
    unfolding addresses_from
    addresses_next i k m end size none last = find_more (λ k. not (in_zone g k)) (address_blocks g image i) 0 k k m end (omega arith) size none last

    -- if the addresses before k have no outside address below them, the first outside address at and below address k is the first of all addresses
    pub addresses_stop : (i k n x : ℕ) → k < n → first_outside g (addresses_from g image i k) ≡ None
        → first_outside g (address_blocks g image i k) ≡ Some x → first_outside g (addresses_from g image i n) ≡ Some x
    unfolding addresses_from
    addresses_stop i k n x less none some = find_stops (λ k. not (in_zone g k)) (address_blocks g image i) 0 k k n x (omega arith) less none some

    -- if no address of file i is outside the data zone, the file keeps rule 5
    pub file_none : (i : ℕ) → first_outside g (blocks_of g image i) ≡ None → IsFileZoned g image i
    file_none i none p place some =
        all_kept (blocks_of g image i) (named g image i p) none
        (subst (IsIn (named g image i p)) (sym (blocks_at_all g image i))
        (at_in g image i p (places (form_at g image i)) (places_among (form_at g image i) p place.place) some))

    -- if an address of file i is outside the data zone, rule 5 fails
    pub file_some : (i x : ℕ) → 1 ≤ i → i ≤ g.last_inode → first_outside g (blocks_of g image i) ≡ Some x → IsZoned g image → ⊥
    file_some i x first last some zoned =
        let there = found_in (blocks_of g image i) x some in
        let zone : in_zone g x ≡ true = all_zoned g image x zoned (flat_in (blocks_of g image) x 1 g.last_inode i first (omega arith) there.0) in
        let out = there.1 in absurd (cc)

    -- if the files before n and file n keep rule 5, the files up to n keep it
    pub files_next : (n : ℕ) → ((j : ℕ) → 1 ≤ j → j < n → IsFileZoned g image j) → IsFileZoned g image n
        → (j : ℕ) → 1 ≤ j → j < n + 1 → IsFileZoned g image j
    files_next n before here j first less = elim (cases_eq n j) [
      | inl same ↦ subst (IsFileZoned g image) same here
      | inr other ↦ before j first (omega arith)
    ]

    -- if all files up to the last i-number keep rule 5, rule 5 holds
    pub files_hold : (n : ℕ) → g.last_inode < n → ((j : ℕ) → 1 ≤ j → j < n → IsFileZoned g image j) → IsZoned g image
    files_hold n after each i p place some = each i place.file.first (omega (arith, place.file.last)) p place some
