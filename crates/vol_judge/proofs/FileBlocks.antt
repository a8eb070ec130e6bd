-- The blocks of a file, address by address.
use Rattle.std.proofs.Common.{◌≡◌, ℕ, zero, suc, ◌+◌, ◌-◌, ◌<◌, ◌≤◌, ◌∙◌, sym, ap, List, [], ◌∷◌, ◌++◌, refl, arith, inl, inr, Some, Option}
use Rattle.std.proofs.lemmas.Bool.{cases_eq}
use Rattle.std.specs.List.{flat_map, range_with_len}
use Rattle.vol_layout.specs.Edition.{constants}
use Rattle.vol_layout.specs.Geometry.{in_zone, Fits}
use Rattle.vol_layout.specs.Inode.{inode_place, address_at}
use Rattle.vol_layout.specs.Laws.{IsFront}
use Rattle.vol_layout.specs.BlockMaps.{first_count, pointer_count, levels, places_from, places}
use Rattle.vol_layout.specs.BlockPointers.{form_at, named, pointer_in}
use Rattle.vol_layout.specs.declared.geometry.Geometry.{Geometry}
use Rattle.vol_layout.proofs.NameLaws.{zero_out, named_past}
use Rattle.vol_file.specs.Changes.{blocks_of}
use Rattle.vol_file.specs.Clears.{blocks_at}
use Rattle.vol_file.proofs.BlockLists.{at_nil, at_append, at_some, from_none}
use Rattle.vol_file.proofs.Nodes.{pointers_file}
use Rattle.vol_judge.specs.Marks.{blocks_from, marked}
use Rattle.vol_judge.proofs.BlocksFrom.{from_zero, from_leaf, entries_from, from_entries}
use Rattle.vol_judge.proofs.MarkLists.{marked_none, marked_more}
use Rattle.vol_judge.proofs.ZonedFiles.{file_counted}

-- the blocks of a file are the blocks at the positions of its block map
pub blocks_at_all : (geometry : Geometry) (image : List ℕ) (i : ℕ) → blocks_of geometry image i ≡ blocks_at geometry image i (places (form_at geometry image i))
unfolding blocks_of blocks_at
blocks_at_all geometry image i = refl

-- the blocks at several lists of positions are the blocks at each list, in order
at_flat : (geometry : Geometry) (image : List ℕ) (i : ℕ) (places_by : ℕ → List (List ℕ)) (blocks_by : ℕ → List ℕ) (js : List ℕ)
    → ((j : ℕ) → blocks_at geometry image i (places_by j) ≡ blocks_by j)
    → blocks_at geometry image i (flat_map places_by js) ≡ flat_map blocks_by js
at_flat geometry image i places_by blocks_by [] same = at_nil geometry image i
at_flat geometry image i places_by blocks_by (j ∷ js) same =
    at_append geometry image i (places_by j) (flat_map places_by js)
    ∙ (ap (λ xs. xs ++ blocks_at geometry image i (flat_map places_by js)) (same j)
    ∙ ap (λ xs. blocks_by j ++ xs) (at_flat geometry image i places_by blocks_by js same))

-- if the address at a position is 0, the addresses below it are 0 too
zero_under : (geometry : Geometry) (image : List ℕ) (i a : ℕ) (p q : List ℕ) → Fits geometry image → named geometry image i (a ∷ p) ≡ 0
    → IsFront (a ∷ p) q → named geometry image i q ≡ 0
zero_under geometry image i a p [] fits none front = absurd front
zero_under geometry image i a p (x ∷ q) fits none (inl e) = ap (named geometry image i) (sym e) ∙ none
zero_under geometry image i a p (x ∷ q) fits none (inr front) =
    named_past geometry image i x q (a ∷ p) fits front (ap (in_zone geometry) none ∙ zero_out geometry image fits)

-- the blocks at a position and below it are the block of its address and the blocks below that
pub at_from : (geometry : Geometry) (image : List ℕ) (i n d a : ℕ) (p : List ℕ) → Fits geometry image → n ≡ (constants geometry.edition).pointers
    → blocks_at geometry image i (places_from n (a ∷ p) d) ≡ blocks_from geometry image d (named geometry image i (a ∷ p))
unfolding entries_from
at_from geometry image i n zero a p fits many =
    let b = named geometry image i (a ∷ p) in
    elim (cases_eq b 0) [
      | inl none ↦
          from_none geometry image i n zero a p (λ q front. zero_under geometry image i a p q fits none front)
          ∙ sym (ap (blocks_from geometry image 0) none ∙ from_zero geometry image 0)
      | inr some ↦
          at_some geometry image i b (a ∷ p) [] refl some
          ∙ (ap (λ xs. b ∷ xs) (at_nil geometry image i) ∙ sym (from_leaf geometry image b some))
    ]
at_from geometry image i n (suc d) a p fits many =
    let b = named geometry image i (a ∷ p) in
    elim (cases_eq b 0) [
      | inl none ↦
          from_none geometry image i n (suc d) a p (λ q front. zero_under geometry image i a p q fits none front)
          ∙ sym (ap (blocks_from geometry image (suc d)) none ∙ from_zero geometry image (suc d))
      | inr some ↦
          let less : suc d - 1 ≡ d = omega arith in
          at_some geometry image i b (a ∷ p) (flat_map (λ j. places_from n (j ∷ (a ∷ p)) d) (range_with_len 0 n)) refl some
          ∙ (ap (λ xs. b ∷ xs)
          (at_flat geometry image i (λ j. places_from n (j ∷ (a ∷ p)) d) (λ j. blocks_from geometry image d (pointer_in geometry image b j)) (range_with_len 0 n)
          (λ j. at_from geometry image i n d j (a ∷ p) fits many))
          ∙ (ap (λ x. b ∷ entries_from geometry image d b x) many
          ∙ (ap (λ x. b ∷ entries_from geometry image x b (constants geometry.edition).pointers) (sym less)
          ∙ sym (from_entries geometry image (suc d) b some (omega arith)))))
    ]

-- the blocks at and below address k of i-node i
abbrev pub address_blocks : Geometry → List ℕ → ℕ → ℕ → List ℕ
address_blocks geometry image i k =
    blocks_from geometry image (levels (form_at geometry image i) k) (address_at geometry.edition image (inode_place geometry.edition i) k)

-- the blocks at and below the first n addresses of i-node i
unfoldable pub addresses_from : Geometry → List ℕ → ℕ → ℕ → List ℕ
addresses_from geometry image i n = flat_map (address_blocks geometry image i) (range_with_len 0 n)

-- flat maps of equal functions over a range are equal
flat_equal : (f g : ℕ → List ℕ) (a n : ℕ) → ((j : ℕ) → a ≤ j → j < a + n → f j ≡ g j) → flat_map f (range_with_len a n) ≡ flat_map g (range_with_len a n)
flat_equal f g a zero same = refl
flat_equal f g a (suc n) same =
    ap (λ xs. xs ++ flat_map f (range_with_len (a + 1) n)) (same a (omega arith) (omega arith))
    ∙ ap (λ xs. g a ++ xs) (flat_equal f g (a + 1) n (λ j low high. same j (omega arith) (omega arith)))

-- the blocks of a file are those at and below all its addresses
pub blocks_by_address : (geometry : Geometry) (image : List ℕ) (i : ℕ) → Fits geometry image → 1 ≤ i → i ≤ geometry.last_inode
    → blocks_of geometry image i ≡ addresses_from geometry image i (first_count (form_at geometry image i))
unfolding addresses_from places
blocks_by_address geometry image i fits first last =
    let form = form_at geometry image i in
    blocks_at_all geometry image i
    ∙ (at_flat geometry image i (λ k. places_from (pointer_count form) (k ∷ []) (levels form k))
    (λ k. blocks_at geometry image i (places_from (pointer_count form) (k ∷ []) (levels form k))) (range_with_len 0 (first_count form)) (λ k. refl)
    ∙ flat_equal (λ k. blocks_at geometry image i (places_from (pointer_count form) (k ∷ []) (levels form k))) (address_blocks geometry image i) 0 (first_count form)
    (λ k low high. at_from geometry image i (pointer_count form) (levels form k) k [] fits
    (pointers_file geometry image i (file_counted geometry image i k first last (omega (arith, high))))))

-- marking the blocks of no addresses changes no mark
pub addresses_none : (geometry : Geometry) (image : List ℕ) (i : ℕ) (marks : List ℕ) → marked marks (addresses_from geometry image i 0) ≡ Some marks
unfolding addresses_from
addresses_none geometry image i marks = marked_none marks

-- marking the blocks of the first k addresses and then of address k marks the blocks of the first k + 1 addresses
pub addresses_more : (geometry : Geometry) (image : List ℕ) (i k n : ℕ) (marks mid : List ℕ) (end : Option (List ℕ)) → k + 1 ≡ n
    → marked marks (addresses_from geometry image i k) ≡ Some mid → marked mid (address_blocks geometry image i k) ≡ end
    → marked marks (addresses_from geometry image i n) ≡ end
unfolding addresses_from
addresses_more geometry image i k n marks mid end next done last =
    let at : 0 + k ≡ k = omega arith in
    marked_more (address_blocks geometry image i) 0 k k n marks mid end at next done last
