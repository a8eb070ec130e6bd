-- In a sound image the length of the free list is the number of free blocks computed from the shapes.
use Rattle.std.proofs.Common.{◌≡◌, ◌≢◌, ℕ, zero, suc, ◌+◌, ◌-◌, ◌<◌, ◌≤◌, ◌==◌, ◌&&◌, Bool, not, cond, if◌then◌else◌, List, [], ◌∷◌, ◌++◌, refl, sym, ap, subst, ◌∙◌, arith, inl, inr, true, false, length, map, filter}
use Rattle.std.specs.List.{range_with_len, sum_by, count_by}
use Rattle.std.proofs.lemmas.Bool.{cases_eq}
use Rattle.std.proofs.lemmas.Bool.Decides.{nat_tests}
use Rattle.std.proofs.lemmas.List.{length-append}
use Rattle.std.proofs.lemmas.List.Concat.{length-flat_map}
use Rattle.std.proofs.lemmas.List.Sums.{sum_by-cons}
use Rattle.vol_layout.specs.Geometry.{in_zone}
use Rattle.vol_layout.specs.Inode.{kind_of, is_large}
use Rattle.vol_layout.specs.BlockPointers.{mode_of, form_at, named}
use Rattle.vol_layout.specs.BlockMaps.{form_of, file_form, has_places, places}
use Rattle.vol_layout.specs.declared.edition.Edition.{Edition}
use Rattle.vol_layout.specs.declared.edition.Edition.TheVariants.{V6, V7}
use Rattle.vol_layout.specs.declared.geometry.Geometry.{Geometry}
use Rattle.vol_layout.specs.declared.mode.Kind.{Kind}
use Rattle.vol_layout.specs.declared.mode.Kind.TheVariants as kinds
use Rattle.vol_layout.specs.declared.block_map.BlockMap.{BlockMap}
use Rattle.vol_layout.specs.declared.block_map.BlockMap.TheVariants.{Bare}
use Rattle.vol_layout.specs.Super.{free_head}
use Rattle.vol_layout.proofs.NameLaws.{holds_named}
use Rattle.pdp_words.specs.Words.{word}
use Rattle.vol_free.specs.Stack.{IsIn, Once}
use Rattle.vol_free.proofs.Lengths.{once_within}
use Rattle.vol_free.proofs.Stacks.{zone_from, zone_below, stack_zoned}
use Rattle.vol_file.specs.Shape.{is_named}
use Rattle.vol_file.specs.Changes.{blocks_of}
use Rattle.vol_file.specs.Clears.{blocks_at}
use Rattle.vol_file.specs.Rules.{Rules3To7With, IsCovered, kind_at}
use Rattle.vol_file.proofs.BlockLists.{at_nil, at_zero, at_some}
use Rattle.vol_file.proofs.PlaceLists.{count_among, count_none, among_places}
use Rattle.vol_dir.specs.Tree.{no_shape, form_in, is_place, is_named_place, place_count, free_count, is_number, shape_of, shapes}
use Rattle.vol_judge.proofs.AllBlocks.{all_blocks, all_named, all_zoned, apart_once, named_all}
use Rattle.vol_judge.proofs.GraphCounts.{sum_same}
use Rattle.vol_judge.proofs.NamedOnce.{in_append, in_left, in_right, once_append}
use Rattle.vol_dir.proofs.PlaceTests.{place_test}

-- a list without the first occurrence of a number
abbrev without : ℕ → List ℕ → List ℕ
without k [] = []
without k (x ∷ xs) = if k == x then xs else x ∷ without k xs

without_here : (k x : ℕ) (xs : List ℕ) → k ≡ x → without k (x ∷ xs) ≡ xs
without_here k x xs e = let same : (k == x) ≡ true = grind (arith, nat_tests) in rw same

without_later : (k x : ℕ) (xs : List ℕ) → k ≢ x → without k (x ∷ xs) ≡ x ∷ without k xs
without_later k x xs other = let differ : (k == x) ≡ false = grind (arith, nat_tests) in rw differ

length_without : (k : ℕ) (xs : List ℕ) → IsIn k xs → length (without k xs) + 1 ≡ length xs
unfolding IsIn
length_without k [] h = absurd h
length_without k (x ∷ xs) h = elim (cases_eq k x) [
  | inl e ↦ let here : length (without k (x ∷ xs)) ≡ length xs = ap length (without_here k x xs e) in omega arith
  | inr other ↦ elim h [
    | inl e ↦ absurd (other e)
    | inr rest ↦
        let later : length (without k (x ∷ xs)) ≡ suc (length (without k xs)) = ap length (without_later k x xs other) in
        let less : length (without k xs) + 1 ≡ length xs = length_without k xs rest in omega arith
  ]
]

in_without : (k j : ℕ) (xs : List ℕ) → j ≢ k → IsIn j xs → IsIn j (without k xs)
unfolding IsIn
in_without k j [] other h = absurd h
in_without k j (x ∷ xs) other h = elim (cases_eq k x) [
  | inl e ↦ elim h [
    | inl same ↦ absurd (other (same ∙ sym e))
    | inr rest ↦ subst (IsIn j) (sym (without_here k x xs e)) rest
  ]
  | inr differ ↦ subst (IsIn j) (sym (without_later k x xs differ)) (elim h [ inl same ↦ inl same | inr rest ↦ inr (in_without k j xs other rest) ])
]

-- a list that contains n consecutive numbers has at least n items
all_within : (a n : ℕ) (xs : List ℕ) → ((k : ℕ) → a ≤ k → k < a + n → IsIn k xs) → n ≤ length xs
all_within a zero xs all = omega arith
all_within a (suc n) xs all =
    let here : IsIn a xs = all a (omega arith) (omega arith) in
    let less : length (without a xs) + 1 ≡ length xs = length_without a xs here in
    let rest : n ≤ length (without a xs) =
    all_within (a + 1) n (without a xs) (λ k from to. in_without a k xs (λ e. omega arith) (all k (omega arith) (omega arith))) in
    omega (arith, less, rest)

-- the number of blocks at some positions is the number of these positions whose address isn't 0
pub blocks_length : (geometry : Geometry) (image : List ℕ) (i : ℕ) (ps : List (List ℕ)) → length (blocks_at geometry image i ps) ≡ count_by (is_named geometry image i) ps
blocks_length geometry image i [] = ap length (at_nil geometry image i)
blocks_length geometry image i (p ∷ ps) =
    let rest : length (blocks_at geometry image i ps) ≡ count_by (is_named geometry image i) ps = blocks_length geometry image i ps in
    let step : count_by (is_named geometry image i) (p ∷ ps) ≡ cond (is_named geometry image i p) 1 0 + count_by (is_named geometry image i) ps =
    sum_by-cons (λ q. cond (is_named geometry image i q) 1 0) p ps in
    elim (cases_eq (named geometry image i p) 0) [
      | inl none ↦
          let no_name : is_named geometry image i p ≡ false = grind (arith, nat_tests) in
          let nothing : ◌≡◌ {A = ℕ} (cond (is_named geometry image i p) 1 0) 0 = ap (λ t. cond t 1 0) no_name in
          let here : length (blocks_at geometry image i (p ∷ ps)) ≡ length (blocks_at geometry image i ps) = ap length (at_zero geometry image i p ps none) in
          omega (arith, rest, step, nothing, here)
      | inr some ↦
          let name : is_named geometry image i p ≡ true = grind (arith, nat_tests) in
          let one : ◌≡◌ {A = ℕ} (cond (is_named geometry image i p) 1 0) 1 = ap (λ t. cond t 1 0) name in
          let here : length (blocks_at geometry image i (p ∷ ps)) ≡ suc (length (blocks_at geometry image i ps)) =
          ap length (at_some geometry image i (named geometry image i p) p ps refl some) in
          omega (arith, rest, step, one, here)
    ]

-- counting the positions of a block map that pass a test gives the same with and without a test that they are positions
test_places : (form : BlockMap) (names : List ℕ → Bool) → count_by (λ p. is_place form p && names p) (places form) ≡ count_by names (places form)
test_places form names =
    count_among (λ p. is_place form p && names p) names (places form) (λ p among.
    let place : is_place form p ≡ true = place_test form p (among_places form p among) in ap (λ t. t && names p) place)

-- the block map given by a file's shape is the block map of its mode
pub form_shape : (edition : Edition) (mode : ℕ) → has_places (kind_of edition mode) ≡ true → form_in edition (is_large edition mode) ≡ form_of edition mode
form_shape V6 mode file = sym (ap (λ t. if t then file_form V6 mode else Bare) file)
form_shape V7 mode file = sym (ap (λ t. if t then file_form V7 mode else Bare) file)

-- counting with a test that always fails gives 0
count_false : (ps : List (List ℕ)) → count_by (λ (p : List ℕ). false) ps ≡ 0
count_false ps = count_none (λ p. false) ps (λ p. refl)

-- the number of addresses of a file, counted by its shape, is the number of its blocks
count_file : (geometry : Geometry) (image : List ℕ) (i : ℕ) → has_places (kind_at geometry image i) ≡ true
    → count_by (is_named_place geometry image i) (places (form_in geometry.edition (is_large geometry.edition (mode_of geometry image i))))
    ≡ length (blocks_of geometry image i)
unfolding blocks_of blocks_at
count_file geometry image i file =
    ap (λ form. count_by (is_named_place geometry image i) (places form)) (form_shape geometry.edition (mode_of geometry image i) file)
    ∙ (test_places (form_at geometry image i) (is_named geometry image i)
    ∙ sym (blocks_length geometry image i (places (form_at geometry image i))))

count_bare : (geometry : Geometry) (image : List ℕ) (i : ℕ) → has_places (kind_at geometry image i) ≡ false
    → count_by (λ (p : List ℕ). false) (places (form_in geometry.edition false)) ≡ length (blocks_of geometry image i)
unfolding blocks_of blocks_at places
count_bare geometry image i bare =
    let form : form_at geometry image i ≡ Bare = ap (λ t. if t then file_form geometry.edition (mode_of geometry image i) else Bare) bare in
    count_false (places (form_in geometry.edition false))
    ∙ sym (ap (λ f. length (filter (λ k. not (k == 0)) (map (named geometry image i) (places f)))) form)

-- the number of addresses of an i-node, counted by its shape, is the number of its blocks, for each kind
count_shape : (geometry : Geometry) (image : List ℕ) (i : ℕ) (kind : Kind) → kind_at geometry image i ≡ kind
    → place_count geometry.edition (shape_of geometry image i kind) ≡ length (blocks_of geometry image i)
unfolding place_count blocks_of
count_shape geometry image i kinds.Regular is = count_file geometry image i (ap has_places is)
count_shape geometry image i kinds.Directory is = count_file geometry image i (ap has_places is)
count_shape geometry image i kinds.Free is = count_bare geometry image i (ap has_places is)
count_shape geometry image i kinds.Special is = count_bare geometry image i (ap has_places is)
count_shape geometry image i kinds.Odd is = count_bare geometry image i (ap has_places is)

-- the number of addresses of an i-number of the volume, counted by its shape, is the number of its blocks
pub count_number : (geometry : Geometry) (image : List ℕ) (i : ℕ) → 1 ≤ i → i ≤ geometry.last_inode
    → place_count geometry.edition (shapes geometry image i) ≡ length (blocks_of geometry image i)
unfolding shapes
count_number geometry image i first last =
    let inside : is_number geometry i ≡ true = grind (arith, nat_tests) in
    ap (λ t. place_count geometry.edition (if t then shape_of geometry image i (kind_of geometry.edition (mode_of geometry image i)) else no_shape)) inside
    ∙ count_shape geometry image i (kind_at geometry image i) refl

-- an i-node that isn't a file has no blocks
pub count_none_bare : (geometry : Geometry) (image : List ℕ) (i : ℕ) → 1 ≤ i → i ≤ geometry.last_inode → has_places (kind_at geometry image i) ≡ false
    → place_count geometry.edition (shapes geometry image i) ≡ 0
count_none_bare geometry image i first last bare =
    count_number geometry image i first last
    ∙ (sym (count_bare geometry image i bare) ∙ count_false (places (form_in geometry.edition false)))

module _ (geometry : Geometry) (image blocks : List ℕ) (sound : Rules3To7With geometry image blocks) where
  -- the number of blocks of all files is the sum over their shapes
  used_length : length (all_blocks geometry image) ≡ sum_by (λ i. place_count geometry.edition (shapes geometry image i)) (range_with_len 1 geometry.last_inode)
  used_length =
      length-flat_map (blocks_of geometry image) (range_with_len 1 geometry.last_inode)
      ∙ sum_same (λ j. length (blocks_of geometry image j)) (λ i. place_count geometry.edition (shapes geometry image i)) 1 geometry.last_inode
      (λ j from to. sym (count_number geometry image j from (omega arith)))

  -- files have no more blocks than the data zone has
  pub used_within : sum_by (λ i. place_count geometry.edition (shapes geometry image i)) (range_with_len 1 geometry.last_inode)
      ≤ geometry.zone_end - geometry.zone_start
  used_within =
      let used = all_blocks geometry image in
      let zoned : (k : ℕ) → IsIn k used → in_zone geometry k ≡ true = λ k h. all_zoned geometry image k sound.zoned h in
      let most : length used ≤ geometry.zone_end - geometry.zone_start =
      once_within geometry.zone_start geometry.zone_end used (apart_once geometry image sound.apart)
      (λ k h. zone_from geometry k (zoned k h)) (λ k h. zone_below geometry k (zoned k h)) in
      omega (arith, most, used_length)

  -- in a sound image the length of the free list is the number of free blocks computed from the shapes
  pub free_blocks : IsCovered geometry image blocks → length blocks ≡ free_count geometry (shapes geometry image)
  unfolding free_count
  free_blocks covered =
      let used = all_blocks geometry image in
      let free_in : (k : ℕ) → IsIn k blocks → in_zone geometry k ≡ true =
      stack_zoned geometry image (free_head geometry.edition) (word image (free_head geometry.edition)) blocks sound.free.stack in
      let once : Once (used ++ blocks) =
      once_append used blocks (apart_once geometry image sound.apart) sound.free.once
      (λ k h g.
      let found = all_named geometry image k h in
      let by = found.2 in
      sound.outside found.0 found.1 by.place (subst (λ x. IsIn x blocks) (sym by.is) g)) in
      let zoned : (k : ℕ) → IsIn k (used ++ blocks) → in_zone geometry k ≡ true =
      λ k h. elim (in_append k used blocks h) [ inl early ↦ all_zoned geometry image k sound.zoned early | inr late ↦ free_in k late ] in
      let most : length (used ++ blocks) ≤ geometry.zone_end - geometry.zone_start =
      once_within geometry.zone_start geometry.zone_end (used ++ blocks) once (λ k h. zone_from geometry k (zoned k h)) (λ k h. zone_below geometry k (zoned k h)) in
      let zone : geometry.zone_start < geometry.zone_end = sound.fits.zone in
      let least : geometry.zone_end - geometry.zone_start ≤ length (used ++ blocks) =
      all_within geometry.zone_start (geometry.zone_end - geometry.zone_start) (used ++ blocks) (λ k from to.
      elim (covered k (grind (arith, nat_tests))) [
        | inl free ↦ in_right k used blocks free
        | inr names ↦
            let by = names.2 in
            let is : (named geometry image names.0 names.1 ≡ k) × (k ≢ 0) = holds_named geometry image names.0 names.1 k by.holds in
            in_left k used blocks (subst (λ x. IsIn x used) is.0 (named_all geometry image names.0 names.1 by.place (λ none. is.1 (sym is.0 ∙ none))))
      ]) in
      let both : length (used ++ blocks) ≡ length used + length blocks = length-append used blocks in
      omega (arith, most, least, both, used_length)
