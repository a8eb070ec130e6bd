-- Laws of `ExtendsMarks` and `KnowsMarked`, as more marks of data blocks are set.
use Rattle.std.proofs.Common.{◌≡◌, ◌≢◌, ℕ, zero, suc, ◌+◌, ◌-◌, ◌<◌, ◌≤◌, ◌==◌, ◌∙◌, if◌then◌else◌, true, false, sym, ap, subst, inl, inr, List, [], ◌∷◌, ◌++◌, length, get_or, set, refl, arith, lit≤, get_or-set_same, get_or-set_other}
use Rattle.std.proofs.lemmas.Bool.{cases_eq}
use Rattle.std.specs.List.{flat_map, range_with_len}
use Rattle.vol_layout.specs.Edition.{constants}
use Rattle.vol_layout.specs.Geometry.{in_zone, Fits}
use Rattle.vol_layout.specs.BlockPointers.{pointer_in}
use Rattle.vol_layout.specs.BlockMaps.{first_count, levels}
use Rattle.vol_layout.specs.declared.geometry.Geometry.{Geometry}
use Rattle.vol_layout.specs.declared.block_map.BlockMap.{BlockMap}
use Rattle.vol_layout.specs.declared.block_map.BlockMap.TheVariants.{Small, Large, Deep, Bare}
use Rattle.vol_layout.proofs.NameLaws.{entry_out, holds_named, named_holds}
use Rattle.vol_free.specs.Stack.{IsIn}
use Rattle.vol_file.specs.Changes.{blocks_of}
use Rattle.vol_judge.specs.Marks.{blocks_from, MarksZone, ExtendsMarks, KnowsMarked}
use Rattle.vol_judge.proofs.AllBlocks.{all_blocks, all_named, named_all, files_from, files_all}
use Rattle.vol_judge.proofs.BlocksFrom.{from_zero, from_leaf, from_suc, from_entries, entries_from}
use Rattle.vol_judge.proofs.FileBlocks.{address_blocks, addresses_from}
use Rattle.vol_judge.proofs.MarkLists.{flat_more}
use Rattle.vol_judge.proofs.NamedOnce.{in_append, in_left, in_right, in_flat, flat_in}

-- an address has at most three levels below it
pub levels_most : (form : BlockMap) (k : ℕ) → k < first_count form → levels form k ≤ 3
levels_most Small k low = omega arith
levels_most Large k low = elim (k == 7) as (λ t. (if t then 2 else 1) ≤ 3) [ true ↦ lit≤ tt | false ↦ lit≤ tt ]
levels_most Deep k low = omega arith
levels_most Bare k low = omega arith

-- a newly set mark isn't 0
set_some : (marks : List ℕ) (b d x : ℕ) → b < length marks → x ≡ b → get_or (set marks b (d + 1)) x 0 ≢ 0
set_some marks b d x within same none =
    let here : get_or (set marks b (d + 1)) b 0 ≡ d + 1 = get_or-set_same marks b (d + 1) 0 within in
    let there : get_or (set marks b (d + 1)) b 0 ≡ 0 = ap (λ y. get_or (set marks b (d + 1)) y 0) (sym same) ∙ none in
    omega (arith, here, there)

-- setting a mark makes no other mark 0
set_kept : (marks : List ℕ) (b d x : ℕ) → b < length marks → get_or marks x 0 ≢ 0 → get_or (set marks b (d + 1)) x 0 ≢ 0
set_kept marks b d x within some = elim (cases_eq x b) [
  | inl same ↦ set_some marks b d x within same
  | inr other ↦ λ none. some (sym (get_or-set_other marks b x (d + 1) 0 other) ∙ none)
]

-- a list whose data blocks are all marked needs no new marks
pub ext_known : (g : Geometry) (blocks marks : List ℕ) → ((x : ℕ) → IsIn x blocks → in_zone g x ≡ true → get_or marks x 0 ≢ 0)
    → ExtendsMarks g blocks marks marks
ext_known g blocks marks known = record { all = known; only = λ x some. inl some; kept = λ x some. some }

-- an empty list needs no new marks
pub ext_none : (g : Geometry) (marks : List ℕ) → ExtendsMarks g [] marks marks
unfolding IsIn
ext_none g marks = ext_known g [] marks (λ x among zone. absurd among)

-- marking one list and then another marks both
ext_more : (g : Geometry) (xs ys old mid new : List ℕ) → ExtendsMarks g xs old mid → ExtendsMarks g ys mid new → ExtendsMarks g (xs ++ ys) old new
ext_more g xs ys old mid new first second = record {
  all = λ x among zone. elim (in_append x xs ys among) [
    | inl left ↦ second.kept x (first.all x left zone)
    | inr right ↦ second.all x right zone
  ];
  only = λ x some. elim (second.only x some) [
    | inl before ↦ elim (first.only x before) [ inl was ↦ inl was | inr left ↦ inr (in_left x xs ys left) ]
    | inr right ↦ inr (in_right x xs ys right)
  ];
  kept = λ x some. second.kept x (first.kept x some);
}

-- marking the lists of n numbers and then the next list marks the lists of n + 1 numbers
ext_next : (g : Geometry) (f : ℕ → List ℕ) (a n m j : ℕ) (old mid new : List ℕ) → m ≡ n + 1 → a + n ≡ j
    → ExtendsMarks g (flat_map f (range_with_len a n)) old mid → ExtendsMarks g (f j) mid new → ExtendsMarks g (flat_map f (range_with_len a m)) old new
ext_next g f a n m j old mid new size at first second =
    subst (λ xs. ExtendsMarks g xs old new) (sym (flat_more f a n m j size at)) (ext_more g (flat_map f (range_with_len a n)) (f j) old mid new first second)

-- after the blocks below b, setting the mark of b marks b too
ext_set : (g : Geometry) (b d : ℕ) (below old new : List ℕ) → b < length new → ExtendsMarks g below old new
    → ExtendsMarks g (b ∷ below) old (set new b (d + 1))
unfolding IsIn
ext_set g b d below old new within ext = record {
  all = λ x among zone. elim among [
    | inl same ↦ set_some new b d x within same
    | inr later ↦ set_kept new b d x within (ext.all x later zone)
  ];
  only = λ x some. elim (cases_eq x b) [
    | inl same ↦ inr (inl same)
    | inr other ↦ elim (ext.only x (λ none. some (get_or-set_other new b x (d + 1) 0 other ∙ none))) [
      | inl before ↦ inl before
      | inr among ↦ inr (inr among)
    ]
  ];
  kept = λ x some. set_kept new b d x within (ext.kept x some);
}

-- if no mark is set, `KnowsMarked` holds
pub known_none : (g : Geometry) (image marks : List ℕ) → ((b : ℕ) → get_or marks b 0 ≡ 0) → KnowsMarked g image marks
known_none g image marks clear b d is x among zone = absurd (omega (arith, is, clear b))

-- setting the mark of b to d + 1 is right if all data blocks in the d levels below b are marked
pub known_more : (g : Geometry) (image marks : List ℕ) (b d : ℕ) → b < length marks → KnowsMarked g image marks
    → ((x : ℕ) → IsIn x (blocks_from g image d b) → in_zone g x ≡ true → get_or (set marks b (d + 1)) x 0 ≢ 0)
    → KnowsMarked g image (set marks b (d + 1))
known_more g image marks b d within known new k e is x among zone = elim (cases_eq k b) [
  | inl same ↦
      let here : get_or (set marks b (d + 1)) b 0 ≡ d + 1 = get_or-set_same marks b (d + 1) 0 within in
      let there : get_or (set marks b (d + 1)) b 0 ≡ e + 1 = ap (λ y. get_or (set marks b (d + 1)) y 0) (sym same) ∙ is in
      let level : e ≡ d = omega (arith, here, there) in
      new x (subst (λ y. IsIn x (blocks_from g image d y)) same (subst (λ y. IsIn x (blocks_from g image y k)) level among)) zone
  | inr other ↦ set_kept marks b d x within (known k e (sym (get_or-set_other marks b k (d + 1) 0 other) ∙ is) x among zone)
]

module _ (g : Geometry) (image : List ℕ) where
  -- there are no blocks at and below address 0
  none_from : (d b x : ℕ) → b ≡ 0 → IsIn x (blocks_from g image d b) → ⊥
  unfolding IsIn
  none_from d b x none among = subst (IsIn x) (ap (blocks_from g image d) none ∙ from_zero g image d) among

  -- block b is one of the blocks at and below b
  here_in : (d b x : ℕ) → b ≢ 0 → x ≡ b → IsIn x (blocks_from g image d b)
  unfolding IsIn
  here_in zero b x some same = subst (IsIn x) (sym (from_leaf g image b some)) (inl same)
  here_in (suc d) b x some same = subst (IsIn x) (sym (from_suc g image d b some)) (inl same)

  -- a block found in fewer levels below b is found in more levels
  from_less : (d e b x : ℕ) → d ≤ e → IsIn x (blocks_from g image d b) → IsIn x (blocks_from g image e b)
  unfolding IsIn entries_from
  from_less zero e b x less among = elim (cases_eq b 0) [
    | inl none ↦ absurd (none_from zero b x none among)
    | inr some ↦ elim (subst (IsIn x) (from_leaf g image b some) among) [
      | inl same ↦ here_in e b x some same
      | inr later ↦ absurd later
    ]
  ]
  from_less (suc d) zero b x less among = absurd (omega arith)
  from_less (suc d) (suc e) b x less among = elim (cases_eq b 0) [
    | inl none ↦ absurd (none_from (suc d) b x none among)
    | inr some ↦ elim (subst (IsIn x) (from_suc g image d b some) among) [
      | inl same ↦ here_in (suc e) b x some same
      | inr later ↦
          let found = in_flat (λ j. blocks_from g image d (pointer_in g image b j)) x 0 (constants g.edition).pointers later in
          subst (IsIn x) (sym (from_suc g image e b some))
          (inr (flat_in (λ j. blocks_from g image e (pointer_in g image b j)) x 0 (constants g.edition).pointers found.0 found.1 found.2
          (from_less d e (pointer_in g image b found.0) x (omega arith) found.3)))
    ]
  ]

  -- there are no data blocks at and below an address outside the data zone
  out_from : (d b x : ℕ) → in_zone g b ≡ false → IsIn x (blocks_from g image d b) → in_zone g x ≡ true → ⊥
  unfolding IsIn entries_from
  out_from zero b x out among zone = elim (cases_eq b 0) [
    | inl none ↦ none_from zero b x none among
    | inr some ↦ elim (subst (IsIn x) (from_leaf g image b some) among) [
      | inl same ↦ let there : in_zone g b ≡ true = ap (in_zone g) (sym same) ∙ zone in cc
      | inr later ↦ later
    ]
  ]
  out_from (suc d) b x out among zone = elim (cases_eq b 0) [
    | inl none ↦ none_from (suc d) b x none among
    | inr some ↦ elim (subst (IsIn x) (from_suc g image d b some) among) [
      | inl same ↦ let there : in_zone g b ≡ true = ap (in_zone g) (sym same) ∙ zone in cc
      | inr later ↦
          let found = in_flat (λ j. blocks_from g image d (pointer_in g image b j)) x 0 (constants g.edition).pointers later in
          none_from d (pointer_in g image b found.0) x (entry_out g image b found.0 out) found.3
    ]
  ]

  -- an address outside the data zone needs no new marks
  pub ext_out : (d b : ℕ) (marks : List ℕ) → in_zone g b ≡ false → ExtendsMarks g (blocks_from g image d b) marks marks
  ext_out d b marks out = ext_known g (blocks_from g image d b) marks (λ x among zone. absurd (out_from d b x out among zone))

  -- a block whose mark is greater than d needs no new marks for d levels
  pub ext_again : (d b : ℕ) (marks : List ℕ) → KnowsMarked g image marks → d < get_or marks b 0 → ExtendsMarks g (blocks_from g image d b) marks marks
  ext_again d b marks known less =
      let size : get_or marks b 0 ≡ get_or marks b 0 - 1 + 1 = omega (arith, less) in
      ext_known g (blocks_from g image d b) marks (λ x among zone.
      known b (get_or marks b 0 - 1) size x (from_less d (get_or marks b 0 - 1) b x (omega (arith, less)) among) zone)

  -- with no levels below it, only the mark of b is set
  pub ext_leaf : (b : ℕ) (marks : List ℕ) → b ≢ 0 → b < length marks → ExtendsMarks g (blocks_from g image 0 b) marks (set marks b 1)
  ext_leaf b marks some within =
      subst (λ xs. ExtendsMarks g xs marks (set marks b 1)) (sym (from_leaf g image b some)) (ext_set g b 0 [] marks marks within (ext_none g marks))

  -- after the blocks of its entries, block b is marked
  pub ext_from : (d b : ℕ) (old new : List ℕ) → b ≢ 0 → 1 ≤ d → b < length new
      → ExtendsMarks g (entries_from g image (d - 1) b (constants g.edition).pointers) old new
      → ExtendsMarks g (blocks_from g image d b) old (set new b (d + 1))
  ext_from d b old new some one within ext =
      subst (λ xs. ExtendsMarks g xs old (set new b (d + 1))) (sym (from_entries g image d b some one))
      (ext_set g b d (entries_from g image (d - 1) b (constants g.edition).pointers) old new within ext)

  -- no entries need no marks
  pub ext_start : (d b : ℕ) (marks : List ℕ) → ExtendsMarks g (entries_from g image d b 0) marks marks
  unfolding entries_from
  ext_start d b marks = ext_none g marks

  -- marking the blocks of the first j entries and then of entry j marks the blocks of the first j + 1 entries
  pub ext_entry : (d b j n : ℕ) (old mid new : List ℕ) → n ≡ j + 1 → ExtendsMarks g (entries_from g image d b j) old mid
      → ExtendsMarks g (blocks_from g image d (pointer_in g image b j)) mid new → ExtendsMarks g (entries_from g image d b n) old new
  unfolding entries_from
  ext_entry d b j n old mid new size first second =
      ext_next g (λ j. blocks_from g image d (pointer_in g image b j)) 0 j n j old mid new size (omega arith) first second

  -- entries that are 0 need no marks
  pub ext_zeros : (d b j n m : ℕ) (old new : List ℕ) → j + n ≡ m → ((x : ℕ) → j ≤ x → x < m → pointer_in g image b x ≡ 0)
      → ExtendsMarks g (entries_from g image d b j) old new → ExtendsMarks g (entries_from g image d b m) old new
  ext_zeros d b j zero m old new size zeros ext =
      let same : j ≡ m = omega arith in subst (λ x. ExtendsMarks g (entries_from g image d b x) old new) same ext
  ext_zeros d b j (suc n) m old new size zeros ext =
      let before = ext_zeros d b j n (j + n) old new refl (λ x low high. zeros x low (omega arith)) ext in
      ext_entry d b (j + n) m old new new (omega arith) before
      (ext_known g (blocks_from g image d (pointer_in g image b (j + n))) new
      (λ x among zone. absurd (none_from d (pointer_in g image b (j + n)) x (zeros (j + n) (omega arith) (omega arith)) among)))

  -- no addresses need no marks
  pub ext_first : (i : ℕ) (marks : List ℕ) → ExtendsMarks g (addresses_from g image i 0) marks marks
  unfolding addresses_from
  ext_first i marks = ext_none g marks

  -- marking the blocks of the first k addresses and then of address k marks the blocks of the first k + 1 addresses
  pub ext_address : (i k n : ℕ) (old mid new : List ℕ) → n ≡ k + 1 → ExtendsMarks g (addresses_from g image i k) old mid
      → ExtendsMarks g (address_blocks g image i k) mid new → ExtendsMarks g (addresses_from g image i n) old new
  unfolding addresses_from
  ext_address i k n old mid new size first second = ext_next g (address_blocks g image i) 0 k n k old mid new size (omega arith) first second

  -- no files need no marks
  pub ext_begin : (n : ℕ) (marks : List ℕ) → n ≡ 0 → ExtendsMarks g (files_from g image n) marks marks
  unfolding files_from
  ext_begin n marks none = subst (λ x. ExtendsMarks g (files_from g image x) marks marks) (sym none) (ext_none g marks)

  -- marking the blocks of the first n files and then of file n + 1 marks the blocks of the first n + 1 files
  pub ext_file : (i n m : ℕ) (old mid new : List ℕ) → m ≡ n + 1 → 1 + n ≡ i → ExtendsMarks g (files_from g image n) old mid
      → ExtendsMarks g (blocks_of g image i) mid new → ExtendsMarks g (files_from g image m) old new
  unfolding files_from
  ext_file i n m old mid new size at first second = ext_next g (blocks_of g image) 1 n m i old mid new size at first second

  -- once the blocks of all files are marked, the marked data blocks are those that files use
  pub ext_all : (marks new : List ℕ) → Fits g image → ((b : ℕ) → get_or marks b 0 ≡ 0) → ExtendsMarks g (files_from g image g.last_inode) marks new
      → MarksZone g image new
  ext_all marks new fits clear ext b zone = (
    λ some. elim (ext.only b some) [
      | inl before ↦ absurd (before (clear b))
      | inr among ↦
          let found = all_named g image b (subst (IsIn b) (files_all g image) among) in
          let by = found.2 in
          (found.0, found.1, record { place = by.place; holds = named_holds g image found.0 found.1 b fits by.is by.some })
    ],
    λ named_by.
        let held = holds_named g image named_by.0 named_by.1 b named_by.2.holds in
        let there = named_all g image named_by.0 named_by.1 named_by.2.place (λ none. held.1 (sym held.0 ∙ none)) in
        ext.all b (subst (IsIn b) (sym (files_all g image)) (subst (λ x. IsIn x (all_blocks g image)) held.0 there)) zone,
  )
