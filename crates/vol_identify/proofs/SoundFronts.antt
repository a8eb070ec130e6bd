-- The front of a sound volume.
use Rattle.std.specs.Prelude.{◌&&◌, ◌||◌, nat_le, nat_lt, ◌==◌, if◌then◌else◌}
use Rattle.std.proofs.Common.{◌≡◌, ◌⊎◌, ◌∙◌, ℕ, ◌+◌, ◌-◌, ◌*◌, ◌/◌, ◌%◌, ◌<◌, ◌≤◌, Bool, true, false, eqb, List, [], ◌∷◌, get_or, inl, inr, refl, sym, ap, arith}
use Rattle.std.proofs.lemmas.Bool.{and_parts, cases_eq, cases_lt, eq-eqb, le-leb, le-ltb, leb-true, lt-ltb, ltb-true, ne_eqb}
use Rattle.pdp_words.specs.Words.{long, word}
use Rattle.vol_layout.specs.Edition.{constants, number}
use Rattle.vol_layout.specs.Geometry.{block_count, geometry_of, in_zone, is_bounded}
use Rattle.vol_layout.specs.Inode.{kind_of}
use Rattle.vol_layout.specs.Super.{free_head}
use Rattle.vol_layout.specs.declared.edition.Edition.{Edition}
use Rattle.vol_layout.specs.declared.edition.Edition.TheVariants.{V6, V7}
use Rattle.vol_layout.specs.declared.mode.Kind.TheVariants as kinds
use Rattle.vol_free.specs.Stack.{HasStack, IsStack}
use Rattle.vol_file.specs.Rules.{HasKinds}
use Rattle.vol_judge.specs.Sound.{IsSound, Rule}
use Rattle.vol_identify.specs.Front.{begins, has_free_head, has_root, is_directory, is_next_free}

-- the front has the bytes of the first three blocks of the volume
abbrev pub SameFront : List ℕ → List ℕ → Type 0
SameFront front volume = (i : ℕ) → i < 1536 → get_or front i 0 ≡ get_or volume i 0

same_word : (front volume : List ℕ) (at : ℕ) → SameFront front volume → at + 2 ≤ 1536 → word front at ≡ word volume at
same_word front volume at same within =
    let low = same at (omega arith) in
    let high = same (at + 1) (omega arith) in
    ap (λ n. n + 256 * get_or front (at + 1) 0) low ∙ ap (λ n. get_or volume at 0 + 256 * n) high

same_long : (front volume : List ℕ) (at : ℕ) → SameFront front volume → at + 4 ≤ 1536 → long front at ≡ long volume at
same_long front volume at same within =
    ap (λ n. 65536 * n + word front (at + 2)) (same_word front volume at same (omega arith))
    ∙ ap (λ n. 65536 * word volume at + n) (same_word front volume (at + 2) same (omega arith))

same_number : (edition : Edition) (front volume : List ℕ) (at j : ℕ) → SameFront front volume → at + 4 * j + 4 ≤ 1536 → number edition front at j ≡ number edition volume at j
same_number V6 front volume at j same within = same_word front volume (at + 2 * j) same (omega arith)
same_number V7 front volume at j same within = same_long front volume (at + 4 * j) same (omega arith)

-- the volume's number of blocks is in its front
pub same_count : (edition : Edition) (front volume : List ℕ) → SameFront front volume → block_count edition front ≡ block_count edition volume
same_count V6 front volume same = same_word front volume 514 same (omega arith)
same_count V7 front volume same = same_long front volume 514 same (omega arith)

-- so is whether rule 2 holds
same_bounded : (edition : Edition) (front volume : List ℕ) → SameFront front volume → is_bounded edition front ≡ is_bounded edition volume
same_bounded V6 front volume same =
    ap (λ size. nat_le 1 size && (nat_le size 4095 && nat_lt (size + 2) (block_count V6 front))) (same_word front volume 512 same (omega arith))
    ∙ ap (λ count. nat_le 1 (word volume 512) && (nat_le (word volume 512) 4095 && nat_lt (word volume 512 + 2) count)) (same_count V6 front volume same)
same_bounded V7 front volume same =
    ap (λ size. nat_le 3 size && (nat_le size (8191 + 2) && (nat_lt size (block_count V7 front) && nat_le (block_count V7 front) 16777216))) (same_word front volume 512 same (omega arith))
    ∙ ap (λ count. nat_le 3 (word volume 512) && (nat_le (word volume 512) (8191 + 2) && (nat_lt (word volume 512) count && nat_le count 16777216))) (same_count V7 front volume same)

-- and the data zone
same_zone : (edition : Edition) (front volume : List ℕ) (n : ℕ) → SameFront front volume
    → in_zone (geometry_of edition front) n ≡ in_zone (geometry_of edition volume) n
same_zone V6 front volume n same =
    ap (λ size. nat_le (size + 2) n && nat_lt n (block_count V6 front)) (same_word front volume 512 same (omega arith))
    ∙ ap (λ count. nat_le (word volume 512 + 2) n && nat_lt n count) (same_count V6 front volume same)
same_zone V7 front volume n same =
    ap (λ size. nat_le size n && nat_lt n (block_count V7 front)) (same_word front volume 512 same (omega arith))
    ∙ ap (λ count. nat_le (word volume 512) n && nat_lt n count) (same_count V7 front volume same)

or_true : (x : Bool) → (x || true) ≡ true
or_true true = refl
or_true false = refl

-- the number of the free list that would be taken next can be one
next_free : (edition : Edition) (volume : List ℕ) (at n : ℕ) (blocks : List ℕ) → IsStack (geometry_of edition volume) volume at n blocks
    → (n ≡ 0) ⊎ (is_next_free edition volume n (number edition volume (at + 2) (n - 1)) ≡ true)
unfolding IsStack
next_free edition volume at n [] (inl none) = inl none
next_free edition volume at n [] (inr (one, end)) =
    let first : n - 1 ≡ 0 = omega arith in
    let zero : number edition volume (at + 2) (n - 1) ≡ 0 = ap (number edition volume (at + 2)) first ∙ end in
    inr (rw (eq-eqb n 1 one, eq-eqb (number edition volume (at + 2) (n - 1)) 0 zero) refl)
next_free edition volume at n (b ∷ blocks) (is, zone, more) =
    let there : in_zone (geometry_of edition volume) (number edition volume (at + 2) (n - 1)) ≡ true = ap (in_zone (geometry_of edition volume)) is ∙ zone in
    inr (rw there (or_true ((n == 1) && (number edition volume (at + 2) (n - 1) == 0))))

-- the head of a free list, by its parts
head_by : (edition : Edition) (front : List ℕ) (n : ℕ) → word front (free_head edition) ≡ n → n ≤ (constants edition).free_slots
    → (n ≡ 0) ⊎ (is_next_free edition front n (number edition front (free_head edition + 2) (n - 1)) ≡ true) → has_free_head edition front ≡ true
unfolding has_free_head
head_by edition front n is few (inl none) = rw (eq-eqb (word front (free_head edition)) 0 (is ∙ none)) refl
head_by edition front n is few (inr next) =
    elim (eqb (word front (free_head edition)) 0)
    as (λ z. (if z then true else nat_le (word front (free_head edition)) (constants edition).free_slots
    && is_next_free edition front (word front (free_head edition)) (number edition front (free_head edition + 2) (word front (free_head edition) - 1))) ≡ true) [
      | true ↦ refl
      | false ↦ rw (is, le-leb n (constants edition).free_slots few) next
    ]

-- its count, and the number that would be taken next, are in the front
same_head_word : (edition : Edition) (front volume : List ℕ) → SameFront front volume → word front (free_head edition) ≡ word volume (free_head edition)
same_head_word V6 front volume same = same_word front volume 516 same (omega arith)
same_head_word V7 front volume same = same_word front volume 518 same (omega arith)

same_next : (edition : Edition) (front volume : List ℕ) (n : ℕ) → SameFront front volume → n ≤ (constants edition).free_slots
    → number edition front (free_head edition + 2) (n - 1) ≡ number edition volume (free_head edition + 2) (n - 1)
same_next V6 front volume n same few = same_number V6 front volume 518 (n - 1) same (omega arith)
same_next V7 front volume n same few = same_number V7 front volume 520 (n - 1) same (omega arith)

-- the free list of a volume with one can begin so
same_head : (edition : Edition) (front volume : List ℕ) → SameFront front volume → HasStack (geometry_of edition volume) volume → has_free_head edition front ≡ true
same_head edition front volume same has =
    let n = word volume (free_head edition) in
    head_by edition front n (same_head_word edition front volume same) has.free.count
    (elim (next_free edition volume (free_head edition) n has.blocks has.free.stack) [
      | inl none ↦ inl none
      | inr next ↦ inr (
          ap (is_next_free edition front n) (same_next edition front volume n same has.free.count)
          ∙ (ap (λ z. ((n == 1) && (number edition volume (free_head edition + 2) (n - 1) == 0)) || z)
          (same_zone edition front volume (number edition volume (free_head edition + 2) (n - 1)) same)
          ∙ next)
          )
    ])

-- the root of a volume whose i-nodes have their kinds is a directory
same_root : (edition : Edition) (front volume : List ℕ) → SameFront front volume → HasKinds (geometry_of edition volume) volume → has_root edition front ≡ true
unfolding has_root
same_root V6 front volume same has = ap is_directory (ap (kind_of V6) (same_word front volume 1024 same (omega arith)) ∙ has.root)
same_root V7 front volume same has = ap is_directory (ap (kind_of V7) (same_word front volume 1088 same (omega arith)) ∙ has.root)

-- the mode of a directory of the sixth edition
six_directory : (mode : ℕ) → (is_directory (kind_of V6 mode) ≡ false) ⊎ ((32768 ≤ mode) × (mode / 8192 % 4 ≡ 2))
unfolding kind_of
six_directory mode =
    elim (cases_eq mode 0) [
      | inl zero ↦ inl (rw (eq-eqb mode 0 zero) refl)
      | inr some ↦ elim (cases_lt mode 32768) [
        | inl low ↦ inl (rw (ne_eqb mode 0 some, lt-ltb mode 32768 low) refl)
        | inr high ↦ elim (cases_eq (mode / 8192 % 4) 2) [
          | inl two ↦ inr (high, two)
          | inr other ↦ elim (cases_eq (mode / 8192 % 4) 0) [
            | inl file ↦ inl (rw (ne_eqb mode 0 some, le-ltb mode 32768 high, eq-eqb (mode / 8192 % 4) 0 file) refl)
            | inr special ↦ inl (rw (ne_eqb mode 0 some, le-ltb mode 32768 high, ne_eqb (mode / 8192 % 4) 0 special, ne_eqb (mode / 8192 % 4) 2 other) refl)
          ]
        ]
      ]
    ]

-- is odd in the seventh
seven_odd : (mode : ℕ) → 32768 ≤ mode → mode / 8192 % 4 ≡ 2 → kind_of V7 mode ≡ kinds.Odd
unfolding kind_of
seven_odd mode high two =
    let other : (t : ℕ) → t ≤ 8 → mode / 4096 ≡ t → ⊥ = λ t few is. omega (arith, two, high) in
    rw (
      ne_eqb mode 0 (λ zero. omega (arith, zero, high)),
      ne_eqb (mode / 4096) 8 (other 8 (omega arith)),
      ne_eqb (mode / 4096) 4 (other 4 (omega arith)),
      ne_eqb (mode / 4096) 2 (other 2 (omega arith)),
      ne_eqb (mode / 4096) 6 (other 6 (omega arith)),
      ne_eqb (mode / 4096) 3 (other 3 (omega arith)),
      ne_eqb (mode / 4096) 7 (other 7 (omega arith)),
    ) refl

odd_free : kinds.Odd ≡ kinds.Free → ⊥
odd_free is = cc

odd_regular : kinds.Odd ≡ kinds.Regular → ⊥
odd_regular is = cc

-- so the first i-node of the seventh edition isn't the root of the sixth
no_six_root : (front volume : List ℕ) → SameFront front volume → HasKinds (geometry_of V7 volume) volume → has_root V6 front ≡ false
unfolding has_root
no_six_root front volume same has =
    let mode = word front 1024 in
    elim (six_directory mode) [
      | inl other ↦ other
      | inr (high, two) ↦
          let odd : kind_of V7 (word volume 1024) ≡ kinds.Odd = ap (kind_of V7) (sym (same_word front volume 1024 same (omega arith))) ∙ seven_odd mode high two in
          elim (has.bad_blocks refl) [ inl free ↦ absurd (odd_free (sym odd ∙ free)) | inr regular ↦ absurd (odd_regular (sym odd ∙ regular)) ]
    ]

and_false : (x y : Bool) → (x && (y && false)) ≡ false
and_false true true = refl
and_false true false = refl
and_false false y = refl

-- a sound volume has the front of one
pub begins_sound : (edition : Edition) (front volume : List ℕ) → SameFront front volume → IsSound edition volume → begins edition front ≡ true
unfolding begins Rule
begins_sound edition front volume same sound =
    rw (same_bounded edition front volume same ∙ sound 2, same_head edition front volume same (sound 6), same_root edition front volume same (sound 3)) refl

-- of the seventh edition isn't one of the sixth
pub begins_not : (front volume : List ℕ) → SameFront front volume → IsSound V7 volume → begins V6 front ≡ false
unfolding begins Rule
begins_not front volume same sound =
    ap (λ root. is_bounded V6 front && (has_free_head V6 front && root)) (no_six_root front volume same (sound 3)) ∙ and_false (is_bounded V6 front) (has_free_head V6 front)

-- has four blocks or more
pub count_sound : (edition : Edition) (volume : List ℕ) → IsSound edition volume → 4 ≤ block_count edition volume
unfolding Rule
count_sound V6 volume sound =
    omega (
      arith,
      leb-true 1 (word volume 512) (and_parts _ _ (sound 2)).0,
      ltb-true (word volume 512 + 2) (block_count V6 volume) (and_parts _ _ (and_parts _ _ (sound 2)).1).1,
    )
count_sound V7 volume sound =
    omega (
      arith,
      leb-true 3 (word volume 512) (and_parts _ _ (sound 2)).0,
      ltb-true (word volume 512) (block_count V7 volume) (and_parts _ _ (and_parts _ _ (and_parts _ _ (sound 2)).1).1).0,
    )
