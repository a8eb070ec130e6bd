-- The heads of the free list of a new volume (a count and an array), word by word and entry by entry.
use Rattle.std.proofs.Common.{◌≡◌, ℕ, zero, suc, ◌+◌, ◌-◌, ◌*◌, ◌/◌, ◌%◌, ◌<◌, ◌==◌, List, sym, ap, ◌∙◌, arith, inl, inr, get_or, true, false, nat_lt}
use Rattle.std.proofs.lemmas.Bool.{cases_eq}
use Rattle.std.proofs.lemmas.Bool.Decides.{nat_tests}
use Rattle.pdp_words.specs.Words.{word, long}
use Rattle.vol_layout.specs.Edition.{constants, number}
use Rattle.vol_layout.specs.declared.edition.Edition.{Edition}
use Rattle.vol_layout.specs.declared.edition.Edition.TheVariants.{V6, V7}
use Rattle.vol_layout.specs.declared.geometry.Geometry.{Geometry}
use Rattle.vol_mkfs.specs.Blank.{listed, array_word, head_word, head_byte, HasHead}

-- an even byte of a head is the low byte of a word
byte_even : (geometry : Geometry) (top count w : ℕ) → head_byte geometry top count (2 * w) ≡ head_word geometry top count w % 256
unfolding head_byte
byte_even geometry top count w =
    let even : 2 * w % 2 ≡ 0 = omega arith in
    let half : 2 * w / 2 ≡ w = omega arith in
    rw (even, half)

-- an odd byte of a head is the high byte of a word
byte_odd : (geometry : Geometry) (top count w : ℕ) → head_byte geometry top count (2 * w + 1) ≡ head_word geometry top count w / 256
unfolding head_byte
byte_odd geometry top count w =
    let odd : (2 * w + 1) % 2 ≡ 1 = omega arith in
    let half : (2 * w + 1) / 2 ≡ w = omega arith in
    rw (odd, half)

-- if a head is at byte `at` of an image, word w of the head is there
pub word_is : (geometry : Geometry) (image : List ℕ) (at top count w : ℕ) → HasHead geometry image at top count → w < 101
    → word image (at + 2 * w) ≡ head_word geometry top count w
word_is geometry image at top count w head h =
    let low : get_or image (at + 2 * w) 0 ≡ head_word geometry top count w % 256 = head.bytes (2 * w) (omega arith) ∙ byte_even geometry top count w in
    let place : at + 2 * w + 1 ≡ at + (2 * w + 1) = omega arith in
    let high : get_or image (at + 2 * w + 1) 0 ≡ head_word geometry top count w / 256 =
    ap (λ k. get_or image k 0) place ∙ (head.bytes (2 * w + 1) (omega arith) ∙ byte_odd geometry top count w) in
    omega arith

-- the first word of a head is its count
pub head_count : (geometry : Geometry) (image : List ℕ) (at top count : ℕ) → HasHead geometry image at top count → word image at ≡ count
unfolding head_word
head_count geometry image at top count head =
    let place : at + 2 * 0 ≡ at = omega arith in
    ap (word image) (sym place) ∙ word_is geometry image at top count 0 head (omega arith)

-- the words of an array follow the count
word_after : (geometry : Geometry) (top count w : ℕ)
    → head_word geometry top count (w + 1) ≡ array_word geometry.edition (listed geometry top count) w
unfolding head_word
word_after geometry top count w =
    let some : (w + 1 == 0) ≡ false = grind (arith, nat_tests) in
    let less : w + 1 - 1 ≡ w = omega arith in
    rw (some, less)

-- the high word of a long of the seventh edition
high_word : (numbers : ℕ → ℕ) (j : ℕ) → array_word V7 numbers (2 * j) ≡ numbers j / 65536
unfolding array_word
high_word numbers j =
    let even : 2 * j % 2 ≡ 0 = omega arith in
    let half : 2 * j / 2 ≡ j = omega arith in
    rw (even, half)

-- the low word of a long of the seventh edition
low_word : (numbers : ℕ → ℕ) (j : ℕ) → array_word V7 numbers (2 * j + 1) ≡ numbers j % 65536
unfolding array_word
low_word numbers j =
    let odd : (2 * j + 1) % 2 ≡ 1 = omega arith in
    let half : (2 * j + 1) / 2 ≡ j = omega arith in
    rw (odd, half)

-- entry j of the array of a head is `listed`, in the sixth edition
number_v6 : (start end last : ℕ) (image : List ℕ) (at top count j : ℕ)
    → HasHead (record { edition = V6; zone_start = start; zone_end = end; last_inode = last }) image at top count → j < 100
    → number V6 image (at + 2) j ≡ listed (record { edition = V6; zone_start = start; zone_end = end; last_inode = last }) top count j
unfolding array_word
number_v6 start end last image at top count j head h =
    let geometry : Geometry = record { edition = V6; zone_start = start; zone_end = end; last_inode = last } in
    let place : at + 2 + 2 * j ≡ at + 2 * (j + 1) = omega arith in
    ap (word image) place ∙ (word_is geometry image at top count (j + 1) head (omega arith) ∙ word_after geometry top count j)

-- entry j of the array of a head is `listed`, in the seventh edition
number_v7 : (start end last : ℕ) (image : List ℕ) (at top count j : ℕ)
    → HasHead (record { edition = V7; zone_start = start; zone_end = end; last_inode = last }) image at top count → j < 50
    → number V7 image (at + 2) j ≡ listed (record { edition = V7; zone_start = start; zone_end = end; last_inode = last }) top count j
number_v7 start end last image at top count j head h =
    let geometry : Geometry = record { edition = V7; zone_start = start; zone_end = end; last_inode = last } in
    let place : at + 2 + 4 * j ≡ at + 2 * (2 * j + 1) = omega arith in
    let next : at + 2 + 4 * j + 2 ≡ at + 2 * (2 * j + 1 + 1) = omega arith in
    let high : word image (at + 2 + 4 * j) ≡ listed geometry top count j / 65536 =
    ap (word image) place ∙ (word_is geometry image at top count (2 * j + 1) head (omega arith)
    ∙ (word_after geometry top count (2 * j) ∙ high_word (listed geometry top count) j)) in
    let low : word image (at + 2 + 4 * j + 2) ≡ listed geometry top count j % 65536 =
    ap (word image) next ∙ (word_is geometry image at top count (2 * j + 1 + 1) head (omega arith)
    ∙ (word_after geometry top count (2 * j + 1) ∙ low_word (listed geometry top count) j)) in
    omega (arith, high, low)

-- entry j of the array of a head is `listed`, in either edition
number_by : (edition : Edition) (start end last : ℕ) (image : List ℕ) (at top count j : ℕ)
    → HasHead (record { edition = edition; zone_start = start; zone_end = end; last_inode = last }) image at top count
    → j < (constants edition).free_slots
    → number edition image (at + 2) j ≡ listed (record { edition = edition; zone_start = start; zone_end = end; last_inode = last }) top count j
number_by V6 start end last image at top count j head h = number_v6 start end last image at top count j head h
number_by V7 start end last image at top count j head h = number_v7 start end last image at top count j head h

-- entry j of the array of a head is `listed`
pub head_number : (geometry : Geometry) (image : List ℕ) (at top count j : ℕ) → HasHead geometry image at top count
    → j < (constants geometry.edition).free_slots → number geometry.edition image (at + 2) j ≡ listed geometry top count j
head_number geometry image at top count j head h =
    number_by geometry.edition geometry.zone_start geometry.zone_end geometry.last_inode image at top count j head h

-- entry 0 of an array is the next chain block, if there is one
pub listed_chain : (geometry : Geometry) (top count : ℕ) → top < geometry.zone_end → listed geometry top count 0 ≡ top
unfolding listed
listed_chain geometry top count h =
    let other : (top == geometry.zone_end) ≡ false = grind (arith, nat_tests) in rw other

-- entry 0 of the last array is 0
pub listed_last : (geometry : Geometry) (top count : ℕ) → top ≡ geometry.zone_end → listed geometry top count 0 ≡ 0
unfolding listed
listed_last geometry top count e =
    let same : (top == geometry.zone_end) ≡ true = grind (arith, nat_tests) in rw same

-- the other entries below the count are the blocks before the chain block, in descending order
pub listed_below : (geometry : Geometry) (top count j : ℕ) → 0 < j → j < count → listed geometry top count j ≡ top - j
unfolding listed
listed_below geometry top count j some few =
    let low : nat_lt 0 j ≡ true = grind (arith, nat_tests) in
    let high : nat_lt j count ≡ true = grind (arith, nat_tests) in
    rw (low, high)

module _ (geometry : Geometry) (head : List ℕ) (at top count : ℕ) (small : (k : ℕ) → get_or head k 0 < 256) (counted : word head at ≡ count)
    (numbers : (j : ℕ) → j < (constants geometry.edition).free_slots → number geometry.edition head (at + 2) j ≡ listed geometry top count j) where
  -- if all entries of an array are right, so are all its words
  array_is : (edition : Edition) (number_at : ℕ → ℕ)
      → ((j : ℕ) → j < (constants edition).free_slots → number edition head (at + 2) j ≡ number_at j) → (w : ℕ) → w < 100
      → word head (at + 2 * (w + 1)) ≡ array_word edition number_at w
  unfolding array_word
  array_is V6 number_at is w h =
      let place : at + 2 * (w + 1) ≡ at + 2 + 2 * w = omega arith in
      ap (word head) place ∙ is w h
  array_is V7 number_at is w h =
      let j = w / 2 in
      let value : long head (at + 2 + 4 * j) ≡ number_at j = is j (omega arith) in
      let one = small (at + 2 + 4 * j + 2) in
      let two = small (at + 2 + 4 * j + 2 + 1) in
      elim (cases_eq (w % 2) 0) [
        | inl even ↦
            let place : at + 2 * (w + 1) ≡ at + 2 + 4 * j = omega arith in
            let high : word head (at + 2 + 4 * j) ≡ number_at j / 65536 = omega arith in
            ap (word head) place ∙ (high ∙ sym (rw even))
        | inr odd ↦
            let place : at + 2 * (w + 1) ≡ at + 2 + 4 * j + 2 = omega (arith, odd) in
            let low : word head (at + 2 + 4 * j + 2) ≡ number_at j % 65536 = omega arith in
            let other : (w % 2 == 0) ≡ false = grind (arith, nat_tests, odd) in
            ap (word head) place ∙ (low ∙ sym (rw other))
      ]

  -- if the count and the array are right, so are all words of the head
  words_are : (w : ℕ) → w < 101 → word head (at + 2 * w) ≡ head_word geometry top count w
  unfolding head_word
  words_are zero h =
      let place : at + 2 * 0 ≡ at = omega arith in
      ap (word head) place ∙ counted
  words_are (suc w) h =
      let next : suc w ≡ w + 1 = omega arith in
      ap (λ n. word head (at + 2 * n)) next
      ∙ (array_is geometry.edition (listed geometry top count) numbers w (omega arith)
      ∙ (sym (word_after geometry top count w) ∙ ap (head_word geometry top count) (sym next)))

  -- if all words of a head are right, so are all its bytes
  pub head_stands : HasHead geometry head at top count
  head_stands = record {
    bytes = λ r h.
        let w = r / 2 in
        let value : word head (at + 2 * w) ≡ head_word geometry top count w = words_are w (omega arith) in
        let low = small (at + 2 * w) in
        let high = small (at + 2 * w + 1) in
        elim (cases_eq (r % 2) 0) [
          | inl even ↦
              let place : r ≡ 2 * w = omega arith in
              let is : get_or head (at + 2 * w) 0 ≡ head_word geometry top count w % 256 = omega arith in
              ap (λ n. get_or head (at + n) 0) place ∙ (is ∙ (sym (byte_even geometry top count w) ∙ ap (head_byte geometry top count) (sym place)))
          | inr odd ↦
              let place : r ≡ 2 * w + 1 = omega (arith, odd) in
              let there : at + r ≡ at + 2 * w + 1 = omega (arith, place) in
              let is : get_or head (at + 2 * w + 1) 0 ≡ head_word geometry top count w / 256 = omega arith in
              ap (λ n. get_or head n 0) there ∙ (is ∙ (sym (byte_odd geometry top count w) ∙ ap (head_byte geometry top count) (sym place)))
        ];
  }
