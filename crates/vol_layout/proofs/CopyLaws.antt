-- Laws of bytes that are the same in two images, because a write didn't change them or copied them.
use Rattle.std.proofs.Common.{◌≡◌, ◌≢◌, ℕ, ◌+◌, ◌*◌, ◌<◌, ◌≤◌, ◌∙◌, sym, ap, List, get_or, refl, arith, inl, inr}
use Rattle.std.proofs.lemmas.Bool.{cases_lt}
use Rattle.pdp_words.specs.Words.{word, long, addr3, SameOutside}
use Rattle.vol_layout.specs.Edition.{constants, number}
use Rattle.vol_layout.specs.declared.edition.Edition.{Edition}
use Rattle.vol_layout.specs.declared.edition.Edition.TheVariants.{V6, V7}

-- the `size` bytes of `new` at byte `to` equal the `size` bytes of `old` at byte `from`
pub record IsCopy (old new : List ℕ) (from to size : ℕ) : Type 0 where
  pub bytes : (r : ℕ) → r < size → get_or new (to + r) 0 ≡ get_or old (from + r) 0

-- a write does not change the bytes before it
pub copy_below : (old new : List ℕ) (from to at size : ℕ) → SameOutside old new from to → at + size ≤ from → IsCopy old new at at size
copy_below old new from to at size same h = record { bytes = λ r b. same.below (at + r) (omega arith) }

-- a write does not change the bytes after it
pub copy_above : (old new : List ℕ) (from to at size : ℕ) → SameOutside old new from to → to ≤ at → IsCopy old new at at size
copy_above old new from to at size same h = record { bytes = λ r b. same.above (at + r) (omega arith) }

-- a write within a block does not change another block
pub copy_block : (old new : List ℕ) (m k : ℕ) → SameOutside old new (512 * k) (512 * k + 512) → m ≢ k → IsCopy old new (512 * m) (512 * m) 512
copy_block old new m k same other =
    elim (cases_lt m k) [
      | inl h ↦ copy_below old new (512 * k) (512 * k + 512) (512 * m) 512 same (omega arith)
      | inr h ↦ copy_above old new (512 * k) (512 * k + 512) (512 * m) 512 same (omega arith)
    ]

-- a byte in copied bytes is the same at both positions
pub byte_copied : (old new : List ℕ) (from to size r a b : ℕ) → IsCopy old new from to size → r < size → from + r ≡ a → to + r ≡ b
    → get_or new b 0 ≡ get_or old a 0
byte_copied old new from to size r a b copy h e f =
    ap (λ x. get_or new x 0) (sym f) ∙ (copy.bytes r h ∙ ap (λ x. get_or old x 0) e)

-- a word in copied bytes is the same at both positions
pub word_copied : (old new : List ℕ) (from to size r a b : ℕ) → IsCopy old new from to size → r + 2 ≤ size → from + r ≡ a → to + r ≡ b
    → word new b ≡ word old a
word_copied old new from to size r a b copy h e f =
    let low : get_or new b 0 ≡ get_or old a 0 = byte_copied old new from to size r a b copy (omega arith) e f in
    let high : get_or new (b + 1) 0 ≡ get_or old (a + 1) 0 = byte_copied old new from to size (r + 1) (a + 1) (b + 1) copy (omega arith) (omega arith) (omega arith) in
    omega arith

-- a long in copied bytes is the same at both positions
pub long_copied : (old new : List ℕ) (from to size r a b : ℕ) → IsCopy old new from to size → r + 4 ≤ size → from + r ≡ a → to + r ≡ b
    → long new b ≡ long old a
long_copied old new from to size r a b copy h e f =
    let high : word new b ≡ word old a = word_copied old new from to size r a b copy (omega arith) e f in
    let low : word new (b + 2) ≡ word old (a + 2) = word_copied old new from to size (r + 2) (a + 2) (b + 2) copy (omega arith) (omega arith) (omega arith) in
    omega arith

-- a three-byte address in copied bytes is the same at both positions
pub addr3_copied : (old new : List ℕ) (from to size r a b : ℕ) → IsCopy old new from to size → r + 3 ≤ size → from + r ≡ a → to + r ≡ b
    → addr3 new b ≡ addr3 old a
addr3_copied old new from to size r a b copy h e f =
    let high : get_or new b 0 ≡ get_or old a 0 = byte_copied old new from to size r a b copy (omega arith) e f in
    let low : get_or new (b + 1) 0 ≡ get_or old (a + 1) 0 = byte_copied old new from to size (r + 1) (a + 1) (b + 1) copy (omega arith) (omega arith) (omega arith) in
    let middle : get_or new (b + 2) 0 ≡ get_or old (a + 2) 0 = byte_copied old new from to size (r + 2) (a + 2) (b + 2) copy (omega arith) (omega arith) (omega arith) in
    omega arith

-- a block number in a copied array is the same in both arrays
pub number_copied : (edition : Edition) (old new : List ℕ) (from to size j : ℕ) → IsCopy old new from to size
    → (constants edition).number_bytes * j + (constants edition).number_bytes ≤ size → number edition new to j ≡ number edition old from j
number_copied V6 old new from to size j copy h = word_copied old new from to size (2 * j) (from + 2 * j) (to + 2 * j) copy h refl refl
number_copied V7 old new from to size j copy h = long_copied old new from to size (4 * j) (from + 4 * j) (to + 4 * j) copy h refl refl

-- each block number of an indirect block is stored within its 512 bytes
pub number_room : (edition : Edition) (j : ℕ) → j < (constants edition).pointers
    → (constants edition).number_bytes * j + (constants edition).number_bytes ≤ 512
number_room V6 j h = omega arith
number_room V7 j h = omega arith

-- a write within block `k` does not change the block numbers in another block
pub number_kept : (edition : Edition) (old new : List ℕ) (m k j : ℕ) → SameOutside old new (512 * k) (512 * k + 512) → m ≢ k
    → j < (constants edition).pointers → number edition new (512 * m) j ≡ number edition old (512 * m) j
number_kept edition old new m k j same other h =
    number_copied edition old new (512 * m) (512 * m) 512 j (copy_block old new m k same other) (number_room edition j h)
