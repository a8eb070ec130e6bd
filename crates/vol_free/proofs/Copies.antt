-- Bytes copied to another position or to another image, and the numbers that they form.
use Rattle.std.proofs.Common.{◌≡◌, ℕ, ◌+◌, ◌*◌, ◌<◌, ◌≤◌, List, slice_index, arith, ◌∙◌}
use Rattle.pdp_words.specs.Words.{word, long, SameOutside}
use Rattle.vol_layout.specs.Edition.{constants, number}
use Rattle.vol_layout.specs.declared.edition.Edition.{Edition}
use Rattle.vol_layout.specs.declared.edition.Edition.TheVariants.{V6, V7}

-- the `size` bytes of `new` at byte `to` equal the `size` bytes of `old` at byte `from`
pub record IsCopy (old new : List ℕ) (from to size : ℕ) : Type 0 where
  pub bytes : (k : ℕ) → k < size → slice_index new (to + k) ≡ slice_index old (from + k)

-- a byte in copied bytes is the same at both positions
pub byte_copied : {old new : List ℕ} {from to size : ℕ} → IsCopy old new from to size → (p q k : ℕ) → p ≡ to + k → q ≡ from + k
    → k < size → slice_index new p ≡ slice_index old q
byte_copied c p q k e f h = rw (e, f) (c.bytes k h)

-- a word in copied bytes is the same at both positions
pub word_copied : {old new : List ℕ} {from to size : ℕ} → IsCopy old new from to size → (p q k : ℕ) → p ≡ to + k → q ≡ from + k
    → k + 2 ≤ size → word new p ≡ word old q
word_copied c p q k e f h =
    rw (byte_copied c p q k e f (omega arith), byte_copied c (p + 1) (q + 1) (k + 1) (omega arith) (omega arith) (omega arith))

-- a long in copied bytes is the same at both positions
pub long_copied : {old new : List ℕ} {from to size : ℕ} → IsCopy old new from to size → (p q k : ℕ) → p ≡ to + k → q ≡ from + k
    → k + 4 ≤ size → long new p ≡ long old q
long_copied c p q k e f h =
    rw (word_copied c p q k e f (omega arith), word_copied c (p + 2) (q + 2) (k + 2) (omega arith) (omega arith) (omega arith))

-- a part of copied bytes is copied
pub copied_part : {old new : List ℕ} {from to size : ℕ} → IsCopy old new from to size → (p q skip part : ℕ) → p ≡ to + skip
    → q ≡ from + skip → skip + part ≤ size → IsCopy old new q p part
copied_part c p q skip part e f h =
    record { bytes = λ k below. byte_copied c (p + k) (q + k) (skip + k) (omega arith) (omega arith) (omega arith) }

-- a copy of a copy is a copy of the original
pub copied_twice : {a b c : List ℕ} {p q r size : ℕ} → IsCopy a b p q size → IsCopy b c q r size → IsCopy a c p r size
copied_twice s t = record { bytes = λ k h. t.bytes k h ∙ s.bytes k h }

-- a write does not change the bytes before it
pub copied_below : {old new : List ℕ} {from to : ℕ} → SameOutside old new from to → (at size : ℕ) → at + size ≤ from
    → IsCopy old new at at size
copied_below s at size h = record { bytes = λ k below. s.below (at + k) (omega arith) }

-- a write does not change the bytes after it
pub copied_above : {old new : List ℕ} {from to : ℕ} → SameOutside old new from to → (at size : ℕ) → to ≤ at
    → IsCopy old new at at size
copied_above s at size h = record { bytes = λ k below. s.above (at + k) (omega arith) }

-- a block number in a copied array is the same in both arrays
pub number_copied : {old new : List ℕ} {from to : ℕ} → (edition : Edition) → IsCopy old new from to 200 → (j : ℕ)
    → j < (constants edition).free_slots → number edition new to j ≡ number edition old from j
number_copied {from = from} {to = to} V6 c j h =
    word_copied c (to + 2 * j) (from + 2 * j) (2 * j) (omega arith) (omega arith) (omega arith)
number_copied {from = from} {to = to} V7 c j h =
    long_copied c (to + 4 * j) (from + 4 * j) (4 * j) (omega arith) (omega arith) (omega arith)
