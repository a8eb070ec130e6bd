-- Numbers before or after the bytes that a write has changed.
use Rattle.std.proofs.Common.{◌≡◌, ℕ, ◌+◌, ◌≤◌, List, slice_index, arith}
use Rattle.pdp_words.specs.Words.{SameOutside, word, long, addr3}

-- a write does not change a byte before its range
pub byte_below : {old new : List ℕ} {from to : ℕ} → SameOutside old new from to → (at : ℕ) → at + 1 ≤ from
    → slice_index new at ≡ slice_index old at
byte_below s at h = s.below at (omega arith)

-- a write does not change a byte after its range
pub byte_above : {old new : List ℕ} {from to : ℕ} → SameOutside old new from to → (at : ℕ) → to ≤ at
    → slice_index new at ≡ slice_index old at
byte_above s at h = s.above at h

-- a write does not change a word before its range
pub word_below : {old new : List ℕ} {from to : ℕ} → SameOutside old new from to → (at : ℕ) → at + 2 ≤ from
    → word new at ≡ word old at
word_below s at h = rw (byte_below s at (omega arith), byte_below s (at + 1) (omega arith))

-- a write does not change a word after its range
pub word_above : {old new : List ℕ} {from to : ℕ} → SameOutside old new from to → (at : ℕ) → to ≤ at
    → word new at ≡ word old at
word_above s at h = rw (byte_above s at h, byte_above s (at + 1) (omega arith))

-- a write does not change a long before its range
pub long_below : {old new : List ℕ} {from to : ℕ} → SameOutside old new from to → (at : ℕ) → at + 4 ≤ from
    → long new at ≡ long old at
long_below s at h = omega (arith, word_below s at (omega arith), word_below s (at + 2) (omega arith))

-- a write does not change a long after its range
pub long_above : {old new : List ℕ} {from to : ℕ} → SameOutside old new from to → (at : ℕ) → to ≤ at
    → long new at ≡ long old at
long_above s at h = omega (arith, word_above s at h, word_above s (at + 2) (omega arith))

-- a write does not change a three-byte address before its range
pub addr3_below : {old new : List ℕ} {from to : ℕ} → SameOutside old new from to → (at : ℕ) → at + 3 ≤ from
    → addr3 new at ≡ addr3 old at
addr3_below s at h =
    rw (byte_below s at (omega arith), byte_below s (at + 1) (omega arith), byte_below s (at + 2) (omega arith))

-- a write does not change a three-byte address after its range
pub addr3_above : {old new : List ℕ} {from to : ℕ} → SameOutside old new from to → (at : ℕ) → to ≤ at
    → addr3 new at ≡ addr3 old at
addr3_above s at h =
    rw (byte_above s at h, byte_above s (at + 1) (omega arith), byte_above s (at + 2) (omega arith))
