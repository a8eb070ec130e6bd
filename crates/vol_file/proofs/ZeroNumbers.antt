-- Laws of block numbers some of whose bytes are known.
use Rattle.std.proofs.Common.{◌≡◌, ◌≢◌, ℕ, ◌+◌, ◌-◌, ◌*◌, ◌/◌, ◌<◌, ◌≤◌, ◌∙◌, ap, List, slice_index, arith, inl, inr}
use Rattle.std.proofs.lemmas.Bool.{cases_eq}
use Rattle.vol_layout.specs.Edition.{constants, number}
use Rattle.vol_layout.specs.declared.edition.Edition.{Edition}
use Rattle.vol_layout.specs.declared.edition.Edition.TheVariants.{V6, V7}

-- a number whose bytes are all 0 is 0
pub zero_number : (edition : Edition) (image : List ℕ) (at j : ℕ)
    → ((k : ℕ) → at + (constants edition).number_bytes * j ≤ k → k < at + (constants edition).number_bytes * (j + 1) → slice_index image k ≡ 0)
    → number edition image at j ≡ 0
zero_number V6 image at j none = omega (arith, none (at + 2 * j) (omega arith) (omega arith), none (at + 2 * j + 1) (omega arith) (omega arith))
zero_number V7 image at j none =
    omega (
      arith,
      none (at + 4 * j) (omega arith) (omega arith),
      none (at + 4 * j + 1) (omega arith) (omega arith),
      none (at + 4 * j + 2) (omega arith) (omega arith),
      none (at + 4 * j + 2 + 1) (omega arith) (omega arith),
    )

-- all bytes of a number that is 0 are 0
pub zero_byte : (edition : Edition) (image : List ℕ) (at j k : ℕ) → at + (constants edition).number_bytes * j ≤ k
    → k < at + (constants edition).number_bytes * (j + 1) → number edition image at j ≡ 0 → slice_index image k ≡ 0
zero_byte V6 image at j k from within none =
    elim (cases_eq k (at + 2 * j)) [
      | inl e ↦ ap (slice_index image) e ∙ omega arith
      | inr other ↦ let e : k ≡ at + 2 * j + 1 = omega arith in ap (slice_index image) e ∙ omega arith
    ]
zero_byte V7 image at j k from within none =
    elim (cases_eq k (at + 4 * j)) [
      | inl e ↦ ap (slice_index image) e ∙ omega arith
      | inr first ↦ elim (cases_eq k (at + 4 * j + 1)) [
        | inl e ↦ ap (slice_index image) e ∙ omega arith
        | inr second ↦ elim (cases_eq k (at + 4 * j + 2)) [
          | inl e ↦ ap (slice_index image) e ∙ omega arith
          | inr third ↦ let e : k ≡ at + 4 * j + 2 + 1 = omega arith in ap (slice_index image) e ∙ omega arith
        ]
      ]
    ]

-- the numbers before the first byte that isn't 0 are 0
pub zeros_before : (edition : Edition) (image : List ℕ) (at from found k : ℕ)
    → ((n : ℕ) → at + (constants edition).number_bytes * from ≤ n → n < found → slice_index image n ≡ 0)
    → from ≤ k → k < (found - at) / (constants edition).number_bytes → number edition image at k ≡ 0
zeros_before V6 image at from found k zeros low high = zero_number V6 image at k (λ n start end. zeros n (omega arith) (omega arith))
zeros_before V7 image at from found k zeros low high = zero_number V7 image at k (λ n start end. zeros n (omega arith) (omega arith))

-- the number that contains a byte that isn't 0 isn't 0
pub some_at : (edition : Edition) (image : List ℕ) (at found : ℕ) → at ≤ found → slice_index image found ≢ 0
    → number edition image at ((found - at) / (constants edition).number_bytes) ≢ 0
some_at V6 image at found order some none = some (zero_byte V6 image at ((found - at) / 2) found (omega arith) (omega arith) none)
some_at V7 image at found order some none = some (zero_byte V7 image at ((found - at) / 4) found (omega arith) (omega arith) none)

-- if a byte is within a block, the number that contains it is one of the block's entries
pub found_within : (edition : Edition) (at found : ℕ) → at ≤ found
    → (found - at) / (constants edition).number_bytes < (constants edition).pointers → found < at + 512
found_within V6 at found order within = omega arith
found_within V7 at found order within = omega arith
