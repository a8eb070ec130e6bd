-- The logical blocks touched by a range of bytes.
use Rattle.std.proofs.Common.{◌≡◌, ℕ, zero, suc, ◌+◌, ◌-◌, ◌*◌, ◌/◌, ◌<◌, ◌≤◌, arith, inl, inr}
use Rattle.std.specs.List.{range_with_len}
use Rattle.std.proofs.lemmas.Bool.{cases_lt, cases_eq}
use Rattle.vol_free.specs.Stack.{IsIn}
use Rattle.vol_file.specs.Shape.{touched}

-- a number in a range is within its bounds
pub range_in : (x a n : ℕ) → IsIn x (range_with_len a n) → (a ≤ x) × (x < a + n)
unfolding IsIn
range_in x a zero within = absurd within
range_in x a (suc n) (inl e) = (omega arith, omega arith)
range_in x a (suc n) (inr within) = let rest = range_in x (a + 1) n within in (omega (arith, rest.0), omega (arith, rest.1))

-- a number within the bounds of a range is in it
pub in_range : (x a n : ℕ) → a ≤ x → x < a + n → IsIn x (range_with_len a n)
unfolding IsIn
in_range x a zero from below = absurd (omega arith)
in_range x a (suc n) from below = elim (cases_eq x a) [
  | inl e ↦ inl e
  | inr other ↦ inr (in_range x (a + 1) n (omega arith) (omega arith))
]

-- no bytes touch no logical block
none_touched : (offset b : ℕ) → IsIn b (touched offset 0) → ⊥
unfolding IsIn
none_touched offset b within = within

-- a logical block that is touched contains one of the bytes
pub touched_byte : (offset len b : ℕ) → IsIn b (touched offset len) → (n : ℕ) × (offset ≤ n) × (n < offset + len) × (n / 512 ≡ b)
touched_byte offset zero b within = absurd (none_touched offset b within)
touched_byte offset (suc n) b within =
    let at = range_in b (offset / 512) ((offset + n) / 512 - offset / 512 + 1) within in
    let low : offset / 512 ≤ b = at.0 in
    let high : b ≤ (offset + n) / 512 = omega (arith, at.1) in
    elim (cases_lt offset (512 * b)) [
      | inl before ↦ (512 * b, omega arith, omega arith, omega arith)
      | inr inside ↦ (offset, omega arith, omega arith, omega arith)
    ]

-- a logical block that contains one of the bytes is touched
pub byte_touched : (offset len b n : ℕ) → offset ≤ n → n < offset + len → n / 512 ≡ b → IsIn b (touched offset len)
byte_touched offset zero b n from below here = absurd (omega arith)
byte_touched offset (suc m) b n from below here =
    in_range b (offset / 512) ((offset + m) / 512 - offset / 512 + 1) (omega arith) (omega arith)
