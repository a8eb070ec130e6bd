-- The bits of a mode, expressed by division and remainder.
use Rattle.std.proofs.Common.{◌≡◌, ℕ, ◌+◌, ◌*◌, ◌/◌, ◌%◌, ◌<◌, ◌≤◌, ◌∙◌, ap, arith, bit_and, bit_or}
use Rattle.std.specs.Int.Bits.{or_zero_l}
use Rattle.std.proofs.lemmas.Nat.{and_block, and_mask, or_block, or_disjoint, or_lt, le_or_r}
use Rattle.std.proofs.lemmas.Nat.Bits.{and_pow, and_high, and_high_mask}

-- the large flag is bit 12 of the mode
pub large_bit : (n : ℕ) → bit_and n 4096 ≡ n / 4096 % 2 * 4096
large_bit n = and_pow n 12

-- the sixth edition's allocated bit is bit 15 of the mode
pub allocated_bit : (n : ℕ) → bit_and n 32768 ≡ n / 32768 % 2 * 32768
allocated_bit n = and_pow n 15

-- the sixth edition's type bits are bits 13 and 14 of the mode
pub type_v6 : (n : ℕ) → bit_and n 24576 ≡ n / 8192 % 4 * 8192
type_v6 n = and_high n 2 13

-- setting no bit does not change a number
or_zero : (n : ℕ) → bit_or n 0 ≡ n
or_zero n = or_disjoint n 0 (let e : bit_and n 0 ≡ n % 1 = and_mask n 0 in omega (arith, e)) ∙ omega arith

-- setting bit 0 makes a number odd
or_one : (n : ℕ) → bit_or n 1 ≡ n / 2 * 2 + 1
or_one n =
    let parts : n ≡ n / 2 * 2 + n % 2 = omega arith in
    let low : n % 2 < 2 = omega arith in
    let some : 1 ≤ bit_or (n % 2) 1 = le_or_r (n % 2) 1 in
    let most : bit_or (n % 2) 1 < 2 = or_lt 1 (n % 2) 1 low (omega arith) in
    let blocks : bit_or (n / 2 * 2 + n % 2) 1 ≡ bit_or (n / 2) 0 * 2 + bit_or (n % 2) 1 = or_block 1 (n / 2) 0 (n % 2) 1 low (omega arith) in
    ap (λ m. bit_or m 1) parts ∙ omega (arith, blocks, or_zero (n / 2), some, most)

-- setting the large flag replaces bit 12 by 1
pub large_set : (n : ℕ) → bit_or n 4096 ≡ n % 4096 + n / 8192 * 8192 + 4096
large_set n =
    let parts : n ≡ n / 4096 * 4096 + n % 4096 = omega arith in
    let blocks : bit_or (n / 4096 * 4096 + n % 4096) 4096 ≡ bit_or (n / 4096) 1 * 4096 + bit_or (n % 4096) 0 =
    or_block 12 (n / 4096) 1 (n % 4096) 0 (omega arith) (omega arith) in
    ap (λ m. bit_or m 4096) parts ∙ omega (arith, blocks, or_one (n / 4096), or_zero (n % 4096))

-- clearing the large flag replaces bit 12 by 0
pub large_cleared : (n : ℕ) → n < 65536 → bit_and n 61439 ≡ n % 4096 + n / 8192 * 8192
large_cleared n h =
    let parts : n ≡ n / 4096 * 4096 + n % 4096 = omega arith in
    let blocks : bit_and (n / 4096 * 4096 + n % 4096) 61439 ≡ bit_and (n / 4096) 14 * 4096 + bit_and (n % 4096) 4095 =
    and_block 12 (n / 4096) 14 (n % 4096) 4095 (omega arith) (omega arith) in
    let high : bit_and (n / 4096) 14 ≡ n / 4096 / 2 * 2 = and_high_mask 4 1 (omega arith) (n / 4096) (omega arith) in
    let low : bit_and (n % 4096) 4095 ≡ n % 4096 % 4096 = and_mask (n % 4096) 12 in
    ap (λ m. bit_and m 61439) parts ∙ omega (arith, blocks, high, low)

-- setting the permission bits replaces the lowest twelve bits of a mode
pub permissions_put : (n bits : ℕ) → n < 65536 → bit_or (bit_and n 61440) (bit_and bits 4095) ≡ n / 4096 * 4096 + bits % 4096
permissions_put n bits h =
    let high : bit_and n 61440 ≡ n / 4096 * 4096 = and_high_mask 16 12 (omega arith) n h in
    let low : bit_and bits 4095 ≡ bits % 4096 = and_mask bits 12 in
    let left : n / 4096 * 4096 ≡ n / 4096 * 4096 + 0 = omega arith in
    let right : bits % 4096 ≡ 0 * 4096 + bits % 4096 = omega arith in
    let blocks : bit_or (n / 4096 * 4096 + 0) (0 * 4096 + bits % 4096) ≡ bit_or (n / 4096) 0 * 4096 + bit_or 0 (bits % 4096) =
    or_block 12 (n / 4096) 0 0 (bits % 4096) (omega arith) (omega arith) in
    ap (λ a. bit_or a (bit_and bits 4095)) (high ∙ left)
    ∙ (ap (bit_or (n / 4096 * 4096 + 0)) (low ∙ right)
    ∙ (blocks ∙ ap (λ m. m * 4096 + bit_or 0 (bits % 4096)) (or_zero (n / 4096)) ∙ ap (λ m. n / 4096 * 4096 + m) (or_zero_l (bits % 4096))))
