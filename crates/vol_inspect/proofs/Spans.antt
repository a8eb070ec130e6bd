-- Bounds of the logical blocks below an entry.
use Rattle.std.proofs.Common.{◌≡◌, ℕ, suc, ◌+◌, ◌-◌, ◌*◌, ◌^◌, ◌<◌, ◌≤◌, arith, ap, sym, ◌∙◌}
use Rattle.std.proofs.Math.Nat.{mul-le-mul_left, pow-suc, pow-le-pow_right}
use Rattle.vol_layout.specs.Edition.{constants}
use Rattle.vol_layout.specs.declared.edition.Edition.{Edition}
use Rattle.vol_layout.specs.declared.edition.Edition.TheVariants.{V6, V7}

-- the logical blocks below an entry of a block are below the limit if those of the block are
pub entry_room : (p d logical j s : ℕ) → 1 ≤ d → j < p → s ≡ p ^ (d - 1) → logical + p ^ d < 2147483648 → logical + j * s + s < 2147483648
entry_room p d logical j s deep within size room =
    let d' : d ≡ suc (d - 1) = omega arith in
    let all : p ^ d ≡ p ^ suc (d - 1) = ap (λ x. p ^ x) d' in
    let below : p ^ suc (d - 1) ≡ s * p = pow-suc p (d - 1) ∙ ap (λ x. x * p) (sym size) in
    let more : s * (j + 1) ≤ s * p = mul-le-mul_left s (omega arith) in
    omega (arith, all, below, more)

-- the logical blocks below an address are below the same limit
pub address_room : (edition : Edition) (d logical : ℕ) → d ≤ 3 → logical ≤ 16522 → logical + (constants edition).pointers ^ d < 2147483648
address_room V6 d logical few low =
    let most : (constants V6).pointers ^ d ≤ 16777216 = pow-le-pow_right {n = 256} (omega arith) few in omega arith
address_room V7 d logical few low =
    let most : (constants V7).pointers ^ d ≤ 2097152 = pow-le-pow_right {n = 128} (omega arith) few in omega arith
