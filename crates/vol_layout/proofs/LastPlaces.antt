-- The position that points to a logical block in each range of the block map.
use Rattle.std.proofs.Common.{◌≡◌, ℕ, ◌-◌, ◌/◌, ◌%◌, ◌<◌, ◌≤◌, [], ◌∷◌, refl, arith, Some}
use Rattle.std.proofs.lemmas.Bool.{lt-ltb, le-ltb}
use Rattle.vol_layout.specs.BlockMaps.{last_place}
use Rattle.vol_layout.specs.declared.block_map.BlockMap.TheVariants.{Small, Large, Deep}

-- logical block `b` of a small file is at address `b`
pub last_small : (b : ℕ) → b < 8 → last_place Small b ≡ Some (b ∷ [])
unfolding last_place
last_small b h = rw (lt-ltb b 8 h) refl

-- logical block `b` of a large file, below 1792, is entry `b % 256` of the indirect block at address `b / 256`
pub last_large : (b : ℕ) → b < 1792 → last_place Large b ≡ Some ((b % 256) ∷ ((b / 256) ∷ []))
unfolding last_place
last_large b h = rw (lt-ltb b 1792 h) refl

-- logical block `b` of a large file, 1792 or higher, is entry `b % 256` of the block at entry `b / 256 - 7` of the doubly indirect block
pub last_huge : (b : ℕ) → 1792 ≤ b → b < 32768 → last_place Large b ≡ Some ((b % 256) ∷ ((b / 256 - 7) ∷ (7 ∷ [])))
unfolding last_place
last_huge b low h = rw (le-ltb b 1792 low, lt-ltb b 32768 h) refl

-- direct block `b` of the seventh edition is at address `b`
pub last_direct : (b : ℕ) → b < 10 → last_place Deep b ≡ Some (b ∷ [])
unfolding last_place
last_direct b h = rw (lt-ltb b 10 h) refl

-- logical block `b` below the indirect block of the seventh edition is its entry `b - 10`
pub last_single : (b : ℕ) → 10 ≤ b → b < 138 → last_place Deep b ≡ Some ((b - 10) ∷ (10 ∷ []))
unfolding last_place
last_single b low h = rw (le-ltb b 10 low, lt-ltb b 138 h) refl

-- logical block `b` below the doubly indirect block of the seventh edition is at these indexes
pub last_double : (b : ℕ) → 138 ≤ b → b < 16522 → last_place Deep b ≡ Some (((b - 138) % 128) ∷ (((b - 138) / 128) ∷ (11 ∷ [])))
unfolding last_place
last_double b low h =
    let first : 10 ≤ b = omega arith in rw (le-ltb b 10 first, le-ltb b 138 low, lt-ltb b 16522 h) refl

-- logical block `b` below the triply indirect block of the seventh edition is at these indexes
pub last_triple : (b : ℕ) → 16522 ≤ b → b < 2113674
    → last_place Deep b ≡ Some (((b - 16522) % 128) ∷ (((b - 16522) / 128 % 128) ∷ (((b - 16522) / 16384) ∷ (12 ∷ []))))
unfolding last_place
last_triple b low h =
    let first : 10 ≤ b = omega arith in
    let second : 138 ≤ b = omega arith in
    rw (le-ltb b 10 first, le-ltb b 138 second, le-ltb b 16522 low, lt-ltb b 2113674 h) refl
