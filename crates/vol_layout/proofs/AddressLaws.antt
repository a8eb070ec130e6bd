-- Writes of one address, the size or the mode of an i-node do not change the bytes of the others.
use Rattle.std.proofs.Common.{◌≡◌, ◌≢◌, ℕ, ◌+◌, ◌*◌, ◌<◌, ◌≤◌, List, refl, arith, inl, inr, if◌then◌else◌, true, false, ltb}
use Rattle.std.proofs.lemmas.Bool.{cases_lt, ltb-true}
use Rattle.pdp_words.specs.Words.{word, SameOutside}
use Rattle.pdp_words.proofs.Below.{byte_below, word_below, word_above, long_below, long_above, addr3_below, addr3_above}
use Rattle.vol_layout.specs.Edition.{constants}
use Rattle.vol_layout.specs.Geometry.{Fits}
use Rattle.vol_layout.specs.Inode.{inode_place, address_at, address_count, address_bytes, address_offset, address_place, size_at, size_bytes, size_place}
use Rattle.vol_layout.specs.BlockPointers.{mode_of}
use Rattle.vol_layout.specs.declared.edition.Edition.{Edition}
use Rattle.vol_layout.specs.declared.edition.Edition.TheVariants.{V6, V7}
use Rattle.vol_layout.specs.declared.geometry.Geometry.{Geometry}
use Rattle.pdp_words.proofs.Outside.{widen}
use Rattle.vol_layout.proofs.InodeLaws.{KeepsInode, inode_apart, place_from, place_room}

-- address `j` of a sixth edition i-node is unchanged if its word is unchanged
word_address : (old new : List ℕ) (at j : ℕ) → (j < 8 → word new (at + 8 + 2 * j) ≡ word old (at + 8 + 2 * j))
    → address_at V6 new at j ≡ address_at V6 old at j
word_address old new at j same =
    elim (ltb j 8) as (λ t. ltb j 8 ≡ t → (if t then word new (at + 8 + 2 * j) else 0) ≡ (if t then word old (at + 8 + 2 * j) else 0))
    [ true ↦ λ t. same (ltb-true j 8 t) | false ↦ λ t. refl ] refl

-- a write that begins after an address does not change the address
pub address_below : (edition : Edition) {old new : List ℕ} {from to : ℕ} → SameOutside old new from to → (at j : ℕ)
    → at + address_offset edition + address_bytes edition * (j + 1) ≤ from → address_at edition new at j ≡ address_at edition old at j
address_below V6 {old} {new} same at j h = word_address old new at j (λ low. word_below same (at + 8 + 2 * j) (omega arith))
address_below V7 same at j h = addr3_below same (at + 12 + 3 * j) (omega arith)

-- a write of address `k` does not change the other addresses of the i-node
pub address_others : (edition : Edition) (old new : List ℕ) (i k j : ℕ)
    → SameOutside old new (address_place edition i k) (address_place edition i k + address_bytes edition)
    → j ≢ k → address_at edition new (inode_place edition i) j ≡ address_at edition old (inode_place edition i) j
address_others V6 old new i k j same other =
    word_address old new (inode_place V6 i) j (λ h. elim (cases_lt j k) [
      | inl less ↦ word_below same (inode_place V6 i + 8 + 2 * j) (omega arith)
      | inr more ↦ word_above same (inode_place V6 i + 8 + 2 * j) (omega arith)
    ])
address_others V7 old new i k j same other =
    elim (cases_lt j k) [
      | inl less ↦ addr3_below same (inode_place V7 i + 12 + 3 * j) (omega arith)
      | inr more ↦ addr3_above same (inode_place V7 i + 12 + 3 * j) (omega arith)
    ]

-- an address is stored within its i-node, after the mode and the size
pub address_within : (edition : Edition) (i k : ℕ) → k < address_count edition
    → (inode_place edition i + address_offset edition ≤ address_place edition i k)
    × (address_place edition i k + address_bytes edition ≤ inode_place edition i + (constants edition).inode_bytes)
address_within V6 i k h = (omega arith, omega arith)
address_within V7 i k h = (omega arith, omega arith)

-- the size is stored within its i-node, after the mode and right before the addresses
pub size_within : (edition : Edition) (i : ℕ) → (inode_place edition i + 2 ≤ size_place edition i)
    × (size_place edition i + size_bytes edition ≡ inode_place edition i + address_offset edition)
    × (inode_place edition i + address_offset edition ≤ inode_place edition i + (constants edition).inode_bytes)
size_within V6 i = (omega arith, omega arith, omega arith)
size_within V7 i = (omega arith, omega arith, omega arith)

-- the addresses are stored after the mode
pub mode_within : (edition : Edition) (i : ℕ) → (inode_place edition i + 2 ≤ inode_place edition i + address_offset edition)
    × (inode_place edition i + 2 ≤ inode_place edition i + (constants edition).inode_bytes)
mode_within V6 i = (omega arith, omega arith)
mode_within V7 i = (omega arith, omega arith)

-- a write that ends before the addresses does not change them
pub addresses_before : (edition : Edition) (old new : List ℕ) (i from to j : ℕ) → SameOutside old new from to
    → to ≤ inode_place edition i + address_offset edition
    → address_at edition new (inode_place edition i) j ≡ address_at edition old (inode_place edition i) j
addresses_before V6 old new i from to j same h =
    word_address old new (inode_place V6 i) j (λ low. word_above same (inode_place V6 i + 8 + 2 * j) (omega arith))
addresses_before V7 old new i from to j same h = addr3_above same (inode_place V7 i + 12 + 3 * j) (omega arith)

-- a write that begins after the mode does not change the mode
pub mode_behind : (geometry : Geometry) (old new : List ℕ) (i from to : ℕ) → SameOutside old new from to
    → inode_place geometry.edition i + 2 ≤ from → mode_of geometry new i ≡ mode_of geometry old i
mode_behind geometry old new i from to same h = word_below same (inode_place geometry.edition i) h

-- a write that begins after the size does not change the size
pub size_behind : (edition : Edition) (old new : List ℕ) (i from to : ℕ) → SameOutside old new from to
    → inode_place edition i + address_offset edition ≤ from
    → size_at edition new (inode_place edition i) ≡ size_at edition old (inode_place edition i)
size_behind V6 old new i from to same h =
    omega (arith, byte_below same (inode_place V6 i + 5) (omega arith), word_below same (inode_place V6 i + 6) (omega arith))
size_behind V7 old new i from to same h = long_below same (inode_place V7 i + 8) (omega arith)

-- a write that ends after the mode does not change the size
pub size_above : (edition : Edition) (old new : List ℕ) (i from to : ℕ) → SameOutside old new from to
    → to ≤ inode_place edition i + 2 → size_at edition new (inode_place edition i) ≡ size_at edition old (inode_place edition i)
size_above V6 old new i from to same h =
    omega (arith, same.above (inode_place V6 i + 5) (omega arith), word_above same (inode_place V6 i + 6) (omega arith))
size_above V7 old new i from to same h = long_above same (inode_place V7 i + 8) (omega arith)

-- a write within one i-node does not change the other i-nodes
pub inode_within : (geometry : Geometry) (old new : List ℕ) (i j from to : ℕ) → SameOutside old new from to
    → inode_place geometry.edition i ≤ from → to ≤ inode_place geometry.edition i + (constants geometry.edition).inode_bytes
    → 1 ≤ i → 1 ≤ j → j ≢ i → KeepsInode geometry old new j
inode_within geometry old new i j from to same low high first second other =
    inode_apart geometry old new i j first second other
    (widen {from = inode_place geometry.edition i} {to = inode_place geometry.edition i + (constants geometry.edition).inode_bytes} same low high)

-- an address of an i-node of the volume is stored between block 2 and the data zone
pub address_room : (geometry : Geometry) (image : List ℕ) (i k : ℕ) → Fits geometry image → 1 ≤ i → i ≤ geometry.last_inode
    → k < address_count geometry.edition
    → (1024 ≤ address_place geometry.edition i k)
    × (address_place geometry.edition i k + address_bytes geometry.edition ≤ 512 * geometry.zone_start)
address_room geometry image i k fits first last h =
    let within = address_within geometry.edition i k h in
    let from : 1024 ≤ inode_place geometry.edition i = place_from geometry.edition i in
    let room : inode_place geometry.edition i + (constants geometry.edition).inode_bytes ≤ 512 * geometry.zone_start =
    place_room geometry image i fits first last in
    (omega (arith, within.0), omega (arith, within.1))
