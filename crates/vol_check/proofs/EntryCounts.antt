-- The sums over the blocks that lie completely within a directory's size.
use Rattle.std.proofs.Common.{◌≡◌, ℕ, ◌+◌, ◌-◌, ◌*◌, ◌≤◌, ap, true, List, arith}
use Rattle.vol_layout.specs.Geometry.{in_zone, Fits}
use Rattle.vol_layout.specs.BlockPointers.{form_at, stored}
use Rattle.vol_layout.specs.Slot.{slot_at}
use Rattle.vol_layout.specs.declared.geometry.Geometry.{Geometry}
use Rattle.vol_dir.specs.Entries.{entry_in, entry_at, slot_count}
use Rattle.vol_dir.proofs.ReadSlots.{entry_in_block}
use Rattle.count_table.specs.Sums.{below}
use Rattle.vol_check.specs.Slots.{SlotWeight, EntryWeight, block_sum}
use Rattle.vol_check.proofs.Sums.{below_same}

-- the sum of a weight over `n` slots of directory `d`, starting with slot `from`
abbrev pub slots_over : Geometry → List ℕ → ℕ → ℕ → ℕ → EntryWeight → ℕ
slots_over g image d from n weight = below (λ t. weight (entry_at g image d (from + t))) n

-- the same weight for the slots of each directory
abbrev pub for_slots : EntryWeight → SlotWeight
for_slots weight d s entry = weight entry

-- the sum over a logical block that lies completely within a directory's size is that over its data block
pub block_slots : (g : Geometry) (image : List ℕ) (d b k : ℕ) → Fits g image → 32 * b + 32 ≤ slot_count g image d
    → stored g image d (form_at g image d) b ≡ k → in_zone g k ≡ true → (weight : EntryWeight)
    → slots_over g image d (32 * b) 32 weight ≡ block_sum image weight k
block_slots g image d b k fits whole is zone weight =
    below_same (λ t. weight (entry_at g image d (32 * b + t))) (λ t. weight (entry_in (slot_at image (512 * k + 16 * t)))) 32
    (λ t lt. ap weight (entry_in_block g image d b t k fits lt (omega arith) is zone))

-- the slots of a range of one block are its 32 slots
pub one_block : (g : Geometry) (image : List ℕ) (d b : ℕ) (weight : EntryWeight)
    → slots_over g image d (32 * b) (32 * (b + 1 - b)) weight ≡ slots_over g image d (32 * b) 32 weight
one_block g image d b weight = let e : 32 * (b + 1 - b) ≡ 32 = omega arith in ap (λ n. slots_over g image d (32 * b) n weight) e
