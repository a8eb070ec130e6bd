-- Laws of the next entry of a directory.
use Rattle.std.specs.Prelude.{Option}
use Rattle.std.proofs.Common.{◌≡◌, ◌≢◌, ℕ, ◌<◌, ◌≤◌, ◌==◌, ◌∙◌, List, None, Some, inl, inr, false, arith}
use Rattle.std.proofs.lemmas.Bool.{cases_lt}
use Rattle.std.proofs.lemmas.Bool.Decides.{nat_tests}
use Rattle.vol_layout.specs.Slot.{name_of}
use Rattle.vol_layout.specs.declared.geometry.Geometry.{Geometry}
use Rattle.vol_layout.specs.declared.slot.Slot.{Slot}
use Rattle.vol_dir.specs.Entries.{entry_in, entry_at, slot_count}
use Rattle.vol_dir.specs.Scan.{IsNextEntry}
use Rattle.vol_dir.proofs.ReadSlots.{entry_at_past}

-- a slot with an i-number other than 0 has an entry
pub entry_some : (slot : Slot) → slot.inode ≢ 0 → entry_in slot ≡ Some (name_of slot.name, slot.inode)
entry_some slot some = let is : (slot.inode == 0) ≡ false = grind (arith, nat_tests) in rw is

-- the entry that a search returns is the content of its slot
pub entry_next : {entry : ℕ → Option (List ℕ × ℕ)} {from count s : ℕ} {slot : Slot} → IsNextEntry entry from count s slot
    → entry s ≡ Some (name_of slot.name, slot.inode)
entry_next {slot = slot} next = next.holds ∙ entry_some slot next.some

-- if no slot of a directory at or after slot `from` has an entry, no later number has one either
pub none_from : (geometry : Geometry) (image : List ℕ) (d from : ℕ) → ((t : ℕ) → from ≤ t → t < slot_count geometry image d → entry_at geometry image d t ≡ None)
    → (t : ℕ) → from ≤ t → entry_at geometry image d t ≡ None
none_from geometry image d from none t low = elim (cases_lt t (slot_count geometry image d)) [
  | inl within ↦ none t low within
  | inr past ↦ entry_at_past geometry image d t past
]
