-- Slots of directories without an entry.
use Rattle.std.proofs.Common.{◌≡◌, ℕ, ◌<◌, ◌≤◌, ◌&&◌, Bool, true, false, List, None, refl, arith, inl, inr}
use Rattle.std.proofs.lemmas.Bool.{cases_lt}
use Rattle.vol_layout.specs.declared.geometry.Geometry.{Geometry}
use Rattle.vol_dir.specs.Entries.{entry_at, slot_count}
use Rattle.vol_dir.proofs.ReadSlots.{entry_at_past}

-- a slot has no entry if neither it nor a later one of the directory has
pub none_from : (geometry : Geometry) (image : List ℕ) (d s : ℕ) → ((t : ℕ) → s ≤ t → t < slot_count geometry image d → entry_at geometry image d t ≡ None)
    → entry_at geometry image d s ≡ None
none_from geometry image d s none = elim (cases_lt s (slot_count geometry image d)) [
  | inl below ↦ none s (omega arith) below
  | inr past ↦ entry_at_past geometry image d s past
]

-- a conjunction with a false part is false
pub false_and : (b : Bool) → false ≡ (b && false)
false_and true = refl
false_and false = refl
