-- The first entry that breaks rule 9.
use Rattle.std.proofs.Common.{◌≡◌, ℕ, ◌<◌, inl, inr, List, Some, arith}
use Rattle.std.proofs.lemmas.Bool.{cases_lt}
use Rattle.vol_layout.specs.declared.geometry.Geometry.{Geometry}
use Rattle.vol_layout.specs.declared.slot.Slot.{Slot}
use Rattle.vol_dir.specs.Entries.{entry_at, slot_count}
use Rattle.vol_dir.specs.Scan.{IsNextEntry}
use Rattle.vol_judge.specs.DirectoryNames.{HasEntriesBelow, IsNamedBelow}
use Rattle.vol_judge.proofs.CollectedNames.{none_some}

-- an entry before the next entry is before the start of the search
early : (geometry : Geometry) (image : List ℕ) (d : ℕ) {from s : ℕ} {slot : Slot} (t i : ℕ) (name : List ℕ)
    → IsNextEntry (entry_at geometry image d) from (slot_count geometry image d) s slot → t < s → entry_at geometry image d t ≡ Some (name, i) → t < from
early geometry image d {from = from} t i name next low entry = elim (cases_lt t from) [
  | inl before ↦ before
  | inr above ↦ absurd (none_some (entry_at geometry image d t) (name, i) entry (next.none t above low))
]

-- if the slots before the start of a search keep rule 9, so do the slots before the next entry
pub below_reached : {geometry : Geometry} {image : List ℕ} {d from s : ℕ} {slot : Slot} → HasEntriesBelow geometry image d from
    → IsNextEntry (entry_at geometry image d) from (slot_count geometry image d) s slot → HasEntriesBelow geometry image d s
below_reached {geometry = geometry} {image = image} {d = d} below next = record {
  entries = λ t i name low entry. below.entries t i name (early geometry image d t i name next low entry) entry;
  once = λ u t i j name low low' entry entry'.
      below.once u t i j name (early geometry image d u i name next low entry) (early geometry image d t j name next low' entry') entry entry';
}

-- an entry before the start of a search is before the next entry
pub named_reached : {geometry : Geometry} {image name : List ℕ} {d from s : ℕ} {slot : Slot} → IsNamedBelow geometry image d from name
    → IsNextEntry (entry_at geometry image d) from (slot_count geometry image d) s slot → IsNamedBelow geometry image d s name
named_reached had next = record { slot = had.slot; inode = had.inode; below = omega (arith, had.below, next.reached); entry = had.entry }
