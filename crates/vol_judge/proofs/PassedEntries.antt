-- Passing over the entries of all directories, one after the other.
use Rattle.std.proofs.Common.{◌≡◌, ℕ, ◌+◌, ◌<◌, ◌≤◌, ◌⊎◌, inl, inr, List, None, Some, arith}
use Rattle.std.proofs.lemmas.Bool.{cases_lt}
use Rattle.vol_layout.specs.Slot.{name_of}
use Rattle.vol_layout.specs.declared.geometry.Geometry.{Geometry}
use Rattle.vol_layout.specs.declared.slot.Slot.{Slot}
use Rattle.vol_file.specs.Rules.{size_of}
use Rattle.vol_dir.specs.Entries.{entry_at, slot_count, IsDirectory, HasEntry}
use Rattle.vol_dir.specs.Scan.{IsNextEntry}
use Rattle.vol_dir.proofs.ReadSlots.{entry_at_past}
use Rattle.vol_judge.specs.Steps.{rank, IsNextSlot, IsPastEntries}
use Rattle.vol_judge.proofs.CollectedNames.{count_low, next_low, same_entry, none_some}
use Rattle.vol_dir.proofs.NextEntries.{entry_next, none_from}

-- the slot of an entry is below the directory's number of slots
pub entry_within : (geometry : Geometry) (image : List ℕ) (d s : ℕ) (entry : List ℕ × ℕ) → entry_at geometry image d s ≡ Some entry → s < slot_count geometry image d
entry_within geometry image d s entry is =
    elim (cases_lt s (slot_count geometry image d)) [
      | inl low ↦ low
      | inr past ↦ absurd (none_some (entry_at geometry image d s) entry is (entry_at_past geometry image d s past))
    ]

-- the number of an entry's slot fits in 32 bits
pub entry_low : {geometry : Geometry} {image : List ℕ} {d s i : ℕ} {name : List ℕ} → HasEntry geometry image d s name i → s < 67637568
entry_low {geometry = geometry} {image = image} {d = d} {s = s} {i = i} {name = name} has =
    omega (arith, count_low geometry.edition (size_of geometry image d), entry_within geometry image d s (name, i) has.entry)

-- all entries before slot `start` of directory d are before a position
abbrev pub IsPassed : Geometry → List ℕ → ℕ → ℕ → ℕ → Type 0
IsPassed geometry image from d start = (e t i : ℕ) (name : List ℕ) → HasEntry geometry image e t name i → rank e t < rank d start → rank e t < from

-- if directory d has no entry at or after slot `start`, the walk may move to the next directory
pub passed_next : {geometry : Geometry} {image : List ℕ} (from d start : ℕ) → IsPassed geometry image from d start
    → ((t i : ℕ) (name : List ℕ) → HasEntry geometry image d t name i → start ≤ t → ⊥) → IsPassed geometry image from (d + 1) 0
passed_next from d start passed none e t i name has before =
    let low : t < 67637568 = entry_low has in
    elim (cases_lt (rank e t) (rank d start)) [
      | inl is ↦ passed e t i name has is
      | inr past ↦
          let same : e ≡ d = omega arith in
          let has' = rw same at has in
          let above : start ≤ t = omega (arith, same) in
          absurd (none t i name has' above)
    ]

-- if no slot of directory d at or after `start` has an entry, the walk may move to the next directory
pub passed_none : {geometry : Geometry} {image : List ℕ} (from d start : ℕ) → IsPassed geometry image from d start
    → ((t : ℕ) → start ≤ t → t < slot_count geometry image d → entry_at geometry image d t ≡ None) → IsPassed geometry image from (d + 1) 0
passed_none {geometry = geometry} {image = image} from d start passed none =
    passed_next from d start passed (λ t i name has above. none_some (entry_at geometry image d t) (name, i) has.entry (none_from geometry image d start none t above))

-- if d isn't a directory, the walk may move to the next directory
pub passed_other : {geometry : Geometry} {image : List ℕ} (from d start : ℕ) → IsPassed geometry image from d start
    → (IsDirectory geometry image d → ⊥) → IsPassed geometry image from (d + 1) 0
passed_other from d start passed none = passed_next from d start passed (λ t i name has above. none has.directory)

-- past the last directory there are no more entries
pub passed_all : {geometry : Geometry} {image : List ℕ} (from d : ℕ) → IsPassed geometry image from d 0 → geometry.last_inode < d → IsPastEntries geometry image from
passed_all from d passed last e t i name has = passed e t i name has (omega (arith, entry_low has, has.directory.last))

-- the next entry of directory d is the next of all directories
pub next_of : {geometry : Geometry} {image : List ℕ} {from d start s : ℕ} {slot : Slot} → IsPassed geometry image from d start → from ≤ rank d start
    → IsDirectory geometry image d → IsNextEntry (entry_at geometry image d) start (slot_count geometry image d) s slot → IsNextSlot geometry image from d s slot
next_of {geometry = geometry} {image = image} {from = from} {d = d} {start = start} {s = s} passed reached is next = record {
  reached = omega (arith, next.reached, reached);
  low = next_low geometry image d next;
  entry = record { directory = is; entry = entry_next next };
  before = λ e t i name has before.
      let low : t < 67637568 = entry_low has in
      let low' : s < 67637568 = next_low geometry image d next in
      elim (cases_lt (rank e t) (rank d start)) [
        | inl early ↦ passed e t i name has early
        | inr past ↦
            let same : e ≡ d = omega arith in
            let has' = rw same at has in
            let above : start ≤ t = omega (arith, same) in
            let under : t < s = omega (arith, same) in
            absurd (none_some (entry_at geometry image d t) (name, i) has'.entry (next.none t above under))
      ];
}

-- an entry up to the next entry is before the start of the search, or is the next entry itself
pub split : {geometry : Geometry} {image : List ℕ} {from d s : ℕ} {slot : Slot} (e t i : ℕ) (name : List ℕ) → IsNextSlot geometry image from d s slot
    → HasEntry geometry image e t name i → rank e t < rank d (s + 1)
    → (rank e t < from) ⊎ ((e ≡ d) × (t ≡ s) × (name ≡ name_of slot.name) × (i ≡ slot.inode))
split {geometry = geometry} {image = image} {from = from} {d = d} {s = s} {slot = slot} e t i name next has before =
    elim (cases_lt (rank e t) (rank d s)) [
      | inl early ↦ inl (next.before e t i name has early)
      | inr late ↦
          let low : t < 67637568 = entry_low has in
          let low' : s < 67637568 = next.low in
          let directory : e ≡ d = omega arith in
          let number : t ≡ s = omega (arith, directory) in
          let here = rw (directory, number) at has.entry in
          let same = same_entry (entry_at geometry image d s) name (name_of slot.name) i slot.inode here next.entry.entry in
          inr (directory, number, same.0, same.1)
    ]
