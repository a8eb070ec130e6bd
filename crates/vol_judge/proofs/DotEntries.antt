-- The i-number of a name in a directory, while its entries are read.
use Rattle.std.proofs.Common.{◌≡◌, ℕ, ◌+◌, ◌<◌, ◌≤◌, inl, inr, if◌then◌else◌, List, Option, None, Some, ap, ◌∙◌, arith}
use Rattle.std.specs.Str.{bytes_eq}
use Rattle.std.proofs.lemmas.Bool.{cases_lt, cases_Bool}
use Rattle.vol_layout.specs.Slot.{name_of}
use Rattle.vol_layout.specs.declared.geometry.Geometry.{Geometry}
use Rattle.vol_layout.specs.declared.slot.Slot.{Slot}
use Rattle.vol_file.proofs.PlaceLists.{bytes_same, same_bytes}
use Rattle.vol_dir.specs.Entries.{entry_at, slot_count, IsDirectory, HasEntry, HasEntries}
use Rattle.vol_dir.specs.Scan.{IsNextEntry}
use Rattle.vol_judge.specs.InodeMarks.{IsNamed, IsNamedUpTo}
use Rattle.vol_judge.proofs.CollectedNames.{same_entry, none_some}
use Rattle.vol_dir.proofs.NextEntries.{entry_next, none_from}

-- before the first slot is read, no i-number is noted
pub named_first : (geometry : Geometry) (image : List ℕ) (d : ℕ) (name : List ℕ) → IsNamedUpTo geometry image d 0 name None
named_first geometry image d name = record { all = λ s i low has. absurd (omega (arith, low)); only = λ i same. absurd (cc) }

-- in a directory that keeps rule 9, all entries with the same name have the same i-number
same_number : {geometry : Geometry} {image : List ℕ} {d s t i j : ℕ} {name : List ℕ} → HasEntries geometry image → HasEntry geometry image d s name i
    → HasEntry geometry image d t name j → i ≡ j
same_number {geometry = geometry} {image = image} {d = d} {s = s} {t = t} {i = i} {j = j} {name = name} rule has other =
    let same : s ≡ t = rule.once d s t i j name has other in
    let here : entry_at geometry image d t ≡ Some (name, i) = rw same at has.entry in
    (same_entry (entry_at geometry image d t) name name i j here other.entry).1

-- when the next entry is read, its i-number is noted if it has the name; else the noted i-number doesn't change
pub named_noted : {geometry : Geometry} {image : List ℕ} {d from s : ℕ} {name : List ℕ} {number : Option ℕ} {slot : Slot} → HasEntries geometry image
    → IsDirectory geometry image d → IsNamedUpTo geometry image d from name number
    → IsNextEntry (entry_at geometry image d) from (slot_count geometry image d) s slot
    → IsNamedUpTo geometry image d (s + 1) name (if bytes_eq name (name_of slot.name) then Some slot.inode else number)
named_noted {geometry = geometry} {image = image} {d = d} {from = from} {s = s} {name = name} {number = number} {slot = slot} rule is known next =
    elim (cases_Bool (bytes_eq name (name_of slot.name))) [
      | inl same ↦
          let called : name ≡ name_of slot.name = same_bytes name (name_of slot.name) same in
          let here : HasEntry geometry image d s name slot.inode = record { directory = is; entry = rw called (entry_next next) } in
          rw same (record {
            all = λ t i low has. ap Some (same_number rule here has);
            only = λ i found. let number : slot.inode ≡ i = cc in (s, rw number at here);
          })
      | inr other ↦ rw other (record {
        all = λ t i low has.
            elim (cases_lt t from) [
              | inl early ↦ known.all t i early has
              | inr above ↦ elim (cases_lt t s) [
                | inl between ↦ absurd (none_some (entry_at geometry image d t) (name, i) has.entry (next.none t above between))
                | inr past ↦
                    let place : t ≡ s = omega arith in
                    let there = rw place at has.entry in
                    let both = same_entry (entry_at geometry image d s) name (name_of slot.name) i slot.inode there (entry_next next) in
                    let test = bytes_same name (name_of slot.name) both.0 in
                    absurd (cc)
              ]
            ];
        only = known.only;
      })
    ]

-- if an i-number is noted for the name, it is the right one, since no other entry has the name
pub named_found : {geometry : Geometry} {image : List ℕ} {d n : ℕ} {name : List ℕ} {number : Option ℕ} (j : ℕ) → HasEntries geometry image
    → IsNamedUpTo geometry image d n name number → number ≡ Some j → IsNamed geometry image d name number
named_found j rule known some = record { all = λ s i has. let found = known.only j some in some ∙ ap Some (same_number rule found.1 has); only = known.only }

-- if no entry is left, the noted i-number is the right one
pub named_all : {geometry : Geometry} {image : List ℕ} {d from : ℕ} {name : List ℕ} {number : Option ℕ} → IsNamedUpTo geometry image d from name number
    → ((t : ℕ) → from ≤ t → t < slot_count geometry image d → entry_at geometry image d t ≡ None) → IsNamed geometry image d name number
named_all {geometry = geometry} {image = image} {d = d} {from = from} {name = name} known none = record {
  all = λ s i has.
      elim (cases_lt s from) [
        | inl early ↦ known.all s i early has
        | inr past ↦ absurd (none_some (entry_at geometry image d s) (name, i) has.entry (none_from geometry image d from none s past))
      ];
  only = known.only;
}
