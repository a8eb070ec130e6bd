-- The entries of a directory's slots in the reply to READDIR.
use Rattle.std.proofs.Common.{◌≡◌, ◌∙◌, sym, ap, ℕ, zero, suc, ◌+◌, ◌-◌, ◌<◌, ◌≤◌, min, arith, List, [], ◌++◌, Option, None, Ok, inl, inr}
use Rattle.std.proofs.lemmas.Bool.{cases_lt}
use Rattle.fuse_words.specs.declared.directory.EntryKind.{EntryKind}
use Rattle.vol_layout.specs.declared.geometry.Geometry.{Geometry}
use Rattle.vol_layout.specs.declared.slot.Slot.{Slot}
use Rattle.vol_dir.specs.Entries.{entry_in, entry_at, slot_count}
use Rattle.vol_dir.specs.Names.{Names}
use Rattle.vol_dir.specs.Scan.{IsNextEntry}
use Rattle.vol_dir.specs.Tree.{tree}
use Rattle.vol_dir.proofs.Searches.{slots_low}
use Rattle.vol_serve.specs.Nodes.{after_ok, names_in}
use Rattle.vol_serve.specs.Attributes.{entry_kind_in}
use Rattle.vol_serve.specs.Listings.{listed, entries_from, listing_in}

-- if the slots from `slot` up to `found` have no entry, listing from `slot` has the same result as listing from `found`
pub none_on : (entry : ℕ → Option (List ℕ × ℕ)) (kind : ℕ → EntryKind) (count slot found room : ℕ) → slot ≤ found → found ≤ slot + count
    → ((t : ℕ) → slot ≤ t → t < found → entry t ≡ None)
    → entries_from entry kind slot room count ≡ entries_from entry kind found room (slot + count - found)
unfolding entries_from
none_on entry kind zero slot found room low high none =
    let over : slot + 0 - found ≡ 0 = omega arith in sym (ap (λ n. entries_from entry kind found room n) over)
none_on entry kind (suc count) slot found room low high none =
    elim (cases_lt slot found) [
      | inl below ↦
          let same : slot + 1 + count - found ≡ slot + suc count - found = omega arith in
          ap (λ o. listed kind slot room o (λ left. entries_from entry kind (slot + 1) left count)) (none slot (omega arith) below)
          ∙ (none_on entry kind count (slot + 1) found room (omega arith) (omega arith) (λ t from_ to. none t (omega arith) to)
          ∙ ap (λ n. entries_from entry kind found room n) same)
      | inr reached ↦
          let here : slot ≡ found = omega arith in
          let all : suc count ≡ slot + suc count - found = omega arith in
          ap (λ s. entries_from entry kind s room (suc count)) here ∙ ap (λ n. entries_from entry kind found room n) all
    ]

-- if slot `found` is the next one with an entry, the listing is this entry, followed by the entries after it
pub from_next : (entry : ℕ → Option (List ℕ × ℕ)) (kind : ℕ → EntryKind) (from count room found : ℕ) (slot : Slot)
    → IsNextEntry entry from count found slot
    → entries_from entry kind from room (count - from)
    ≡ listed kind found room (entry_in slot) (λ left. entries_from entry kind (found + 1) left (count - (found + 1)))
unfolding entries_from
from_next entry kind from count room found slot next =
    let reached : from ≤ found = next.reached in
    let within : found < count = next.within in
    let left : from + (count - from) - found ≡ suc (count - (found + 1)) = omega arith in
    none_on entry kind (count - from) from found room reached (omega arith) next.none
    ∙ (ap (λ n. entries_from entry kind found room n) left
    ∙ ap (λ o. listed kind found room o (λ left. entries_from entry kind (found + 1) left (count - (found + 1)))) next.holds)

-- if no remaining slot has an entry, nothing is listed
pub from_last : (entry : ℕ → Option (List ℕ × ℕ)) (kind : ℕ → EntryKind) (from count room : ℕ)
    → ((t : ℕ) → from ≤ t → t < count → entry t ≡ None) → entries_from entry kind from room (count - from) ≡ []
unfolding entries_from
from_last entry kind from count room none =
    let over : from + (count - from) - (from + (count - from)) ≡ 0 = omega arith in
    none_on entry kind (count - from) from (from + (count - from)) room (omega arith) (omega arith) (λ t low high. none t low (omega arith))
    ∙ ap (λ n. entries_from entry kind (from + (count - from)) room n) over

-- if there are at most `far` slots, starting at `from` lists the same as starting at the smaller of `from` and `far`
pub from_far : (entry : ℕ → Option (List ℕ × ℕ)) (kind : ℕ → EntryKind) (from far count room : ℕ) → count ≤ far
    → entries_from entry kind from room (count - from) ≡ entries_from entry kind (min from far) room (count - min from far)
unfolding entries_from
from_far entry kind from far count room past =
    elim (cases_lt from far) [
      | inl below ↦
          let same : from ≡ min from far = omega arith in
          ap (λ s. entries_from entry kind s room (count - s)) same
      | inr reached ↦
          let none_left : count - from ≡ 0 = omega arith in
          let none_there : 0 ≡ count - min from far = omega arith in
          ap (λ n. entries_from entry kind from room n) none_left ∙ ap (λ n. entries_from entry kind (min from far) room n) none_there
    ]

-- no directory has 2^32 slots
pub few_slots : (geometry : Geometry) (image : List ℕ) (d : ℕ) → slot_count geometry image d ≤ 4294967295
few_slots geometry image d = omega (arith, slots_low geometry image d)

-- at its beginning the listing is empty, so all entries are still to be added
pub from_first : (entry : ℕ → Option (List ℕ × ℕ)) (kind : ℕ → EntryKind) (from far count size slot len : ℕ) (items : List ℕ)
    → slot ≡ min from far → count ≤ far → items ≡ [] → len ≡ 0
    → entries_from entry kind from size (count - from) ≡ items ++ entries_from entry kind slot (size - len) (count - slot)
from_first entry kind from far count size slot len items at past none zero_long =
    let all : size ≡ size - len = omega arith in
    from_far entry kind from far count size past
    ∙ (ap (λ room. entries_from entry kind (min from far) room (count - min from far)) all
    ∙ (ap (λ s. entries_from entry kind s (size - len) (count - s)) (sym at)
    ∙ ap (λ xs. xs ++ entries_from entry kind slot (size - len) (count - slot)) (sym none)))

-- if all entries were added, the listing is done
pub listing_done : (geometry : Geometry) (image : List ℕ) (d from size : ℕ) (names : Names) (items : List ℕ)
    → names_in (tree geometry image) d ≡ Ok names
    → entries_from (entry_at geometry image d) (entry_kind_in (tree geometry image)) from size (slot_count geometry image d - from) ≡ items
    → listing_in geometry image d from size ≡ Ok items
listing_done geometry image d from size names items named listed =
    ap (λ r. after_ok r (λ names. Ok (entries_from (entry_at geometry image d) (entry_kind_in (tree geometry image)) from size (slot_count geometry image d - from)))) named
    ∙ ap Ok listed
