-- Collecting the names of one directory.
use Rattle.std.proofs.Common.{◌≡◌, ℕ, ◌+◌, ◌/◌, ◌%◌, ◌<◌, ◌≤◌, min, ◌⊎◌, inl, inr, true, false, cond, List, Option, None, Some, refl, sym, ap, subst, ◌∙◌, arith}
use Rattle.std.specs.BTreeSet.{BTreeSet, Updates}
use Rattle.std.specs.Ordering.{nat_cmp, eq_by_cmp}
use borrow.Author.Count.{below_more}
use Rattle.std.proofs.lemmas.Bool.{cases_lt, cases_eq, cases_Bool}
use Rattle.std.proofs.lemmas.Map.Views.{tells_apart}
use Rattle.vol_layout.specs.Edition.{constants}
use Rattle.vol_layout.specs.Slot.{name_of}
use Rattle.vol_layout.specs.declared.edition.Edition.{Edition}
use Rattle.vol_layout.specs.declared.edition.Edition.TheVariants.{V6, V7}
use Rattle.vol_layout.specs.declared.geometry.Geometry.{Geometry}
use Rattle.vol_layout.specs.declared.slot.Slot.{Slot}
use Rattle.vol_file.specs.Rules.{size_of}
use Rattle.vol_dir.specs.Entries.{entry_at, slot_count, IsDirectory, HasEntry, HasEntries}
use Rattle.vol_dir.specs.NameKeys.{key_of, IsSlotName}
use Rattle.vol_dir.specs.Scan.{IsNextEntry}
use Rattle.vol_judge.specs.DirectoryNames.{IsValidEntry, HasEntriesBelow, HasEntriesIn, IsNamedBelow, is_in, HoldsNamesBelow}
use Rattle.vol_dir.proofs.NameKeys.{exact_nat, key_same}
use Rattle.vol_dir.proofs.NextEntries.{entry_next, none_from}

-- a slot that has an entry isn't empty
pub none_some : (slot : Option (List ℕ × ℕ)) (entry : List ℕ × ℕ) → slot ≡ Some entry → slot ≡ None → ⊥
none_some slot entry some none = cc

-- a slot has at most one entry
pub same_entry : (slot : Option (List ℕ × ℕ)) (name other : List ℕ) (i j : ℕ) → slot ≡ Some (name, i) → slot ≡ Some (other, j) → (name ≡ other) × (i ≡ j)
same_entry slot name other i j one two =
    let both : Some (name, i) ≡ Some (other, j) = sym one ∙ two in
    let pair : (name, i) ≡ (other, j) = cc in
    (ap (λ (e : List ℕ × ℕ). e.0) pair, ap (λ (e : List ℕ × ℕ). e.1) pair)

-- the number of a directory's slots fits in 32 bits
pub count_low : (edition : Edition) (size : ℕ) → min size (constants edition).greatest / 16 < 67637569
count_low V6 size = omega arith
count_low V7 size = omega arith

-- the slot of the next entry is below the greatest number of slots
pub next_low : (geometry : Geometry) (image : List ℕ) (d : ℕ) {from s : ℕ} {slot : Slot} → IsNextEntry (entry_at geometry image d) from (slot_count geometry image d) s slot → s < 67637568
next_low geometry image d next =
    omega (arith, count_low geometry.edition (size_of geometry image d), next.within)

-- an entry up to the next entry is before the start of the search, or is the next entry itself
entry_split : (geometry : Geometry) (image : List ℕ) (d : ℕ) {from s : ℕ} {slot : Slot} (t i : ℕ) (name : List ℕ) → IsNextEntry (entry_at geometry image d) from (slot_count geometry image d) s slot
    → t < s + 1 → entry_at geometry image d t ≡ Some (name, i) → (t < from) ⊎ ((t ≡ s) × (name ≡ name_of slot.name) × (i ≡ slot.inode))
entry_split geometry image d {from = from} {s = s} {slot = slot} t i name next low entry =
    elim (cases_lt t from) [
      | inl below ↦ inl below
      | inr above ↦ elim (cases_eq t s) [
        | inl same ↦
            let here = rw same at entry in
            let both = same_entry (entry_at geometry image d s) name (name_of slot.name) i slot.inode here (entry_next next) in
            inr (same, both.0, both.1)
        | inr apart ↦
            let none : entry_at geometry image d t ≡ None = next.none t above (omega arith) in
            absurd (none_some (entry_at geometry image d t) (name, i) entry none)
      ]
    ]

-- if a name's number isn't in the set of those below slot `from`, no entry below `from` has the name
below_in : {geometry : Geometry} {image : List ℕ} {d from t i : ℕ} {names : BTreeSet ℕ} (name other : List ℕ) → HoldsNamesBelow geometry image d from names
    → t < from → entry_at geometry image d t ≡ Some (name, i) → name ≡ other → is_in names (key_of other) ≡ false → ⊥
below_in {names = names} name other held low entry same new =
    let there : is_in names (key_of name) ≡ true = held.all _ _ name low entry in
    let there' = rw same at there in cc

-- if the slots below `from` keep rule 9, and the next entry is valid and its name isn't in the set, the slots up to that entry keep rule 9
pub below_next : {geometry : Geometry} {image : List ℕ} {d from s : ℕ} {slot : Slot} {names : BTreeSet ℕ} → HasEntriesBelow geometry image d from
    → HoldsNamesBelow geometry image d from names → IsNextEntry (entry_at geometry image d) from (slot_count geometry image d) s slot → IsValidEntry geometry image (name_of slot.name) slot.inode
    → is_in names (key_of (name_of slot.name)) ≡ false → HasEntriesBelow geometry image d (s + 1)
below_next {geometry = geometry} {image = image} {d = d} {slot = slot} {names = names} below held next good new = record {
  entries = λ t i name low entry.
      elim (entry_split geometry image d t i name next low entry) [
        | inl before ↦ below.entries t i name before entry
        | inr here ↦ rw (here.1, here.2) good
      ];
  once = λ u t i j name low low' entry entry'.
      elim (entry_split geometry image d u i name next low entry) [
        | inl before ↦ elim (entry_split geometry image d t j name next low' entry') [
          | inl before' ↦ below.once u t i j name before before' entry entry'
          | inr here ↦ absurd (below_in name (name_of slot.name) held before entry here.1 new)
        ]
        | inr here ↦ elim (entry_split geometry image d t j name next low' entry') [
          | inl before' ↦ absurd (below_in name (name_of slot.name) held before' entry' here.1 new)
          | inr here' ↦ here.0 ∙ sym here'.0
        ]
      ];
}

-- with the name of the next entry added, the set has the names of the entries up to that entry
pub names_next : {geometry : Geometry} {image : List ℕ} {d from s : ℕ} {slot : Slot} {names after : BTreeSet ℕ}
    → HoldsNamesBelow geometry image d from names → IsNextEntry (entry_at geometry image d) from (slot_count geometry image d) s slot
    → IsSlotName (name_of slot.name) → Updates nat_cmp names after (key_of (name_of slot.name)) true → HoldsNamesBelow geometry image d (s + 1) after
names_next {geometry = geometry} {image = image} {d = d} {from = from} {s = s} {slot = slot} {names = names} {after = after} held next stored updates =
    let key = key_of (name_of slot.name) in
    record {
      all = λ t i name low entry.
          elim (entry_split geometry image d t i name next low entry) [
            | inl before ↦
                let there : is_in names (key_of name) ≡ true = held.all t i name before entry in
                let now : is_in after (key_of name) ≡ cond (eq_by_cmp nat_cmp key (key_of name)) true (is_in names (key_of name)) = updates.0 (key_of name) in
                now ∙ rw there (elim (eq_by_cmp nat_cmp key (key_of name)) as (λ t. cond t true true ≡ true) [ true ↦ refl | false ↦ refl ])
            | inr here ↦ ap (λ n. is_in after (key_of n)) here.1 ∙ updates.1
          ];
      only = λ other there.
          let now : is_in after other ≡ cond (eq_by_cmp nat_cmp key other) true (is_in names other) = updates.0 other in
          elim (cases_Bool (eq_by_cmp nat_cmp key other)) [
            | inl same ↦ record {
              name = name_of slot.name;
              stored = stored;
              numbered = tells_apart exact_nat key other same;
              named = record { slot = s; inode = slot.inode; below = omega arith; entry = entry_next next };
            }
            | inr apart ↦
                let before : is_in names other ≡ true = sym (now ∙ rw apart refl) ∙ there in
                let had = held.only other before in
                let named = had.named in
                record {
                  name = had.name;
                  stored = had.stored;
                  numbered = had.numbered;
                  named = record { slot = named.slot; inode = named.inode; below = omega (arith, named.below, next.reached); entry = named.entry };
                }
          ];
    }

-- if a name's number is in the set, an earlier entry has the name
pub named_before : {geometry : Geometry} {image : List ℕ} {d from : ℕ} {names : BTreeSet ℕ} (name : List ℕ) → HoldsNamesBelow geometry image d from names
    → IsSlotName name → is_in names (key_of name) ≡ true → IsNamedBelow geometry image d from name
named_before {geometry = geometry} {image = image} {d = d} {from = from} name held stored there =
    let had = held.only (key_of name) there in
    subst (λ is. IsNamedBelow geometry image d from is) (key_same had.name name had.stored stored had.numbered) had.named

-- if an earlier entry has the name of the next entry, the directory breaks rule 9
pub twice : {geometry : Geometry} {image : List ℕ} {d from s : ℕ} {slot : Slot} → IsNamedBelow geometry image d from (name_of slot.name)
    → IsNextEntry (entry_at geometry image d) from (slot_count geometry image d) s slot → HasEntriesIn geometry image d → ⊥
twice {slot = slot} had next rule =
    let same : had.slot ≡ _ = rule.once had.slot _ had.inode slot.inode (name_of slot.name) had.entry (entry_next next) in
    omega (arith, had.below, next.reached, same)

-- if the slots below `from` keep rule 9 and no later slot has an entry, the directory keeps rule 9
pub all_below : {geometry : Geometry} {image : List ℕ} {d from : ℕ} → size_of geometry image d % 16 ≡ 0 → HasEntriesBelow geometry image d from
    → ((t : ℕ) → from ≤ t → t < slot_count geometry image d → entry_at geometry image d t ≡ None) → HasEntriesIn geometry image d
all_below {geometry = geometry} {image = image} {d = d} {from = from} whole below none =
    let low : (t i : ℕ) (name : List ℕ) → entry_at geometry image d t ≡ Some (name, i) → t < from = λ t i name entry.
    elim (cases_lt t from) [
      | inl l ↦ l
      | inr above ↦ absurd (none_some (entry_at geometry image d t) (name, i) entry (none_from geometry image d from none t above))
    ] in
    record {
      whole = whole;
      entries = λ t i name entry. below.entries t i name (low t i name entry) entry;
      once = λ s t i j name entry entry'. below.once s t i j name (low s i name entry) (low t j name entry') entry entry';
    }

-- if the directories before d keep rule 9, and d does if it is a directory, all directories up to d keep it
pub each_more : {geometry : Geometry} {image : List ℕ} {d : ℕ} → ((e : ℕ) → e < d → IsDirectory geometry image e → HasEntriesIn geometry image e)
    → (IsDirectory geometry image d → HasEntriesIn geometry image d) → (e : ℕ) → e < d + 1 → IsDirectory geometry image e → HasEntriesIn geometry image e
each_more {geometry = geometry} {image = image} {d = d} below here = below_more (λ e. IsDirectory geometry image e → HasEntriesIn geometry image e) d below here

-- if all directories up to the last i-number keep rule 9, rule 9 holds
pub each_holds : {geometry : Geometry} {image : List ℕ} (d : ℕ) → ((e : ℕ) → e < d → IsDirectory geometry image e → HasEntriesIn geometry image e)
    → geometry.last_inode < d → HasEntries geometry image
each_holds d below last =
    let each = λ (e : ℕ) (is : IsDirectory _ _ e). below e (omega (arith, is.last)) is in
    record {
      whole = λ e is. (each e is).whole;
      named = λ e s i name has. let good = (each e has.directory).entries s i name has.entry in (good.some, good.no_slash);
      allocated = λ e s i name has. let good = (each e has.directory).entries s i name has.entry in (good.first, good.last, good.allocated);
      once = λ e s t i j name has has'. (each e has.directory).once s t i j name has.entry has'.entry;
    }

-- if a directory breaks rule 9, rule 9 fails
pub fails_in : {geometry : Geometry} {image : List ℕ} {d : ℕ} → IsDirectory geometry image d → (HasEntriesIn geometry image d → ⊥) → HasEntries geometry image → ⊥
fails_in {geometry = geometry} {image = image} {d = d} is broken rule =
    let here : HasEntriesIn geometry image d = record {
      whole = rule.whole d is;
      entries = λ t i name entry.
          let has : HasEntry geometry image d t name i = record { directory = is; entry = entry } in
          let names = rule.named d t i name has in
          let number = rule.allocated d t i name has in
          record { some = names.0; no_slash = names.1; first = number.0; last = number.1; allocated = number.2 };
      once = λ s t i j name entry entry'.
          rule.once d s t i j name (record { directory = is; entry = entry }) (record { directory = is; entry = entry' });
    } in broken here
