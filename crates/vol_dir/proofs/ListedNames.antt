-- Collecting the names of a directory, slot by slot. A name may occur in several slots.
use Rattle.std.proofs.Common.{◌≡◌, ℕ, zero, suc, ◌+◌, ◌-◌, ◌<◌, ◌≤◌, Bool, true, false, cond, List, [], ◌∷◌, ◌++◌, map, None, Some, refl, ap, sym, subst, ◌∙◌, inl, inr, arith}
use Rattle.std.specs.Prelude.{Option, T, nat_lt, if◌then◌else◌, slice_index_or}
use Rattle.std.specs.BTreeMap.{insert_entry}
use Rattle.std.specs.Map.{lookup}
use Rattle.std.specs.Cmp.Lexicographic.{slice_cmp}
use Rattle.std.specs.FinMap.Entries.{by_order, put, find-put, is_sorted, is_sorted-put, same_entries}
use Rattle.std.specs.List.{range_with_len}
use Rattle.std.specs.Option.{is_some}
use Rattle.std.specs.Ordering.{nat_cmp, match_ordering, is_eq}
use Rattle.std.specs.declared.cmp.Ordering.TheVariants.{Less, Equal, Greater}
use Rattle.std.specs.Str.{bytes_eq}
use Rattle.std.proofs.lemmas.Bool.{cases_lt, true≢false}
use Rattle.std.proofs.lemmas.Cmp.{nat_list_cmp_total}
use Rattle.std.proofs.lemmas.List.{map-append}
use Rattle.std.proofs.lemmas.Map.Lookups.{exact_bytes}
use Rattle.std.proofs.lemmas.Map.Text.{is_eq-slice_cmp}
use Rattle.vol_layout.specs.Edition.{constants}
use Rattle.vol_layout.specs.Slot.{name_of}
use Rattle.vol_layout.specs.declared.geometry.Geometry.{Geometry}
use Rattle.vol_layout.specs.declared.slot.Slot.{Slot}
use Rattle.vol_file.specs.Repeats.{below}
use Rattle.vol_file.proofs.PlaceLists.{bytes_same, same_bytes}
use Rattle.vol_file.proofs.RepeatedNumbers.{clear_passes}
use Rattle.vol_dir.specs.Entries.{entry_at, slot_count, slots}
use Rattle.vol_dir.specs.Names.{Names, get, insert, names_of}
use Rattle.vol_dir.specs.Repeats.{IsEntryFrom, MarksSlots, PassSlots, entry_in_block, passes_in}
use Rattle.vol_dir.proofs.NameMaps.{sorted}
use Rattle.vol_dir.proofs.NextEntries.{entry_some}
use Rattle.vol_dir.specs.NameKeys.{key_of, IsSlotName}
use Rattle.vol_dir.specs.NameList.{by_bytes, IsKeyed, put_first}
use Rattle.vol_dir.specs.declared.listing.NameEntry.{NameEntry}
use Rattle.vol_dir.proofs.NameKeys.{exact_nat, key_cmp}

-- the entries in the slots of directory `d` before slot `n`
unfoldable pub slots_below : Geometry → List ℕ → ℕ → ℕ → List (Option (List ℕ × ℕ))
slots_below geometry image d n = map (entry_at geometry image d) (range_with_len 0 n)

-- true if a slot is empty or its name is in the map
abbrev pub is_met : Names → Option (List ℕ × ℕ) → Bool
is_met names None = true
is_met names (Some entry) = is_some (get names entry.0)

-- the names in the slots of directory `d` before slot `n` have been collected, and the map has all names below marked blocks
pub record HasCollected (geometry : Geometry) (image : List ℕ) (d n : ℕ) (entries : List (ℕ × NameEntry)) (marks : List Bool) : Type 0 where
  pub within : n ≤ slot_count geometry image d
  pub known : PassSlots (is_met (by_bytes entries)) geometry image d 0 n
  pub marked : MarksSlots (is_met (by_bytes entries)) geometry image marks
  pub names : by_bytes entries ≡ names_of (slots_below geometry image d n)
  pub keyed : IsKeyed entries

-- a range with one more number is the range followed by that number
range_more : (a n j : ℕ) → a + n ≡ j → range_with_len a (suc n) ≡ range_with_len a n ++ j ∷ []
range_more a zero j e = let same : a ≡ j = omega arith in ap (λ k. k ∷ []) same
range_more a (suc n) j e = ap (λ ks. a ∷ ks) (range_more (a + 1) n j (omega arith))

-- the slots before slot `n + 1` are those before slot `n`, followed by slot `n`
slots_more : (geometry : Geometry) (image : List ℕ) (d n : ℕ)
    → slots_below geometry image d (suc n) ≡ slots_below geometry image d n ++ entry_at geometry image d n ∷ []
unfolding slots_below
slots_more geometry image d n =
    ap (map (entry_at geometry image d)) (range_more 0 n n (omega arith)) ∙ map-append (entry_at geometry image d) (range_with_len 0 n) (n ∷ [])

-- adding an empty slot at the end does not change the map
names_empty : (slots : List (Option (List ℕ × ℕ))) → names_of (slots ++ None ∷ []) ≡ names_of slots
names_empty [] = refl
names_empty (None ∷ slots) = names_empty slots
names_empty (Some entry ∷ slots) = ap (λ names. insert names entry.0 entry.1) (names_empty slots)

-- inserting a name in a map changes only the value of this name
get_insert : (names : Names) (name q : List ℕ) (i : ℕ) → get (insert names name i) q ≡ cond (bytes_eq q name) (Some i) (get names q)
get_insert names name q i =
    find-put (slice_cmp nat_cmp) nat_list_cmp_total q name i names ∙ ap (λ b. cond b (Some i) (get names q)) (is_eq-slice_cmp q name)

-- the first of two values, or the second if the first is None
abbrev pub or_else : Option ℕ → Option ℕ → Option ℕ
or_else None second = second
or_else (Some first) second = Some first

-- `or_else` of a conditional is the conditional of `or_else`
cond_else : (b : Bool) (x second : Option ℕ) (i : ℕ) → cond b (Some i) (or_else x second) ≡ or_else (cond b (Some i) x) second
cond_else true x second i = refl
cond_else false x second i = refl

-- adding a slot at the end gives its name a value only if no earlier slot has the name
get_behind : (slots : List (Option (List ℕ × ℕ))) (name q : List ℕ) (i : ℕ)
    → get (names_of (slots ++ Some (name, i) ∷ [])) q ≡ or_else (get (names_of slots) q) (cond (bytes_eq q name) (Some i) None)
get_behind [] name q i = get_insert [] name q i
get_behind (None ∷ slots) name q i = get_behind slots name q i
get_behind (Some entry ∷ slots) name q i =
    get_insert (names_of (slots ++ Some (name, i) ∷ [])) entry.0 q entry.1
    ∙ (ap (cond (bytes_eq q entry.0) (Some entry.1)) (get_behind slots name q i)
    ∙ (cond_else (bytes_eq q entry.0) (get (names_of slots) q) (cond (bytes_eq q name) (Some i) None) entry.1
    ∙ ap (λ first. or_else first (cond (bytes_eq q name) (Some i) None)) (sym (get_insert (names_of slots) entry.0 q entry.1))))

-- `put_first` gives a name a value only if the map doesn't have the name
get_put_first : (names : Names) (name q : List ℕ) (i : ℕ)
    → get (put_first names name i) q ≡ or_else (get names q) (cond (bytes_eq q name) (Some i) None)
unfolding put_first
get_put_first names name q i =
    elim (get names name) as (λ found. get names name ≡ found
    → get (cond (is_some found) names (insert names name i)) q ≡ or_else (get names q) (cond (bytes_eq q name) (Some i) None)) [
      | None ↦ λ e. get_insert names name q i ∙ absent (bytes_eq q name) (get names q)
          (λ same. ap (get names) (same_bytes q name same) ∙ e)
      | Some j ↦ λ e. sym (present (bytes_eq q name) (get names q) j (λ same. ap (get names) (same_bytes q name same) ∙ e))
    ] refl
  where
    absent : (b : Bool) (found : Option ℕ) → (b ≡ true → found ≡ None) → cond b (Some i) found ≡ or_else found (cond b (Some i) None)
    absent true found none = sym (ap (λ f. or_else f (Some i)) (none refl))
    absent false None none = refl
    absent false (Some j) none = refl

    present : (b : Bool) (found : Option ℕ) (j : ℕ) → (b ≡ true → found ≡ Some j) → or_else found (cond b (Some i) None) ≡ found
    present true found j here = ap (λ f. or_else f (Some i)) (here refl) ∙ sym (here refl)
    present false None j here = refl
    present false (Some k) j here = refl

-- adding a slot at the end adds its name to the map with `put_first`
names_behind : (slots : List (Option (List ℕ × ℕ))) (name : List ℕ) (i : ℕ)
    → names_of (slots ++ Some (name, i) ∷ []) ≡ put_first (names_of slots) name i
unfolding put_first
names_behind slots name i =
    same_entries (slice_cmp nat_cmp) nat_list_cmp_total exact_bytes (names_of (slots ++ Some (name, i) ∷ [])) (put_first (names_of slots) name i)
    (sorted (slots ++ Some (name, i) ∷ [])) (still_sorted (is_some (get (names_of slots) name)))
    (λ q. get_behind slots name q i ∙ sym (get_put_first (names_of slots) name q i))
  where
    still_sorted : (b : Bool) → T (is_sorted (slice_cmp nat_cmp) (cond b (names_of slots) (insert (names_of slots) name i)))
    still_sorted true = sorted slots
    still_sorted false = is_sorted-put (slice_cmp nat_cmp) nat_list_cmp_total name i (names_of slots) (sorted slots)

-- adding a slot that is empty, or whose name is in the map already, does not change the map
names_more : (slots : List (Option (List ℕ × ℕ))) (entry : Option (List ℕ × ℕ)) → is_met (names_of slots) entry ≡ true
    → names_of (slots ++ entry ∷ []) ≡ names_of slots
unfolding put_first
names_more slots None met = names_empty slots
names_more slots (Some entry) met =
    names_behind slots entry.0 entry.1 ∙ ap (λ b. cond b (names_of slots) (insert (names_of slots) entry.0 entry.1)) met

-- adding `k` slots that are empty, or have names that are in the map already, does not change the map
names_kept : (geometry : Geometry) (image : List ℕ) (d n k : ℕ)
    → ((t : ℕ) → n ≤ t → t < k + n → is_met (names_of (slots_below geometry image d n)) (entry_at geometry image d t) ≡ true)
    → names_of (slots_below geometry image d (k + n)) ≡ names_of (slots_below geometry image d n)
names_kept geometry image d n zero met = let same : 0 + n ≡ n = omega arith in ap (λ m. names_of (slots_below geometry image d m)) same
names_kept geometry image d n (suc k) met =
    let more : suc k + n ≡ suc (k + n) = omega arith in
    let before = names_kept geometry image d n k (λ t low high. met t low (omega arith)) in
    ap (λ m. names_of (slots_below geometry image d m)) more
    ∙ (ap names_of (slots_more geometry image d (k + n))
    ∙ (names_more (slots_below geometry image d (k + n)) (entry_at geometry image d (k + n))
    (ap (λ names. is_met names (entry_at geometry image d (k + n))) before ∙ met (k + n) (omega arith) (omega arith))
    ∙ before))

-- adding the slots `n..m` does not change the map if they are empty or have names that are in the map already
names_until : (geometry : Geometry) (image : List ℕ) (d n m : ℕ) → n ≤ m → m ≤ slot_count geometry image d
    → PassSlots (is_met (names_of (slots_below geometry image d n))) geometry image d n m
    → names_of (slots_below geometry image d m) ≡ names_of (slots_below geometry image d n)
names_until geometry image d n m h last met =
    let m_is : (m - n) + n ≡ m = omega arith in
    ap (λ k. names_of (slots_below geometry image d k)) (sym m_is)
    ∙ names_kept geometry image d n (m - n) (λ t low high. met t low (omega arith) (omega arith))

-- the numbers of two names are in the order of the names, for an entry of the map
entry_cmp : (key : ℕ) (name : List ℕ) (entry : ℕ × NameEntry) → key ≡ key_of name → IsSlotName name → entry.0 ≡ key_of entry.1.name.items
    → IsSlotName entry.1.name.items → nat_cmp key entry.0 ≡ slice_cmp nat_cmp name entry.1.name.items
entry_cmp key name entry is stored keyed other =
    ap (λ k. nat_cmp k entry.0) is ∙ (ap (nat_cmp (key_of name)) keyed ∙ key_cmp name entry.1.name.items stored other)

-- inserting an entry under the number of its name inserts the name in the map
named_insert : (entries : List (ℕ × NameEntry)) (key : ℕ) (value : NameEntry) → IsKeyed entries → key ≡ key_of value.name.items → IsSlotName value.name.items
    → by_bytes (insert_entry nat_cmp entries key value) ≡ insert (by_bytes entries) value.name.items value.inode
named_insert [] key value keyed is stored = refl
named_insert (e ∷ es) key value keyed is stored =
    ap (λ o. by_bytes (match_ordering o ((key, value) ∷ e ∷ es) ((e.0, value) ∷ es) (e ∷ insert_entry nat_cmp es key value)))
    (entry_cmp key value.name.items e is stored keyed.0 keyed.1)
    ∙ (elim (slice_cmp nat_cmp value.name.items e.1.name.items) as (λ o. slice_cmp nat_cmp value.name.items e.1.name.items ≡ o
    → by_bytes (match_ordering o ((key, value) ∷ e ∷ es) ((e.0, value) ∷ es) (e ∷ insert_entry nat_cmp es key value))
    ≡ by_order o ((value.name.items, value.inode) ∷ by_bytes (e ∷ es)) ((e.1.name.items, value.inode) ∷ by_bytes es)
    ((e.1.name.items, e.1.inode) ∷ put (slice_cmp nat_cmp) value.name.items value.inode (by_bytes es))) [
      | Less ↦ λ o. refl
      | Equal ↦ λ o. ap (λ name. (name, value.inode) ∷ by_bytes es) (exact_bytes value.name.items e.1.name.items o)
      | Greater ↦ λ o. ap (λ rest. (e.1.name.items, e.1.inode) ∷ rest) (named_insert es key value keyed.2 is stored)
    ] refl)

-- inserting an entry under the number of its name keeps each entry under the number of its name
keyed_insert : (entries : List (ℕ × NameEntry)) (key : ℕ) (value : NameEntry) → IsKeyed entries → key ≡ key_of value.name.items → IsSlotName value.name.items
    → IsKeyed (insert_entry nat_cmp entries key value)
keyed_insert [] key value keyed is stored = (is, stored, tt)
keyed_insert (e ∷ es) key value keyed is stored =
    elim (nat_cmp key e.0) as (λ o. nat_cmp key e.0 ≡ o → IsKeyed (match_ordering o ((key, value) ∷ e ∷ es) ((e.0, value) ∷ es) (e ∷ insert_entry nat_cmp es key value))) [
      | Less ↦ λ o. (is, stored, keyed)
      | Equal ↦ λ o. (sym (exact_nat key e.0 o) ∙ is, stored, keyed.2)
      | Greater ↦ λ o. (keyed.0, keyed.1, keyed_insert es key value keyed.2 is stored)
    ] refl

-- before the first slot, no names have been collected
pub collected_none : (geometry : Geometry) (image : List ℕ) (d : ℕ) (entries : List (ℕ × NameEntry)) (marks : List Bool) → entries ≡ []
    → ((k : ℕ) → slice_index_or marks k false ≡ false) → HasCollected geometry image d 0 entries marks
unfolding slots_below
collected_none geometry image d entries marks empty clear = record {
  within = omega arith;
  names = ap by_bytes empty;
  keyed = subst IsKeyed (sym empty) tt;
  known = λ t low high within. absurd (omega arith);
  marked = clear_passes (passes_in (is_met (by_bytes entries)) geometry image) geometry image marks clear;
}

-- `or_else` has a value if the first value exists
else_some : (first second : Option ℕ) → is_some first ≡ true → is_some (or_else first second) ≡ true
else_some None second some = absurd (true≢false (sym some))
else_some (Some i) second some = refl

-- `or_else` has a value if the second value exists
some_else : (first : Option ℕ) (i : ℕ) → is_some (or_else first (Some i)) ≡ true
some_else None i = refl
some_else (Some j) i = refl

-- a slot that is empty or has a name in the map still is or has after `put_first`
met_more : (names : Names) (name : List ℕ) (i : ℕ) (entry : Option (List ℕ × ℕ)) → is_met names entry ≡ true → is_met (put_first names name i) entry ≡ true
met_more names name i None met = refl
met_more names name i (Some entry) met =
    ap is_some (get_put_first names name entry.0 i) ∙ else_some (get names entry.0) (cond (bytes_eq entry.0 name) (Some i) None) met

-- after `put_first` of a name, the map has the name
met_put : (names : Names) (name : List ℕ) (i : ℕ) → is_met (put_first names name i) (Some (name, i)) ≡ true
met_put names name i =
    ap is_some (get_put_first names name name i ∙ ap (λ b. or_else (get names name) (cond b (Some i) None)) (bytes_same name name refl))
    ∙ some_else (get names name) i

-- if all slots below a block are empty or have names in the map, they still are or have after `put_first`
passes_more : (names : Names) (name : List ℕ) (i : ℕ) (geometry : Geometry) (image : List ℕ) (m part : ℕ)
    → passes_in (is_met names) geometry image m part ≡ true → passes_in (is_met (put_first names name i)) geometry image m part ≡ true
passes_more names name i geometry image m part = elim (nat_lt part 32) as (λ z. (if z then is_met names (entry_in_block geometry image m part) else true) ≡ true
    → (if z then is_met (put_first names name i) (entry_in_block geometry image m part) else true) ≡ true) [
      | true ↦ met_more names name i (entry_in_block geometry image m part)
      | false ↦ λ met. refl
    ]

-- after `put_first` of the next entry's name, the names in the slots up to this entry have been collected
pub collected_next : (geometry : Geometry) (image : List ℕ) (d from s : ℕ) (slot : Slot) (name : List ℕ) (old new : List (ℕ × NameEntry)) (before after : List Bool)
    → HasCollected geometry image d from old before
    → IsEntryFrom geometry image d from s slot → PassSlots (is_met (by_bytes old)) geometry image d from s
    → MarksSlots (is_met (by_bytes old)) geometry image after → name ≡ name_of slot.name
    → by_bytes new ≡ put_first (by_bytes old) name slot.inode → IsKeyed new → HasCollected geometry image d (s + 1) new after
collected_next geometry image d from s slot name old new before after collected next passed marked is put keyed =
    let here : entry_at geometry image d s ≡ Some (name_of slot.name, slot.inode) = next.holds ∙ entry_some slot next.some in
    let more : s + 1 ≡ suc s = omega arith in
    let put_here : by_bytes new ≡ put_first (by_bytes old) (name_of slot.name) slot.inode = put ∙ ap (λ n. put_first (by_bytes old) n slot.inode) is in
    record {
      within = let within = next.within in omega arith;
      keyed = keyed;
      names = put
          ∙ (ap (λ names. put_first names name slot.inode) (collected.names ∙ sym (names_until geometry image d from s next.reached (let within = next.within in omega arith)
          (subst (λ names. PassSlots (is_met names) geometry image d from s) collected.names passed)))
          ∙ (ap (λ n. put_first (names_of (slots_below geometry image d s)) n slot.inode) is
          ∙ (sym (names_behind (slots_below geometry image d s) (name_of slot.name) slot.inode)
          ∙ (ap (λ entry. names_of (slots_below geometry image d s ++ entry ∷ [])) (sym here)
          ∙ (ap names_of (sym (slots_more geometry image d s))
          ∙ ap (λ n. names_of (slots_below geometry image d n)) (sym more))))));
      known = λ t low high within. elim (cases_lt t s) [
        | inl before ↦ subst (λ names. is_met names (entry_at geometry image d t) ≡ true) (sym put_here) (met_more (by_bytes old) (name_of slot.name) slot.inode (entry_at geometry image d t)
            (elim (cases_lt t from) [ inl under ↦ collected.known t low under within | inr over ↦ passed t over before within ]))
        | inr after ↦
            let same : t ≡ s = omega arith in
            subst (λ names. is_met names (entry_at geometry image d t) ≡ true) (sym put_here)
            (ap (λ n. is_met (put_first (by_bytes old) (name_of slot.name) slot.inode) (entry_at geometry image d n)) same
            ∙ (ap (is_met (put_first (by_bytes old) (name_of slot.name) slot.inode)) here ∙ met_put (by_bytes old) (name_of slot.name) slot.inode))
      ];
      marked = λ m n mark c part low.
          subst (λ names. passes_in (is_met names) geometry image (below geometry image (constants geometry.edition).pointers m n c) part ≡ true) (sym put_here)
          (passes_more (by_bytes old) (name_of slot.name) slot.inode geometry image (below geometry image (constants geometry.edition).pointers m n c) part (marked m n mark c part low));
    }

-- if all later slots are empty or have names in the map, all names of the directory have been collected
pub collected_all : (geometry : Geometry) (image : List ℕ) (d from : ℕ) (entries : List (ℕ × NameEntry)) (marks : List Bool)
    → HasCollected geometry image d from entries marks
    → PassSlots (is_met (by_bytes entries)) geometry image d from (slot_count geometry image d)
    → by_bytes entries ≡ names_of (slots geometry image d)
unfolding slots slots_below
collected_all geometry image d from entries marks collected passed =
    collected.names ∙ sym (names_until geometry image d from (slot_count geometry image d) collected.within (omega arith)
    (subst (λ names. PassSlots (is_met names) geometry image d from (slot_count geometry image d)) collected.names passed))

-- the entries have the number of a name exactly if the map has the name
lookup_listed : (key : ℕ) (name : List ℕ) (entries : List (ℕ × NameEntry)) → key ≡ key_of name → IsSlotName name → IsKeyed entries
    → is_some (lookup (λ k. is_eq (nat_cmp key k)) entries) ≡ is_some (get (by_bytes entries) name)
lookup_listed key name [] is stored keyed = refl
lookup_listed key name (e ∷ es) is stored keyed =
    ap (λ o. is_some (cond (is_eq o) (Some e.1) (lookup (λ k. is_eq (nat_cmp key k)) es))) (entry_cmp key name e is stored keyed.0 keyed.1)
    ∙ elim (is_eq (slice_cmp nat_cmp name e.1.name.items)) as (λ b. is_some (cond b (Some e.1) (lookup (λ k. is_eq (nat_cmp key k)) es))
    ≡ is_some (cond b (Some e.1.inode) (get (by_bytes es) name))) [
      | true ↦ refl
      | false ↦ lookup_listed key name es is stored keyed.2
    ]

-- if the entries don't have a name, inserting it is `put_first`
pub listed_put : (entries new : List (ℕ × NameEntry)) (key : ℕ) (value : NameEntry) (name : List ℕ) → IsKeyed entries → key ≡ key_of name → IsSlotName name
    → is_some (lookup (λ k. is_eq (nat_cmp key k)) entries) ≡ false → new ≡ insert_entry nat_cmp entries key value → value.name.items ≡ name
    → (by_bytes new ≡ put_first (by_bytes entries) name value.inode) × IsKeyed new
unfolding put_first
listed_put entries new key value name keyed is stored missing put same =
    let here : key ≡ key_of value.name.items = is ∙ ap key_of (sym same) in
    let kept : IsSlotName value.name.items = subst IsSlotName (sym same) stored in
    let absent : is_some (get (by_bytes entries) name) ≡ false = sym (lookup_listed key name entries is stored keyed) ∙ missing in (
      ap by_bytes put ∙ (named_insert entries key value keyed here kept ∙ (ap (λ n. insert (by_bytes entries) n value.inode) same
          ∙ sym (ap (λ b. cond b (by_bytes entries) (insert (by_bytes entries) name value.inode)) absent))),
      subst IsKeyed (sym put) (keyed_insert entries key value keyed here kept),
    )

-- if the entries have a name, `put_first` of it changes nothing
pub listed_kept : (entries : List (ℕ × NameEntry)) (key : ℕ) (name : List ℕ) (i : ℕ) → IsKeyed entries → key ≡ key_of name → IsSlotName name
    → is_some (lookup (λ k. is_eq (nat_cmp key k)) entries) ≡ true → by_bytes entries ≡ put_first (by_bytes entries) name i
unfolding put_first
listed_kept entries key name i keyed is stored there =
    sym (ap (λ b. cond b (by_bytes entries) (insert (by_bytes entries) name i)) (sym (lookup_listed key name entries is stored keyed) ∙ there))
