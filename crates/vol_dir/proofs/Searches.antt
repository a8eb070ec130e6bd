-- Searching the slots of a directory, and its map.
use Rattle.std.proofs.Common.{◌≡◌, ◌∙◌, ap, refl, sym, ℕ, ◌+◌, ◌*◌, ◌^◌, ◌<◌, ◌||◌, ◌==◌, Bor, Bool, eqb, if◌then◌else◌, inl, inr, Result, Ok, Err, IfOk, IfErr, OnErr, true, false, not, List, [], ◌∷◌, length, get_or, None, Some, arith, zero, suc}
use Rattle.std.specs.Prelude.{Option}
use Rattle.std.specs.List.{list_any}
use Rattle.std.specs.Option.{option_map, is_none, is_some, ok_or}
use Rattle.std.proofs.lemmas.Bool.{cases_lt, false≢true, or_from, or_parts}
use Rattle.std.proofs.lemmas.List.{get_or-map}
use Rattle.std.proofs.lemmas.List.Folds.{list_any_at}
use Rattle.std.proofs.lemmas.List.Sums.{position_or_len_is}
use Rattle.vol_layout.specs.declared.geometry.Geometry.{Geometry}
use Rattle.vol_layout.specs.Edition.{constants}
use Rattle.vol_layout.specs.Slot.{name_of}
use Rattle.vol_layout.specs.declared.edition.Edition.{Edition}
use Rattle.vol_layout.specs.declared.edition.Edition.TheVariants.{V6, V7}
use Rattle.vol_layout.specs.declared.slot.Slot.{Slot}
use Rattle.vol_dir.specs.declared.entries.Entry.{Entry}
use Rattle.vol_dir.specs.declared.entries.Sought.TheVariants.{Empty, NamedOrEmpty, Other}
use Rattle.vol_dir.specs.Entries.{entry_in, slot_count, entry_at, slots}
use Rattle.vol_dir.specs.Names.{get, names_of, names_in, is_dots}
use Rattle.vol_dir.specs.Search.{holds, holds_other, Searches, Finds, IsFirst, IsFirstNamed, IsMissing, new_slot, slot_named}
use Rattle.vol_dir.proofs.NameMaps.{get_first, get_none, any_other}
use Rattle.vol_dir.proofs.ReadSlots.{length-slots, get_or-slots, slot_is}

-- the i-number of a name is the one in the first slot that has the name
pub found_number : (geometry : Geometry) (image : List ℕ) (d s i : ℕ) (name : List ℕ) → s < slot_count geometry image d
    → holds name (entry_at geometry image d s) ≡ true → ((t : ℕ) → t < s → holds name (entry_at geometry image d t) ≡ false)
    → option_map (λ (entry : List ℕ × ℕ). entry.1) (entry_at geometry image d s) ≡ Some i → get (names_of (slots geometry image d)) name ≡ Some i
found_number geometry image d s i name within found before is =
    let len = length-slots geometry image d in
    let here = get_or-slots geometry image d s within in
    get_first (slots geometry image d) name s (omega arith) (ap (holds name) here ∙ found)
    (λ t h. ap (holds name) (get_or-slots geometry image d t (omega arith)) ∙ before t h)
    ∙ (ap (option_map (λ (entry : List ℕ × ℕ). entry.1)) here ∙ is)

-- a name that no slot has has no i-number
pub missing_number : (geometry : Geometry) (image : List ℕ) (d : ℕ) (name : List ℕ)
    → ((t : ℕ) → t < slot_count geometry image d → holds name (entry_at geometry image d t) ≡ false)
    → get (names_of (slots geometry image d)) name ≡ None
missing_number geometry image d name none =
    let len = length-slots geometry image d in
    get_none (slots geometry image d) name (λ t h. ap (holds name) (get_or-slots geometry image d t (omega arith)) ∙ none t (omega arith))

-- the i-number of an entry is the i-number in its slot
pub number_held : (name : List ℕ) (slot : Slot) → holds name (entry_in slot) ≡ true
    → option_map (λ (entry : List ℕ × ℕ). entry.1) (entry_in slot) ≡ Some slot.inode
number_held name slot = elim (eqb slot.inode 0) as (λ z. holds name (if z then None else Some (name_of slot.name, slot.inode)) ≡ true
    → option_map (λ (entry : List ℕ × ℕ). entry.1) (if z then None else Some (name_of slot.name, slot.inode)) ≡ Some slot.inode) [
      | true ↦ λ held. absurd (false≢true held)
      | false ↦ λ held. refl
    ]

-- the first entry with a name has the i-number that the map has for the name
pub named_number : (geometry : Geometry) (image name : List ℕ) (d s i : ℕ)
    → IsFirstNamed name (entry_at geometry image d) 0 (slot_count geometry image d) s i → get (names_of (slots geometry image d)) name ≡ Some i
named_number geometry image name d s i first =
    found_number geometry image d s i name first.within first.found (λ t h. first.before t (omega arith) h) first.number

-- the first entry with a name is in the slot `slot_named`
pub named_slot : (geometry : Geometry) (image name : List ℕ) (d s i : ℕ)
    → IsFirstNamed name (entry_at geometry image d) 0 (slot_count geometry image d) s i → slot_named name (slots geometry image d) ≡ s
named_slot geometry image name d s i first =
    let len = length-slots geometry image d in
    position_or_len_is (holds name) (slots geometry image d) s None (let within = first.within in omega arith)
    (λ t h. ap (holds name) (slot_is geometry image d t) ∙ first.before t (omega arith) h) (λ h. ap (holds name) (slot_is geometry image d s) ∙ first.found)

-- a slot has a name if and only if it has an entry
none_of_name : (slot : Option (List ℕ × ℕ)) → is_none (option_map (λ (entry : List ℕ × ℕ). entry.0) slot) ≡ is_none slot
none_of_name None = refl
none_of_name (Some entry) = refl

-- the list of names has as many items as the list of slots
pub length-names_in : (slots : List (Option (List ℕ × ℕ))) → length (names_in slots) ≡ length slots
length-names_in [] = refl
length-names_in (slot ∷ slots) = ap suc (length-names_in slots)

-- a slot is empty in the list of names if and only if it has no entry
empty_named : (geometry : Geometry) (image : List ℕ) (d t : ℕ) → t < slot_count geometry image d
    → is_none (get_or (names_in (slots geometry image d)) t None) ≡ is_none (entry_at geometry image d t)
empty_named geometry image d t h =
    let len = length-slots geometry image d in
    ap is_none (get_or-map (option_map (λ (entry : List ℕ × ℕ). entry.0)) (slots geometry image d) t None None (omega arith))
    ∙ (none_of_name (get_or (slots geometry image d) t None) ∙ ap is_none (get_or-slots geometry image d t h))

-- an empty slot has no name
not_held_empty : (name : List ℕ) (slot : Option (List ℕ × ℕ)) → is_none slot ≡ true → holds name slot ≡ false
not_held_empty name None e = refl
not_held_empty name (Some entry) e = absurd (false≢true e)

-- the slot for a new entry is the first empty slot
pub new_slot_at : (geometry : Geometry) (image : List ℕ) (d s : ℕ) → s < slot_count geometry image d → is_none (entry_at geometry image d s) ≡ true
    → ((t : ℕ) → t < s → is_none (entry_at geometry image d t) ≡ false) → new_slot (names_in (slots geometry image d)) ≡ s
new_slot_at geometry image d s within empty before =
    let len = length-slots geometry image d in
    let names = length-names_in (slots geometry image d) in
    position_or_len_is (λ slot. is_none slot) (names_in (slots geometry image d)) s None (omega arith)
    (λ t h. empty_named geometry image d t (omega arith) ∙ before t h)
    (λ h. empty_named geometry image d s within ∙ empty)

pub new_slot_found : (geometry : Geometry) (image : List ℕ) (d : ℕ) {s : ℕ} {slot : Slot}
    → IsFirst Empty (entry_at geometry image d) 0 (slot_count geometry image d) s slot → new_slot (names_in (slots geometry image d)) ≡ s
new_slot_found geometry image d {s} first = new_slot_at geometry image d s first.within first.found (λ t h. first.before t (omega arith) h)

-- the slot for a new entry is the one after the last if no slot is empty
pub new_slot_past : (geometry : Geometry) (image : List ℕ) (d : ℕ)
    → IsMissing Empty (entry_at geometry image d) 0 (slot_count geometry image d)
    → new_slot (names_in (slots geometry image d)) ≡ slot_count geometry image d
new_slot_past geometry image d none =
    let len = length-slots geometry image d in
    let names = length-names_in (slots geometry image d) in
    position_or_len_is (λ slot. is_none slot) (names_in (slots geometry image d)) (slot_count geometry image d) None (omega arith)
    (λ t h. empty_named geometry image d t h ∙ none t (omega arith) h) (λ h. absurd (omega arith))

-- if no item of a list passes a test, a search finds nothing
none_any : {X : Type 0} (test : X → Bool) (xs : List X) (d : X) → ((t : ℕ) → t < length xs → test (get_or xs t d) ≡ false) → list_any test xs ≡ false
none_any test [] d none = refl
none_any test (x ∷ xs) d none = or_from (test x) (list_any test xs) (none zero (omega arith)) (none_any test xs d (λ t h. none (suc t) (omega arith)))

-- the map has a name other than `.` and `..` if and only if a search for one finds a slot
pub others_are : (geometry : Geometry) (image : List ℕ) (d : ℕ) (r : Option (ℕ × Slot))
    → Searches Other (entry_at geometry image d) 0 (slot_count geometry image d) r
    → list_any (λ (entry : List ℕ × ℕ). not (is_dots entry.0)) (names_of (slots geometry image d)) ≡ is_some r
others_are geometry image d None search =
    let len = length-slots geometry image d in
    any_other (slots geometry image d)
    ∙ none_any holds_other (slots geometry image d) None
    (λ t h. ap holds_other (get_or-slots geometry image d t (omega arith)) ∙ search t (omega arith) (omega arith))
others_are geometry image d (Some (s, slot)) search =
    let len = length-slots geometry image d in
    any_other (slots geometry image d)
    ∙ list_any_at holds_other (slots geometry image d) s None (let within = search.within in omega arith)
    (ap holds_other (get_or-slots geometry image d s search.within) ∙ search.found)

-- the greatest size fits 32 bits
greatest_low : (edition : Edition) → (constants edition).greatest < 2 ^ 32
greatest_low V6 = omega arith
greatest_low V7 = omega arith

pub slots_low : (geometry : Geometry) (image : List ℕ) (d : ℕ) → 16 * slot_count geometry image d < 2 ^ 32
slots_low geometry image d = let low = greatest_low geometry.edition in omega arith

-- a slot that a search for a name or an empty slot skips has an entry, with another name
passed_open : (name : List ℕ) (slot : Option (List ℕ × ℕ)) → (is_none slot || holds name slot) ≡ false → (is_none slot ≡ false) × (holds name slot ≡ false)
passed_open name slot e = or_parts (is_none slot) (holds name slot) e

-- a slot with an i-number that ends a search for a name or an empty slot has the name
held_open : (name : List ℕ) (slot : Slot) → eqb slot.inode 0 ≡ false → (is_none {T = List ℕ × ℕ} (entry_in slot) || holds name (entry_in slot)) ≡ true
    → holds name (entry_in slot) ≡ true
held_open name slot = elim (eqb slot.inode 0) as (λ z. z ≡ false
    → (is_none {T = List ℕ × ℕ} (if z then None else Some (name_of slot.name, slot.inode)) || holds name (if z then None else Some (name_of slot.name, slot.inode))) ≡ true
    → holds name (if z then None else Some (name_of slot.name, slot.inode)) ≡ true) [
      | true ↦ λ some held. absurd (false≢true (sym some))
      | false ↦ λ some held. held
    ]

-- a slot without an i-number is empty
pub empty_open : (slot : Slot) → slot.inode ≡ 0 → is_none (entry_in slot) ≡ true
empty_open slot e = ap (λ i. is_none {T = List ℕ × ℕ} (if i == 0 then None else Some (name_of slot.name, i))) e

-- the result of `lookup` of a name: its entry, or the slot for a new entry
pub record IsLookedUp (geometry : Geometry) (image : List ℕ) (d : ℕ) (name : List ℕ) (result : Result Entry ℕ) : Type 0 where
  pub number : IfOk result (λ entry. get (names_of (slots geometry image d)) name ≡ Some entry.inode)
  pub slot : IfOk result (λ entry. entry.slot ≡ slot_named name (slots geometry image d))
  pub missing : OnErr result (get (names_of (slots geometry image d)) name ≡ None)
  pub new_slot : IfErr result (λ slot. slot ≡ new_slot (names_in (slots geometry image d)))

module _ (geometry : Geometry) (image name : List ℕ) (d : ℕ) where
  -- the result of `lookup` if no slot has the name and none is empty
  pub looked_past : ((t : ℕ) → t < slot_count geometry image d → (is_none (entry_at geometry image d t) || holds name (entry_at geometry image d t)) ≡ false)
      → IsLookedUp geometry image d name (Err (slot_count geometry image d))
  looked_past none = record {
    number = tt;
    slot = tt;
    missing = missing_number geometry image d name (λ t h. (passed_open name (entry_at geometry image d t) (none t h)).1);
    new_slot = sym (new_slot_past geometry image d (λ t low h. (passed_open name (entry_at geometry image d t) (none t h)).0));
  }

  -- the result of `lookup` if slot `s` is the first with the name
  pub looked_at : (s i : ℕ) → IsFirstNamed name (entry_at geometry image d) 0 (slot_count geometry image d) s i
      → IsLookedUp geometry image d name (Ok (record { slot = s; inode = i }))
  looked_at s i first = record {
    number = named_number geometry image name d s i first;
    slot = sym (named_slot geometry image name d s i first);
    missing = tt;
    new_slot = tt;
  }

  -- the result of `lookup` if a search for the name or an empty slot ends at a slot with an i-number
  pub looked_first : (s : ℕ) (slot : Slot) (search : Bor (List ℕ)) → search.now ≡ name → eqb slot.inode 0 ≡ false
      → IsFirst (NamedOrEmpty search) (entry_at geometry image d) 0 (slot_count geometry image d) s slot
      → IsLookedUp geometry image d name (Ok (record { slot = s; inode = slot.inode }))
  looked_first s slot search is some first =
      let held : holds name (entry_in slot) ≡ true = held_open name slot some (rw (sym is) (ap (λ e. is_none e || holds search.now e) (sym first.read) ∙ first.found)) in
      looked_at s slot.inode (record {
        reached = first.reached;
        within = first.within;
        found = ap (holds name) first.read ∙ held;
        number = ap (option_map (λ (entry : List ℕ × ℕ). entry.1)) first.read ∙ number_held name slot held;
        before = λ t low h. (passed_open name (entry_at geometry image d t) (rw (sym is) (first.before t low h))).1;
      })

  -- a slot up to the first empty slot `s` doesn't have the name
  before_empty : (s t : ℕ) → is_none (entry_at geometry image d s) ≡ true
      → ((r : ℕ) → r < s → holds name (entry_at geometry image d r) ≡ false) → t < s + 1 → holds name (entry_at geometry image d t) ≡ false
  before_empty s t empty before h = elim (cases_lt t s) [
    | inl low ↦ before t low
    | inr high ↦
        let same : t ≡ s = omega arith in
        ap (λ n. holds name (entry_at geometry image d n)) same ∙ not_held_empty name (entry_at geometry image d s) empty
  ]

  -- the result of `lookup` if the first slot that is empty or has the name is empty, so that the search for the name continues after it
  pub looked_on : (s : ℕ) (found : Option Entry) → s < slot_count geometry image d → is_none (entry_at geometry image d s) ≡ true
      → ((t : ℕ) → t < s → (is_none (entry_at geometry image d t) || holds name (entry_at geometry image d t)) ≡ false)
      → Finds name (entry_at geometry image d) (s + 1) (slot_count geometry image d) found → IsLookedUp geometry image d name (ok_or found s)
  looked_on s None within empty before finds = record {
    number = tt;
    slot = tt;
    missing = missing_number geometry image d name (λ t h. elim (cases_lt t (s + 1)) [
      | inl low ↦ before_empty s t empty (λ r k. (passed_open name (entry_at geometry image d r) (before r k)).1) low
      | inr high ↦ finds t high h
    ]);
    new_slot = sym (new_slot_at geometry image d s within empty (λ t h. (passed_open name (entry_at geometry image d t) (before t h)).0));
  }
  looked_on s (Some e) within empty before finds = looked_at e.slot e.inode (record {
    reached = omega arith;
    within = finds.within;
    found = finds.found;
    number = finds.number;
    before = λ t low h. elim (cases_lt t (s + 1)) [
      | inl below ↦ before_empty s t empty (λ r k. (passed_open name (entry_at geometry image d r) (before r k)).1) below
      | inr high ↦ finds.before t high h
    ];
  })
