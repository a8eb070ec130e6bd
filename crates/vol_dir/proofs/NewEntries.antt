-- A directory after a new entry was added.
use Rattle.std.proofs.Common.{◌≡◌, ◌≢◌, ◌∙◌, sym, ap, not, subst, refl, ℕ, ◌+◌, ◌-◌, ◌*◌, ◌/◌, ◌%◌, ◌<◌, ◌≤◌, true, true≢false, List, length, take, get_or, None, Some, inl, inr, arith, ◌==◌, if◌then◌else◌}
use Rattle.std.specs.Prelude.{Option, replicate}
use Rattle.std.specs.List.{position_or_len}
use Rattle.std.specs.Option.{is_none, option_map}
use Rattle.std.proofs.lemmas.Bool.{cases_lt, ne_eqb, cases_eq}
use Rattle.std.proofs.lemmas.List.{take_all, get_or_past, get_or_append_left, get_or-append_right, get_or-replicate, get_or-map, length-append, length-replicate}
use Rattle.std.proofs.lemmas.List.Folds.{list_any_at}
use Rattle.std.proofs.lemmas.List.Sums.{passes_at_first, position_or_len_is, prefix_len-le-length}
use Rattle.std.proofs.Math.Seq.{take-append_seam}
use Rattle.vol_layout.specs.Edition.{constants}
use Rattle.vol_layout.specs.BlockPointers.{IsFile}
use Rattle.vol_layout.specs.Body.{body}
use Rattle.vol_layout.specs.Slot.{slot_at, name_of, padded_name}
use Rattle.vol_layout.proofs.BodyLaws.{length-body}
use Rattle.vol_layout.proofs.SlotLaws.{slot_copied}
use Rattle.vol_layout.specs.declared.geometry.Geometry.{Geometry}
use Rattle.vol_file.specs.Changes.{spliced, Writes}
use Rattle.vol_file.specs.Rules.{size_of, Rules3To7With}
use Rattle.vol_file.proofs.PlaceLists.{same_bytes}
use Rattle.vol_dir.specs.EntryEdits.{slot_bytes, HasNamesOnce}
use Rattle.vol_dir.specs.Entries.{entry_in, slot_count, entry_at, slots}
use Rattle.vol_dir.specs.Names.{get, names_of, names_in}
use Rattle.vol_dir.specs.Search.{holds, new_slot}
use Rattle.vol_dir.proofs.Searches.{length-names_in}
use Rattle.vol_dir.proofs.NameMaps.{none_held}
use Rattle.vol_dir.proofs.PutSlots.{Replaces, replaces, spliced_inside}
use Rattle.vol_dir.proofs.ReadSlots.{length-slots, slot_is}

-- the bytes of a padded name after the name are 0
zeros_behind : (name : List ℕ) (k : ℕ) → length name ≤ k → get_or (padded_name name) k 0 ≡ 0
zeros_behind name k h =
    get_or-append_right name (replicate (14 - length name) 0) (length name) k 0 refl h
    ∙ elim (cases_lt (k - length name) (14 - length name)) [
      | inl low ↦ get_or-replicate (14 - length name) (k - length name) 0 0 low
      | inr high ↦ get_or_past (replicate (14 - length name) 0) (k - length name) 0 (omega (arith, length-replicate {A = ℕ} (14 - length name) 0, high))
    ]

-- the name of a padded name without zero bytes is the name
pub name_padded : (name : List ℕ) → ((k : ℕ) → k < length name → get_or name k 0 ≢ 0) → name_of (padded_name name) ≡ name
name_padded name some =
    let first : position_or_len (λ c. c == 0) (padded_name name) ≡ length name =
    position_or_len_is (λ c. c == 0) (padded_name name) (length name) 0 (omega (arith, length-append name (replicate (14 - length name) 0)))
    (λ k h. ne_eqb (get_or (padded_name name) k 0) 0 (λ e. some k h (sym (get_or_append_left name (replicate (14 - length name) 0) 0 k h) ∙ e)))
    (λ h. ap (λ c. c == 0) (zeros_behind name (length name) (omega arith))) in
    ap (λ n. take n (padded_name name)) first ∙ take-append_seam name (replicate (14 - length name) 0)

-- the bytes of a slot with this name and i-number are read back as the same entry
pub slot_of_text : (name : List ℕ) (i : ℕ) → length name ≤ 14 → 1 ≤ i → ((k : ℕ) → k < length name → get_or name k 0 ≢ 0)
    → entry_in (slot_at (slot_bytes name i) 0) ≡ Some (name, i)
slot_of_text name i short first some =
    let number : i % 256 + 256 * (i / 256) ≡ i = omega arith in
    let whole : take 14 (padded_name name) ≡ padded_name name =
    take_all 14 (padded_name name) (omega (arith, length-append name (replicate (14 - length name) 0), length-replicate {A = ℕ} (14 - length name) 0)) in
    ap (λ n. if n == 0 then None else Some (name_of (take 14 (padded_name name)), n)) number
    ∙ (ap (λ b. if b then None else Some (name_of (take 14 (padded_name name)), i)) (ne_eqb i 0 (λ e. omega (arith, e)))
    ∙ ap (λ xs. Some (xs, i)) (ap name_of whole ∙ name_padded name some))

-- the slot for a new entry is one of the slots, or the one after the last
pub new_within : (geometry : Geometry) (image : List ℕ) (d : ℕ) → new_slot (names_in (slots geometry image d)) ≤ slot_count geometry image d
new_within geometry image d =
    let most = prefix_len-le-length (λ slot. not (is_none slot)) (names_in (slots geometry image d)) in
    let names = length-names_in (slots geometry image d) in
    let len = length-slots geometry image d in omega arith

-- a slot without a name is empty
no_entry : (slot : Option (List ℕ × ℕ)) → is_none (option_map (λ (entry : List ℕ × ℕ). entry.0) slot) ≡ true → slot ≡ None
no_entry None e = refl
no_entry (Some entry) e = absurd (true≢false (sym e))

-- the slot for a new entry is empty
pub new_empty : (geometry : Geometry) (image : List ℕ) (d : ℕ)
    → get_or (slots geometry image d) (new_slot (names_in (slots geometry image d))) None ≡ None
new_empty geometry image d =
    let at = new_slot (names_in (slots geometry image d)) in
    let names = length-names_in (slots geometry image d) in
    elim (cases_lt at (length (slots geometry image d))) [
      | inl low ↦
          no_entry (get_or (slots geometry image d) at None)
          (ap is_none (sym (get_or-map (option_map (λ (entry : List ℕ × ℕ). entry.0)) (slots geometry image d) at None None low))
          ∙ passes_at_first (λ slot. is_none slot) (names_in (slots geometry image d)) None (omega (arith, names, low)))
      | inr high ↦ get_or_past (slots geometry image d) at None high
    ]

-- a slot has 16 bytes
pub length-slot_bytes : (name : List ℕ) (i : ℕ) → length name ≤ 14 → length (slot_bytes name i) ≡ 16
length-slot_bytes name i short = omega (arith, length-append name (replicate (14 - length name) 0), length-replicate {A = ℕ} (14 - length name) 0)

-- a slot to which 16 bytes were written is the slot with these bytes
slot_put : (text bytes whole : List ℕ) (s : ℕ) → length text ≡ 16 → 16 * s ≤ length bytes → 16 * s + 16 ≤ length whole
    → whole ≡ spliced bytes (16 * s) text → slot_at whole (16 * s) ≡ slot_at text 0
slot_put text bytes whole s len start room is =
    slot_copied text whole 0 (16 * s) (record {
      bytes = λ r h.
          let place : r ≡ 0 + r = omega arith in
          ap (λ xs. get_or xs (16 * s + r) 0) is ∙ (spliced_inside bytes (16 * s) text r start (omega (arith, h, len)) ∙ ap (λ n. get_or text n 0) place);
    }) (omega arith) room

-- writing a name to the slot for a new entry adds the entry
pub adds : (geometry : Geometry) (old new blocks name : List ℕ) (d i : ℕ) → IsFile geometry old d → Rules3To7With geometry old blocks
    → size_of geometry old d % 16 ≡ 0 → length name ≤ 14 → ((k : ℕ) → k < length name → get_or name k 0 ≢ 0) → 1 ≤ i
    → 16 * new_slot (names_in (slots geometry old d)) + 16 ≤ (constants geometry.edition).greatest
    → Writes geometry old new d (16 * new_slot (names_in (slots geometry old d))) (slot_bytes name i) blocks
    → Replaces geometry old new d (new_slot (names_in (slots geometry old d))) (Some (name, i))
adds geometry old new blocks name d i file sound whole short some first great writes =
    let s = new_slot (names_in (slots geometry old d)) in
    let text = slot_bytes name i in
    let limit = sound.sizes.greatest d file in
    let within = new_within geometry old d in
    let sixteen = length-slot_bytes name i short in
    let size = writes.size in
    let len_old = length-body geometry old d in
    let len_new = length-body geometry new d in
    replaces geometry old new d s text (Some (name, i)) (record {
      limit = limit;
      whole = whole;
      within = within;
      room = omega (arith, great, sixteen);
      some = omega (arith, sixteen);
      most = omega (arith, sixteen);
      ends = inr sixteen;
      size = size;
      body = writes.body;
    })
    (ap entry_in (slot_put text (body geometry old d) (body geometry new d) s sixteen (omega (arith, len_old, limit, within))
    (omega (arith, len_new, limit, within, sixteen, size, great)) writes.body)
    ∙ slot_of_text name i short first some)

-- if a name is not in the map, no slot has it
pub not_held : (geometry : Geometry) (image : List ℕ) (d t : ℕ) (name : List ℕ) → get (names_of (slots geometry image d)) name ≡ None
    → holds name (entry_at geometry image d t) ≡ true → ⊥
not_held geometry image d t name none held = elim (cases_lt t (length (slots geometry image d))) [
  | inl low ↦ true≢false
      (sym (list_any_at (holds name) (slots geometry image d) t None low (ap (holds name) (slot_is geometry image d t) ∙ held))
      ∙ none_held (slots geometry image d) name none)
  | inr high ↦ true≢false (sym held ∙ ap (holds name) (sym (slot_is geometry image d t) ∙ get_or_past (slots geometry image d) t None high))
]

-- after a new name is added, no name occurs twice in the directory
pub once_added : (geometry : Geometry) (old new name : List ℕ) (d s i : ℕ) → HasNamesOnce geometry old d
    → get (names_of (slots geometry old d)) name ≡ None → Replaces geometry old new d s (Some (name, i)) → HasNamesOnce geometry new d
once_added geometry old new name d s i names none replaced =
    let other : (word : List ℕ) (a b : ℕ) → a ≡ s → (b ≡ s → ⊥) → holds word (entry_at geometry new d a) ≡ true
    → holds word (entry_at geometry new d b) ≡ true → ⊥ =
    λ word a b here there first second.
    let is : word ≡ name = same_bytes word name (ap (holds word) (sym replaced.here) ∙ (ap (λ n. holds word (entry_at geometry new d n)) (sym here) ∙ first)) in
    not_held geometry old d b name none
    (ap (λ n. holds n (entry_at geometry old d b)) (sym is) ∙ (ap (holds word) (sym (replaced.others b there)) ∙ second)) in
    record {
      once = λ word a b first second. elim (cases_eq a s) [
        | inl here ↦ elim (cases_eq b s) [ inl same ↦ here ∙ sym same | inr there ↦ absurd (other word a b here there first second) ]
        | inr away ↦ elim (cases_eq b s) [
          | inl here ↦ absurd (other word b a here away second first)
          | inr there ↦ names.once word a b (ap (holds word) (sym (replaced.others a away)) ∙ first) (ap (holds word) (sym (replaced.others b there)) ∙ second)
        ]
      ];
    }

-- a write is the same write if the offset and the bytes are equal
pub writes_as : (geometry : Geometry) (old new blocks : List ℕ) (d at offset : ℕ) (bytes text : List ℕ) → at ≡ offset → bytes ≡ text
    → Writes geometry old new d at bytes blocks → Writes geometry old new d offset text blocks
writes_as geometry old new blocks d at offset bytes text e f writes =
    subst (λ n. Writes geometry old new d n text blocks) e (subst (λ xs. Writes geometry old new d at xs blocks) f writes)
