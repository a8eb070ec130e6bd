-- The slots of a directory after bytes were written to one of them.
use Rattle.std.proofs.Common.{suc, ◌≡◌, ◌≢◌, ◌∙◌, sym, ap, refl, ℕ, ◌+◌, ◌-◌, ◌*◌, ◌/◌, ◌%◌, ◌<◌, ◌≤◌, max, List, ◌∷◌, ◌++◌, map, length, take, drop, get_or, None, inl, inr, arith, ltb, if◌then◌else◌}
use Rattle.std.specs.Prelude.{Option, replicate, ◌⊎◌}
use Rattle.std.specs.List.{range_with_len}
use Rattle.std.proofs.lemmas.Bool.{cases_lt, cases_eq}
use Rattle.std.proofs.lemmas.List.{same_lists, length-append, length-take, length-take-le, length-drop, length-replicate, get_or_append_left, get_or-append_right, get_or-take, get_or-drop}
use Rattle.vol_layout.specs.Body.{body_size, body}
use Rattle.vol_layout.specs.Slot.{slot_at}
use Rattle.vol_layout.specs.Edition.{constants}
use Rattle.vol_layout.proofs.BodyLaws.{length-body}
use Rattle.vol_layout.proofs.SlotLaws.{slot_copied}
use Rattle.vol_layout.specs.declared.geometry.Geometry.{Geometry}
use Rattle.vol_file.specs.Changes.{spliced}
use Rattle.vol_file.specs.Rules.{size_of}
use Rattle.vol_dir.specs.EntryEdits.{with_item}
use Rattle.vol_dir.specs.Entries.{entry_in, slot_count, entry_at, slots}
use Rattle.vol_dir.proofs.ReadSlots.{entry_at_in, entry_at_past, length-slots, slot_from}

-- the part of `spliced` before the text ends at the offset
front_length : (bytes : List ℕ) (offset : ℕ) → offset ≤ length bytes → length (take offset bytes ++ replicate (offset - length bytes) 0) ≡ offset
front_length bytes offset h =
    omega (arith, length-append (take offset bytes) (replicate (offset - length bytes) 0), length-take offset bytes, length-replicate {A = ℕ} (offset - length bytes) 0)

-- a byte of `spliced` before the text is unchanged
pub spliced_before : (bytes : List ℕ) (offset : ℕ) (text : List ℕ) (n : ℕ) → offset ≤ length bytes → n < offset
    → get_or (spliced bytes offset text) n 0 ≡ get_or bytes n 0
spliced_before bytes offset text n h low =
    let front = front_length bytes offset h in
    let first : length (take offset bytes) ≡ offset = length-take-le offset bytes h in
    get_or_append_left (take offset bytes ++ replicate (offset - length bytes) 0) (text ++ drop (offset + length text) bytes) 0 n (omega arith)
    ∙ (get_or_append_left (take offset bytes) (replicate (offset - length bytes) 0) 0 n (omega arith) ∙ get_or-take offset bytes n 0 low)

-- a byte of `spliced` within the text is a byte of the text
pub spliced_inside : (bytes : List ℕ) (offset : ℕ) (text : List ℕ) (r : ℕ) → offset ≤ length bytes → r < length text
    → get_or (spliced bytes offset text) (offset + r) 0 ≡ get_or text r 0
spliced_inside bytes offset text r h low =
    let back : offset + r - offset ≡ r = omega arith in
    get_or-append_right (take offset bytes ++ replicate (offset - length bytes) 0) (text ++ drop (offset + length text) bytes) offset (offset + r) 0
    (front_length bytes offset h) (omega arith)
    ∙ (ap (λ m. get_or (text ++ drop (offset + length text) bytes) m 0) back
    ∙ get_or_append_left text (drop (offset + length text) bytes) 0 r low)

-- a byte of `spliced` after the text is unchanged
pub spliced_after : (bytes : List ℕ) (offset : ℕ) (text : List ℕ) (n : ℕ) → offset ≤ length bytes → offset + length text ≤ n
    → get_or (spliced bytes offset text) n 0 ≡ get_or bytes n 0
spliced_after bytes offset text n h high =
    let place : offset + length text + (n - offset - length text) ≡ n = omega arith in
    get_or-append_right (take offset bytes ++ replicate (offset - length bytes) 0) (text ++ drop (offset + length text) bytes) offset n 0
    (front_length bytes offset h) (omega arith)
    ∙ (get_or-append_right text (drop (offset + length text) bytes) (length text) (n - offset) 0 refl (omega arith)
    ∙ (get_or-drop (offset + length text) bytes (n - offset - length text) 0 ∙ ap (λ m. get_or bytes m 0) place))

-- slot `s` of directory `d` has another entry or none, and the other slots are unchanged
pub record Replaces (geometry : Geometry) (old new : List ℕ) (d s : ℕ) (slot : Option (List ℕ × ℕ)) : Type 0 where
  pub within : s ≤ slot_count geometry old d
  pub count : slot_count geometry new d ≡ max (slot_count geometry old d) (s + 1)
  pub here : entry_at geometry new d s ≡ slot
  pub others : (t : ℕ) → t ≢ s → entry_at geometry new d t ≡ entry_at geometry old d t

-- a text was written at the start of slot `s`
pub record PutsInSlot (geometry : Geometry) (old new : List ℕ) (d s : ℕ) (text : List ℕ) : Type 0 where
  pub limit : size_of geometry old d ≤ (constants geometry.edition).greatest
  pub whole : size_of geometry old d % 16 ≡ 0
  pub within : s ≤ slot_count geometry old d
  pub room : 16 * s + length text ≤ (constants geometry.edition).greatest
  pub some : 2 ≤ length text
  pub most : length text ≤ 16
  pub ends : (s < slot_count geometry old d) ⊎ (length text ≡ 16)
  pub size : size_of geometry new d ≡ max (size_of geometry old d) (16 * s + length text)
  pub body : body geometry new d ≡ spliced (body geometry old d) (16 * s) text

-- the number of slots is unchanged, or one more if the text was written after the last slot
count_after : (geometry : Geometry) (old new : List ℕ) (d s : ℕ) (text : List ℕ) → PutsInSlot geometry old new d s text
    → slot_count geometry new d ≡ max (slot_count geometry old d) (s + 1)
count_after geometry old new d s text puts =
    elim puts.ends [
      | inl inside ↦ omega (arith, puts.limit, puts.whole, puts.within, puts.room, puts.some, puts.most, puts.size, inside)
      | inr all ↦ omega (arith, puts.limit, puts.whole, puts.within, puts.room, puts.some, puts.most, puts.size, all)
    ]

-- the other slots are unchanged
slot_stays : (geometry : Geometry) (old new : List ℕ) (d s t : ℕ) (text : List ℕ) → PutsInSlot geometry old new d s text
    → t ≢ s → t < slot_count geometry old d → entry_at geometry new d t ≡ entry_at geometry old d t
slot_stays geometry old new d s t text puts other h =
    let limit = puts.limit in
    let whole = puts.whole in
    let within = puts.within in
    let most = puts.most in
    let count = count_after geometry old new d s text puts in
    let len_old : length (body geometry old d) ≡ body_size geometry old d = length-body geometry old d in
    let len_new : length (body geometry new d) ≡ body_size geometry new d = length-body geometry new d in
    let start : 16 * s ≤ length (body geometry old d) = omega arith in
    entry_at_in geometry new d t (omega arith)
    ∙ (ap entry_in (slot_copied (body geometry old d) (body geometry new d) (16 * t) (16 * t) (record {
      bytes = λ r low. ap (λ xs. get_or xs (16 * t + r) 0) puts.body ∙ elim (cases_lt t s) [
        | inl before ↦ spliced_before (body geometry old d) (16 * s) text (16 * t + r) start (omega (arith, before, low))
        | inr after ↦ spliced_after (body geometry old d) (16 * s) text (16 * t + r) start (omega (arith, after, other, most))
      ];
    }) (omega arith) (omega arith))
    ∙ sym (entry_at_in geometry old d t h))

-- writing a text at the start of a slot replaces the entry of this slot
pub replaces : (geometry : Geometry) (old new : List ℕ) (d s : ℕ) (text : List ℕ) (slot : Option (List ℕ × ℕ)) → PutsInSlot geometry old new d s text
    → entry_in (slot_at (body geometry new d) (16 * s)) ≡ slot → Replaces geometry old new d s slot
replaces geometry old new d s text slot puts is =
    let within = puts.within in
    let count = count_after geometry old new d s text puts in
    record {
      within = within;
      count = count;
      here = entry_at_in geometry new d s (omega arith) ∙ is;
      others = λ t other. elim (cases_lt t (slot_count geometry old d)) [
        | inl h ↦ slot_stays geometry old new d s t text puts other h
        | inr h ↦ entry_at_past geometry new d t (omega (arith, other, h, count, within)) ∙ sym (entry_at_past geometry old d t h)
      ];
    }

-- the length of `with_item` is unchanged, or one more if the item was appended
pub length-with_item : {X : Type 0} (xs : List X) (s : ℕ) (x : X) → s ≤ length xs → length (with_item xs s x) ≡ max (length xs) (s + 1)
length-with_item xs s x h =
    omega (arith, length-append (take s xs) (x ∷ drop (s + 1) xs), length-take s xs, length-drop (s + 1) xs)

-- item `s` of `with_item` is the new item
pub with_item_here : {X : Type 0} (xs : List X) (s : ℕ) (x d : X) → s ≤ length xs → get_or (with_item xs s x) s d ≡ x
with_item_here xs s x d h =
    let none : s - s ≡ 0 = omega arith in
    get_or-append_right (take s xs) (x ∷ drop (s + 1) xs) s s d (length-take-le s xs h) (omega arith)
    ∙ ap (λ k. get_or (x ∷ drop (s + 1) xs) k d) none

-- the other items of `with_item` are unchanged
pub with_item_else : {X : Type 0} (xs : List X) (s k : ℕ) (x d : X) → s ≤ length xs → k ≢ s → get_or (with_item xs s x) k d ≡ get_or xs k d
with_item_else xs s k x d h other = elim (cases_lt k s) [
  | inl low ↦ get_or_append_left (take s xs) (x ∷ drop (s + 1) xs) d k (let len = length-take-le s xs h in omega arith) ∙ get_or-take s xs k d low
  | inr high ↦
      let next : k - s ≡ suc (k - s - 1) = omega arith in
      let place : s + 1 + (k - s - 1) ≡ k = omega arith in
      get_or-append_right (take s xs) (x ∷ drop (s + 1) xs) s k d (length-take-le s xs h) high
      ∙ (ap (λ n. get_or (x ∷ drop (s + 1) xs) n d) next ∙ (get_or-drop (s + 1) xs (k - s - 1) d ∙ ap (λ n. get_or xs n d) place))
]

-- replacing a slot of a directory replaces it in the list of slots
pub slots_with : (geometry : Geometry) (old new : List ℕ) (d s : ℕ) (slot : Option (List ℕ × ℕ)) → Replaces geometry old new d s slot
    → slots geometry new d ≡ with_item (slots geometry old d) s slot
slots_with geometry old new d s slot replaced =
    let within = replaced.within in
    let count = replaced.count in
    let len_old = length-slots geometry old d in
    let len_new = length-slots geometry new d in
    let len = length-with_item (slots geometry old d) s slot (omega arith) in
    same_lists (slots geometry new d) (with_item (slots geometry old d) s slot) (omega arith)
    (λ k e h. elim (cases_eq k s) [
      | inl same ↦
          slot_from geometry new d k e (omega arith)
          ∙ (ap (entry_at geometry new d) same
          ∙ (replaced.here ∙ sym (ap (λ n. get_or (with_item (slots geometry old d) s slot) n e) same ∙ with_item_here (slots geometry old d) s slot e (omega arith))))
      | inr other ↦
          slot_from geometry new d k e (omega arith)
          ∙ (replaced.others k other
          ∙ sym (with_item_else (slots geometry old d) s k slot e (omega arith) other
          ∙ slot_from geometry old d k e (omega (arith, other, h, within, count, len_new))))
    ])

-- the slots in the bytes of a body
slots_in : List ℕ → ℕ → List (Option (List ℕ × ℕ))
slots_in bytes count = map (λ s. if ltb s count then entry_in (slot_at bytes (16 * s)) else None) (range_with_len 0 count)

-- a directory with the same body has the same slots
pub same_slots : (geometry : Geometry) (old new : List ℕ) (d : ℕ) → body geometry new d ≡ body geometry old d
    → slots geometry new d ≡ slots geometry old d
unfolding slots entry_at slots_in
same_slots geometry old new d same =
    let count : slot_count geometry new d ≡ slot_count geometry old d =
    ap (λ n. n / 16) (sym (length-body geometry new d) ∙ (ap length same ∙ length-body geometry old d)) in
    ap (λ bytes. slots_in bytes (slot_count geometry new d)) same ∙ ap (slots_in (body geometry old d)) count
