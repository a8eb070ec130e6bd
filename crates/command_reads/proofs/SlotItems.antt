-- The slots of a directory as JSON, whose objects are written with a comma before each but the first.
use Rattle.std.proofs.Common.{◌≡◌, ◌∙◌, ap, sym, refl, ℕ, zero, suc, ◌-◌, ◌*◌, min, Bool, true, false, if◌then◌else◌, List, [], ◌∷◌, ◌++◌, codes, drop, length, append_assoc, arith}
use Rattle.std.specs.List.{flat_map, range_with_len}
use Rattle.serde_json.specs.View.{items_of}
use Rattle.serde_json.specs.Written.{compact_text, has_float, items_text}
use Rattle.vol_dir.specs.Entries.{slot_count}
use Rattle.vol_layout.specs.Body.{body}
use Rattle.vol_layout.specs.Slot.{slot_at}
use Rattle.vol_layout.specs.declared.geometry.Geometry.{Geometry}
use Rattle.vol_layout.specs.declared.slot.Slot.{Slot}
use Rattle.command_reads.specs.Slots.{is_blank, slot_data, slot_entries, slot_entry, slot_item, slot_line, slot_lines, slot_text, slots_json}
use Rattle.command_reads.specs.declared.slots.SlotForm.TheVariants as slot_forms
use Rattle.command_reads.proofs.ListTexts.{slots_pieces}

-- a slot has no fraction
pub slot_whole : (number : ℕ) (slot : Slot) → has_float (slot_data number slot) ≡ false
slot_whole number slot = refl

module _ (at : ℕ → Slot) where
  -- the objects of slots with a comma before each
  items_after : (ss : List ℕ)
      → items_text true (items_of (flat_map (λ s. slot_entry s (at s)) ss)) ≡ flat_map (λ s. slot_line slot_forms.Item s (at s)) ss ++ 93 ∷ []
  unfolding slot_line slot_text
  items_after [] = refl
  items_after (s ∷ ss) = either (is_blank (at s)) (items_after ss)
    where
      either : (blank : Bool)
          → items_text true (items_of (flat_map (λ s. slot_entry s (at s)) ss)) ≡ flat_map (λ s. slot_line slot_forms.Item s (at s)) ss ++ 93 ∷ []
          → items_text true (items_of ((if blank then [] else slot_data s (at s) ∷ []) ++ flat_map (λ s. slot_entry s (at s)) ss))
          ≡ ((if blank then [] else slot_item s (at s)) ++ flat_map (λ s. slot_line slot_forms.Item s (at s)) ss) ++ 93 ∷ []
      either true rest = rest
      either false rest =
          let item = compact_text (slot_data s (at s)) in
          ap (λ text. 44 ∷ (item ++ text)) rest
          ∙ ap (λ text. 44 ∷ text) (sym (append_assoc item (flat_map (λ s. slot_line slot_forms.Item s (at s)) ss) (93 ∷ [])))

  -- without the first comma they are the items of a list
  items_front : (ss : List ℕ)
      → items_text false (items_of (flat_map (λ s. slot_entry s (at s)) ss)) ≡ drop 1 (flat_map (λ s. slot_line slot_forms.Item s (at s)) ss) ++ 93 ∷ []
  unfolding slot_line slot_text
  items_front [] = refl
  items_front (s ∷ ss) = either (is_blank (at s)) (items_front ss) (items_after ss)
    where
      either : (blank : Bool)
          → items_text false (items_of (flat_map (λ s. slot_entry s (at s)) ss)) ≡ drop 1 (flat_map (λ s. slot_line slot_forms.Item s (at s)) ss) ++ 93 ∷ []
          → items_text true (items_of (flat_map (λ s. slot_entry s (at s)) ss)) ≡ flat_map (λ s. slot_line slot_forms.Item s (at s)) ss ++ 93 ∷ []
          → items_text false (items_of ((if blank then [] else slot_data s (at s) ∷ []) ++ flat_map (λ s. slot_entry s (at s)) ss))
          ≡ drop 1 ((if blank then [] else slot_item s (at s)) ++ flat_map (λ s. slot_line slot_forms.Item s (at s)) ss) ++ 93 ∷ []
      either true front rest = front
      either false front rest =
          let item = compact_text (slot_data s (at s)) in
          ap (λ text. item ++ text) rest ∙ sym (append_assoc item (flat_map (λ s. slot_line slot_forms.Item s (at s)) ss) (93 ∷ []))

-- the pieces in which the slots of a directory are written are their JSON
pub slots_whole : (geometry : Geometry) (image : List ℕ) (d : ℕ)
    → codes "{\"format\":1,\"slots\":[" ++ (drop 1 (slot_lines slot_forms.Item geometry image d 0 (slot_count geometry image d)) ++ codes "]}\n")
    ≡ slots_json geometry image d
unfolding slot_lines
slots_whole geometry image d =
    slots_pieces (drop 1 (slot_lines slot_forms.Item geometry image d 0 (slot_count geometry image d))) (items_of (slot_entries geometry image d))
    (items_front (λ s. slot_at (body geometry image d) (16 * s)) (range_with_len 0 (slot_count geometry image d)))

-- what is left of two texts without their first bytes is what is left of the first one, and what is left of the second one without the bytes that the
-- first one lacked
pub drop_two : (left : ℕ) (xs ys : List ℕ) → drop left (xs ++ ys) ≡ drop left xs ++ drop (left - length xs) ys
drop_two zero xs ys = let none : 0 ≡ 0 - length xs = omega arith in ap (λ n. xs ++ drop n ys) none
drop_two (suc left) [] ys = let same : suc left ≡ suc left - length {A = ℕ} [] = omega arith in ap (λ n. drop n ys) same
drop_two (suc left) (x ∷ xs) ys =
    let less : left - length xs ≡ suc left - length (x ∷ xs) = omega arith in
    drop_two left xs ys ∙ ap (λ n. drop left xs ++ drop n ys) less

-- nothing is left of an empty text
pub drop_none : (left : ℕ) → drop {A = ℕ} left [] ≡ []
drop_none zero = refl
drop_none (suc left) = refl

-- the same of three texts
pub drop_three : (left : ℕ) (xs ys zs : List ℕ)
    → drop left (xs ++ (ys ++ zs)) ≡ drop left xs ++ (drop (left - length xs) ys ++ drop (left - length xs - length ys) zs)
drop_three left xs ys zs = drop_two left xs (ys ++ zs) ∙ ap (λ text. drop left xs ++ text) (drop_two (left - length xs) ys zs)

-- no more bytes can be left out than there are
pub drop_most : (left : ℕ) (xs : List ℕ) → drop (min left (length xs)) xs ≡ drop left xs
drop_most left [] = drop_none (min left (length {A = ℕ} [])) ∙ sym (drop_none left)
drop_most zero (x ∷ xs) = let is : min 0 (length (x ∷ xs)) ≡ 0 = omega arith in ap (λ n. drop n (x ∷ xs)) is
drop_most (suc left) (x ∷ xs) =
    let is : min (suc left) (length (x ∷ xs)) ≡ suc (min left (length xs)) = omega arith in ap (λ n. drop n (x ∷ xs)) is ∙ drop_most left xs
