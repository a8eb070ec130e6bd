-- Laws of the slots of a directory: their content, read from the body or from a block.
use Rattle.std.proofs.Common.{◌≡◌, ℕ, ◌+◌, ◌*◌, ◌<◌, ◌≤◌, ◌∙◌, sym, ap, refl, inl, inr, List, length, get_or, true, false, if◌then◌else◌, eqb, None, Some, arith}
use Rattle.std.specs.Prelude.{Option}
use Rattle.std.specs.Option.{unwrap_or, is_some}
use Rattle.std.proofs.lemmas.Bool.{cases_lt, lt-ltb, le-ltb, eqb-true, true≢false}
use Rattle.std.proofs.lemmas.List.{get_or_past}
use Rattle.std.proofs.lemmas.List.FromFn.{length-map-range_with_len, get_or-map-range_with_len}
use Rattle.vol_layout.specs.Geometry.{in_zone, Fits}
use Rattle.vol_layout.specs.BlockPointers.{form_at, stored}
use Rattle.vol_layout.specs.Body.{zone_byte, body_byte, body_size, body}
use Rattle.vol_layout.specs.Slot.{slot_at}
use Rattle.vol_layout.proofs.BodyLaws.{length-body, get_or-body, body_byte_at, zone_byte_in, zone_byte_out, zone_room}
use Rattle.vol_layout.proofs.SlotLaws.{slot_copied}
use Rattle.vol_layout.specs.declared.geometry.Geometry.{Geometry}
use Rattle.vol_layout.specs.declared.slot.Slot.{Slot}
use Rattle.vol_dir.specs.declared.entries.Sought.{Sought}
use Rattle.vol_dir.specs.Entries.{entry_in, slot_count, entry_at, slots}
use Rattle.vol_dir.specs.Search.{is_sought, Searches}

-- the entry in slot `s` of a directory is read from the body
pub entry_at_in : (geometry : Geometry) (image : List ℕ) (d s : ℕ) → s < slot_count geometry image d
    → entry_at geometry image d s ≡ entry_in (slot_at (body geometry image d) (16 * s))
unfolding entry_at
entry_at_in geometry image d s h = rw (lt-ltb s (slot_count geometry image d) h)

-- a slot that doesn't exist has no entry
pub entry_at_past : (geometry : Geometry) (image : List ℕ) (d s : ℕ) → slot_count geometry image d ≤ s → entry_at geometry image d s ≡ None
unfolding entry_at
entry_at_past geometry image d s h =
    rw (le-ltb s (slot_count geometry image d) h)

-- byte `r` of slot `t` in logical block `b` of a directory, read from the block
pub slot_byte : (geometry : Geometry) (image : List ℕ) (d b t r : ℕ) → t < 32 → 32 * b + t < slot_count geometry image d → r < 16
    → get_or (body geometry image d) (16 * (32 * b + t) + r) 0
    ≡ zone_byte geometry image (stored geometry image d (form_at geometry image d) b) (16 * t + r)
slot_byte geometry image d b t r few within h =
    let place : 16 * (32 * b + t) + r ≡ 512 * b + (16 * t + r) = omega arith in
    get_or-body geometry image d (16 * (32 * b + t) + r) (omega arith)
    ∙ (ap (body_byte geometry image d) place ∙ body_byte_at geometry image d b (16 * t + r) (omega arith))

-- slot `t` in logical block `b` of a directory is in data block `k`, which is stored for `b`
pub slot_in_block : (geometry : Geometry) (image : List ℕ) (d b t k : ℕ) → Fits geometry image → t < 32 → 32 * b + t < slot_count geometry image d
    → stored geometry image d (form_at geometry image d) b ≡ k → in_zone geometry k ≡ true
    → slot_at (body geometry image d) (16 * (32 * b + t)) ≡ slot_at image (512 * k + 16 * t)
slot_in_block geometry image d b t k fits few within is zone =
    let room : 512 * k + 512 ≤ length image = zone_room geometry image k fits zone in
    let len : length (body geometry image d) ≡ body_size geometry image d = length-body geometry image d in
    slot_copied image (body geometry image d) (512 * k + 16 * t) (16 * (32 * b + t)) (record {
      bytes = λ r h.
          let place : 512 * k + (16 * t + r) ≡ 512 * k + 16 * t + r = omega arith in
          slot_byte geometry image d b t r few within h
          ∙ (ap (λ m. zone_byte geometry image m (16 * t + r)) is
          ∙ (zone_byte_in geometry image k (16 * t + r) zone ∙ ap (λ x. get_or image x 0) place));
    }) (omega arith) (omega arith)

-- the entry of slot `t` in logical block `b` is read from data block `k`, which is stored for `b`
pub entry_in_block : (geometry : Geometry) (image : List ℕ) (d b t k : ℕ) → Fits geometry image → t < 32 → 32 * b + t < slot_count geometry image d
    → stored geometry image d (form_at geometry image d) b ≡ k → in_zone geometry k ≡ true
    → entry_at geometry image d (32 * b + t) ≡ entry_in (slot_at image (512 * k + 16 * t))
entry_in_block geometry image d b t k fits few within is zone =
    entry_at_in geometry image d (32 * b + t) within ∙ ap entry_in (slot_in_block geometry image d b t k fits few within is zone)

-- a slot with i-number 0 is empty
pub empty_slot : (slot : Slot) → slot.inode ≡ 0 → entry_in slot ≡ None
empty_slot slot e = rw e

-- slot `t` in logical block `b` is empty if no data block is stored for `b`
pub entry_in_hole : (geometry : Geometry) (image : List ℕ) (d b t k : ℕ) → t < 32 → 32 * b + t < slot_count geometry image d
    → stored geometry image d (form_at geometry image d) b ≡ k → in_zone geometry k ≡ false
    → entry_at geometry image d (32 * b + t) ≡ None
entry_in_hole geometry image d b t k few within is zone =
    let byte : (r n : ℕ) → r < 16 → 16 * (32 * b + t) + r ≡ n → get_or (body geometry image d) n 0 ≡ 0 =
    λ r n h e. ap (λ m. get_or (body geometry image d) m 0) (sym e)
    ∙ (slot_byte geometry image d b t r few within h
    ∙ (ap (λ m. zone_byte geometry image m (16 * t + r)) is ∙ zone_byte_out geometry image k (16 * t + r) zone)) in
    let first : get_or (body geometry image d) (16 * (32 * b + t)) 0 ≡ 0 = byte 0 (16 * (32 * b + t)) (omega arith) (omega arith) in
    let second : get_or (body geometry image d) (16 * (32 * b + t) + 1) 0 ≡ 0 = byte 1 (16 * (32 * b + t) + 1) (omega arith) (omega arith) in
    entry_at_in geometry image d (32 * b + t) within
    ∙ empty_slot (slot_at (body geometry image d) (16 * (32 * b + t))) (omega (arith, first, second))

-- if the number stored is returned as `Some m`, it is `m`
pub number_named : (k m : ℕ) → (if eqb k 0 then None else Some k) ≡ Some m → k ≡ m
number_named k m = elim (eqb k 0) as (λ z. (if z then None else Some k) ≡ Some m → k ≡ m) [ true ↦ λ e. absurd (true≢false (ap is_some (sym e))) | false ↦ λ e. ap (λ o. unwrap_or o 0) e ]

-- if the number stored is returned as None, it is 0
pub number_missing : (k : ℕ) → (if eqb k 0 then None else Some k) ≡ None → k ≡ 0
number_missing k = elim (eqb k 0) as (λ z. eqb k 0 ≡ z → (if z then None else Some k) ≡ None → k ≡ 0) [ true ↦ λ z e. eqb-true k 0 z | false ↦ λ z e. absurd (true≢false (ap is_some e)) ] refl

-- a search has the same result over equal slots
pub searches_same : (sought : Sought) (f g : ℕ → Option (List ℕ × ℕ)) (from n : ℕ) (r : Option (ℕ × Slot)) → ((t : ℕ) → t < n → g t ≡ f t)
    → Searches sought f from n r → Searches sought g from n r
searches_same sought f g from n None same search = λ t low h. ap (is_sought sought) (same t h) ∙ search t low h
searches_same sought f g from n (Some (s, slot)) same search = record {
  reached = search.reached;
  within = search.within;
  found = ap (is_sought sought) (same s search.within) ∙ search.found;
  read = same s search.within ∙ search.read;
  before = λ t low h. ap (is_sought sought) (same t (omega (arith, search.within))) ∙ search.before t low h;
}

-- the list of entries has as many items as the directory has slots
pub length-slots : (geometry : Geometry) (image : List ℕ) (d : ℕ) → length (slots geometry image d) ≡ slot_count geometry image d
unfolding slots
length-slots geometry image d = length-map-range_with_len (entry_at geometry image d) 0 (slot_count geometry image d)

-- item `s` of the list of entries is the entry in slot `s`, whatever the default
pub slot_from : (geometry : Geometry) (image : List ℕ) (d s : ℕ) (other : Option (List ℕ × ℕ)) → s < slot_count geometry image d
    → get_or (slots geometry image d) s other ≡ entry_at geometry image d s
unfolding slots
slot_from geometry image d s other h =
    get_or-map-range_with_len (entry_at geometry image d) 0 (slot_count geometry image d) s s other h (omega arith)

-- item `s` of the list of entries is the entry in slot `s`
pub get_or-slots : (geometry : Geometry) (image : List ℕ) (d s : ℕ) → s < slot_count geometry image d
    → get_or (slots geometry image d) s None ≡ entry_at geometry image d s
get_or-slots geometry image d s h = slot_from geometry image d s None h

-- item `s` of the list of entries is the entry in slot `s`, also past the end
pub slot_is : (geometry : Geometry) (image : List ℕ) (d s : ℕ) → get_or (slots geometry image d) s None ≡ entry_at geometry image d s
slot_is geometry image d s = elim (cases_lt s (slot_count geometry image d)) [
  | inl h ↦ get_or-slots geometry image d s h
  | inr h ↦ get_or_past (slots geometry image d) s None (let len = length-slots geometry image d in omega arith) ∙ sym (entry_at_past geometry image d s h)
]
