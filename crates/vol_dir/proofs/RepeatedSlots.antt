-- The slots of a directory, found by the block that contains them.
use Rattle.std.proofs.Common.{◌≡◌, ℕ, ◌+◌, ◌*◌, ◌/◌, ◌%◌, ◌<◌, ◌≤◌, ◌∙◌, sym, ap, refl, inl, inr, List, true, false, if◌then◌else◌, None, Some, arith}
use Rattle.std.specs.Prelude.{Option, Bool, nat_lt, MatchOption}
use Rattle.std.specs.Option.{is_none, is_some, IfSome}
use Rattle.std.proofs.lemmas.Bool.{cases_lt, lt-ltb, le-ltb, true≢false}
use Rattle.vol_layout.specs.Geometry.{in_zone, Fits}
use Rattle.vol_layout.specs.BlockPointers.{form_at, stored}
use Rattle.vol_layout.specs.Slot.{slot_at}
use Rattle.vol_layout.specs.declared.geometry.Geometry.{Geometry}
use Rattle.vol_layout.specs.declared.slot.Slot.{Slot}
use Rattle.vol_dir.specs.Entries.{entry_in, entry_at, slot_count}
use Rattle.vol_dir.specs.Repeats.{IsEntryFrom, PassSlots, entry_in_block, passes_in}
use Rattle.vol_dir.specs.Scan.{GoesOn}
use Rattle.vol_dir.proofs.ReadSlots.{entry_in_block as entry_of_block, entry_in_hole}

-- a slot of a directory is a slot of the block stored for its logical block
slot_of : (geometry : Geometry) (image : List ℕ) (d b s : ℕ) → Fits geometry image → s < 32 → 32 * b + s < slot_count geometry image d
    → entry_at geometry image d (32 * b + s) ≡ entry_in_block geometry image (stored geometry image d (form_at geometry image d) b) s
slot_of geometry image d b s fits few within =
    let m = stored geometry image d (form_at geometry image d) b in
    elim (in_zone geometry m) as (λ z. in_zone geometry m ≡ z
    → entry_at geometry image d (32 * b + s) ≡ (if z then entry_in (slot_at image (512 * m + 16 * s)) else None)) [
      | true ↦ λ zone. entry_of_block geometry image d b s m fits few within refl zone
      | false ↦ λ zone. entry_in_hole geometry image d b s m few within refl zone
    ] refl

-- a slot passes a test in its block if and only if it passes it in the directory
pub passes_slot : (test : Option (List ℕ × ℕ) → Bool) (geometry : Geometry) (image : List ℕ) (d b s : ℕ) → Fits geometry image → s < 32
    → 32 * b + s < slot_count geometry image d
    → passes_in test geometry image (stored geometry image d (form_at geometry image d) b) s ≡ test (entry_at geometry image d (32 * b + s))
passes_slot test geometry image d b s fits few within =
    let m = stored geometry image d (form_at geometry image d) b in
    ap (λ z. if z then test (entry_in_block geometry image m s) else true) (lt-ltb s 32 few) ∙ ap test (sym (slot_of geometry image d b s fits few within))

-- a slot that passes a test in its block passes it in the directory
pub slot_passes : (test : Option (List ℕ × ℕ) → Bool) (geometry : Geometry) (image : List ℕ) (d t : ℕ) → Fits geometry image → t < slot_count geometry image d
    → passes_in test geometry image (stored geometry image d (form_at geometry image d) (t / 32)) (t % 32) ≡ true → test (entry_at geometry image d t) ≡ true
slot_passes test geometry image d t fits within passes =
    let place : 32 * (t / 32) + t % 32 ≡ t = omega arith in
    ap (λ n. test (entry_at geometry image d n)) (sym place) ∙ (sym (passes_slot test geometry image d (t / 32) (t % 32) fits (omega arith) (omega arith)) ∙ passes)

-- if all slots of a logical block pass a test, all slots of its block pass it
pub block_passes : (test : Option (List ℕ × ℕ) → Bool) (geometry : Geometry) (image : List ℕ) (d b part : ℕ) → Fits geometry image
    → 32 * b + 32 ≤ slot_count geometry image d
    → ((t : ℕ) → 32 * b ≤ t → t < 32 * b + 32 → test (entry_at geometry image d t) ≡ true)
    → passes_in test geometry image (stored geometry image d (form_at geometry image d) b) part ≡ true
block_passes test geometry image d b part fits within passes = elim (cases_lt part 32) [
  | inl few ↦ passes_slot test geometry image d b part fits few (omega arith) ∙ passes (32 * b + part) (omega arith) (omega arith)
  | inr many ↦ ap (λ z. if z then test (entry_in_block geometry image (stored geometry image d (form_at geometry image d) b) part) else true) (le-ltb part 32 many)
]

-- all slots of a block outside the data zone pass a test that an empty slot passes
pub out_passes : (test : Option (List ℕ × ℕ) → Bool) (geometry : Geometry) (image : List ℕ) (m part : ℕ) → in_zone geometry m ≡ false → test None ≡ true
    → passes_in test geometry image m part ≡ true
out_passes test geometry image m part out none = elim (nat_lt part 32) as (λ z. (if z then test (entry_in_block geometry image m part) else true) ≡ true) [
  | true ↦ ap (λ z. test (if z then entry_in (slot_at image (512 * m + 16 * part)) else None)) out ∙ none
  | false ↦ refl
]

-- a slot without an entry passes a test that an empty slot passes
pub empty_passes : (test : Option (List ℕ × ℕ) → Bool) (entry : Option (List ℕ × ℕ)) → test None ≡ true → is_some entry ≡ false → test entry ≡ true
empty_passes test None none empty = none
empty_passes test (Some entry) none empty = absurd (true≢false empty)

-- a slot without an entry is empty
is_empty : (entry : Option (List ℕ × ℕ)) → is_none entry ≡ true → entry ≡ None
is_empty None empty = refl
is_empty (Some entry) empty = absurd (true≢false (sym empty))

-- an entry is the next entry if all slots before it are empty
pub goes_on : (geometry : Geometry) (image : List ℕ) (d from : ℕ) (result : Option (ℕ × Slot))
    → IfSome result (λ found. IsEntryFrom geometry image d from found.0 found.1)
    → MatchOption result (PassSlots (λ entry. is_none entry) geometry image d from (slot_count geometry image d))
    (λ found. PassSlots (λ entry. is_none entry) geometry image d from found.0)
    → GoesOn (entry_at geometry image d) from (slot_count geometry image d) result
goes_on geometry image d from None found passed = λ t low high. is_empty (entry_at geometry image d t) (passed t low high high)
goes_on geometry image d from (Some (s, slot)) found passed = record {
  reached = found.reached;
  within = found.within;
  some = found.some;
  holds = found.holds;
  none = λ t low high. is_empty (entry_at geometry image d t) (passed t low high (let within = found.within in omega arith));
}
