-- Laws of the slots of a directory.
use Rattle.std.specs.Prelude.{slice_range}
use Rattle.std.proofs.Common.{◌≡◌, ℕ, ◌+◌, ◌≤◌, ◌<◌, ◌∙◌, sym, ap, List, length, get_or, arith}
use Rattle.std.proofs.lemmas.Grind.{same_number_lists}
use Rattle.pdp_words.specs.Words.{word}
use Rattle.vol_layout.specs.Slot.{slot_at}
use Rattle.vol_layout.proofs.BodyLaws.{length-slice_range, get_or-slice_range}
use Rattle.vol_layout.proofs.CopyLaws.{IsCopy, byte_copied, word_copied}

-- a part of copied bytes equals the same part of the original bytes
pub part_copied : (old new : List ℕ) (from to size skip n : ℕ) → IsCopy old new from to size → skip + n ≤ size
    → from + size ≤ length old → to + size ≤ length new
    → slice_range new (to + skip) (to + skip + n) ≡ slice_range old (from + skip) (from + skip + n)
part_copied old new from to size skip n copy h room_old room_new =
    let left : length (slice_range new (to + skip) (to + skip + n)) ≡ n = length-slice_range new (to + skip) n (omega arith) in
    let right : length (slice_range old (from + skip) (from + skip + n)) ≡ n = length-slice_range old (from + skip) n (omega arith) in
    same_number_lists (slice_range new (to + skip) (to + skip + n)) (slice_range old (from + skip) (from + skip + n)) (left ∙ sym right)
    (λ r low.
    let below : r < n = omega arith in
    get_or-slice_range new (to + skip) n r below
    ∙ (byte_copied old new from to size (skip + r) (from + skip + r) (to + skip + r) copy (omega arith) (omega arith) (omega arith)
    ∙ sym (get_or-slice_range old (from + skip) n r below)))

-- a slot in copied bytes is the same at both positions
pub slot_copied : (old new : List ℕ) (from to : ℕ) → IsCopy old new from to 16 → from + 16 ≤ length old → to + 16 ≤ length new
    → slot_at new to ≡ slot_at old from
slot_copied old new from to copy room_old room_new =
    let number : word new to ≡ word old from = word_copied old new from to 16 0 from to copy (omega arith) (omega arith) (omega arith) in
    let stop : to + 16 ≡ to + 2 + 14 = omega arith in
    let end : from + 16 ≡ from + 2 + 14 = omega arith in
    let name : slice_range new (to + 2) (to + 16) ≡ slice_range old (from + 2) (from + 16) =
    ap (slice_range new (to + 2)) stop ∙ (part_copied old new from to 16 2 14 copy (omega arith) room_old room_new ∙ sym (ap (slice_range old (from + 2)) end)) in
    rw (number, name)

-- the slot at byte `at` of an image is the slot whose 16 bytes are stored there
pub slot_stored : (image bytes : List ℕ) (at : ℕ) → length bytes ≡ 16 → at + 16 ≤ length image → slice_range image at (at + length bytes) ≡ bytes
    → slot_at image at ≡ slot_at bytes 0
slot_stored image bytes at len room is =
    slot_copied bytes image 0 at (record {
      bytes = λ r h.
          let place : r ≡ 0 + r = omega arith in
          sym (get_or-slice_range image at (length bytes) r (omega (arith, h, len))) ∙ (ap (λ xs. get_or xs r 0) is ∙ ap (λ n. get_or bytes n 0) place);
    }) (omega (arith, len)) room
