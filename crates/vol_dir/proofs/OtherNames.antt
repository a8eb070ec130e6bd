-- Slots with another name than the one that is searched for.
use Rattle.std.proofs.Common.{◌≡◌, ◌≢◌, ◌∙◌, sym, ap, ℕ, ◌+◌, ◌==◌, ◌<◌, false, List, length, take, get_or, inl, inr, arith}
use Rattle.std.specs.Prelude.{slice_range}
use Rattle.std.specs.List.{position_or_len}
use Rattle.std.specs.Str.{bytes_eq}
use Rattle.std.proofs.lemmas.Bool.{cases_Bool}
use Rattle.std.proofs.lemmas.List.{get_or-take, length-take}
use Rattle.vol_layout.specs.Slot.{slot_at, name_of}
use Rattle.vol_layout.proofs.BodyLaws.{get_or-slice_range}
use Rattle.vol_file.proofs.PlaceLists.{same_bytes}

-- a byte of a name is the byte of the list that the name begins
name_byte : (xs name : List ℕ) (k : ℕ) → name ≡ name_of xs → k < length name → get_or name k 0 ≡ get_or xs k 0
name_byte xs name k is low =
    let p = position_or_len (λ c. c == 0) xs in
    let long : length name ≡ length (take p xs) = ap length is in
    let most = length-take p xs in
    ap (λ ys. get_or ys k 0) is ∙ get_or-take p xs k 0 (omega (arith, long, most, low))

-- if a byte of a slot isn't the one at its place in a name, the slot has another name
pub other_name : (bytes name : List ℕ) (at k : ℕ) → k < length name → k < 14 → get_or bytes (at + 2 + k) 0 ≢ get_or name k 0
    → bytes_eq name (name_of (slot_at bytes at).name) ≡ false
other_name bytes name at k low few apart =
    elim (cases_Bool (bytes_eq name (name_of (slot_at bytes at).name))) [
      | inr other ↦ other
      | inl same ↦
          let end : at + 2 + 14 ≡ at + 16 = omega arith in
          let here : get_or name k 0 ≡ get_or (slot_at bytes at).name k 0 =
          name_byte (slot_at bytes at).name name k (same_bytes name (name_of (slot_at bytes at).name) same) low in
          let byte : get_or (slot_at bytes at).name k 0 ≡ get_or bytes (at + 2 + k) 0 =
          ap (λ e. get_or (slice_range bytes (at + 2) e) k 0) (sym end) ∙ get_or-slice_range bytes (at + 2) 14 k few in
          absurd (apart (sym (here ∙ byte)))
    ]
