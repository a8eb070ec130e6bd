-- The slots of a directory, raised byte by byte.
use Rattle.std.proofs.Common.{◌≡◌, ◌≢◌, ◌∙◌, ◌==◌, true≢false, sym, ap, refl, ℕ, suc, ◌+◌, ◌-◌, ◌*◌, ◌/◌, ◌%◌, ◌<◌, ◌≤◌, cond, List, length, get_or, slice_range, replicate, length-append, Option, None, Some, inl, inr, arith}
use Rattle.std.specs.List.{position_or_len}
use Rattle.std.proofs.lemmas.Bool.{cases_eq, cases_lt, eq-eqb, ne_eqb}
use Rattle.std.proofs.lemmas.Grind.{common_steps}
use Rattle.std.proofs.lemmas.List.{ext_get_or, get_or-take, length-replicate, length-take}
use Rattle.std.proofs.lemmas.List.Sums.{fails_before_first}
use Rattle.pdp_words.specs.Words.{word, SameOutside}
use Rattle.vol_layout.specs.Slot.{slot_at, name_of, padded_name}
use Rattle.vol_layout.specs.declared.slot.Slot.{Slot}
use Rattle.vol_layout.proofs.BodyLaws.{get_or-slice_range, length-slice_range}
use Rattle.vol_dir.specs.Entries.{entry_in}
use Rattle.vol_dir.proofs.NewEntries.{name_padded}
use Rattle.vol_migrate.specs.Raised.{raised_slot}
use Rattle.vol_migrate.specs.Stages.{raised_byte, bytes_of_slot}
use Rattle.vol_migrate.proofs.RaisedGraphs.{raised_entry}

-- byte `r` of slot `s` after raising is byte `r` of the raised slot
pub byte_of_slot : (bytes : List ℕ) (s r x : ℕ) → r < 16 → 16 * s + r ≡ x → raised_byte bytes x ≡ get_or (bytes_of_slot (raised_slot (slot_at bytes (16 * s)))) r 0
unfolding raised_byte
byte_of_slot bytes s r x low at =
    let slot : x / 16 ≡ s = omega (arith, low, at) in
    let rest : x % 16 ≡ r = omega (arith, low, at) in
    ap (λ n. get_or (bytes_of_slot (raised_slot (slot_at bytes (16 * n)))) (x % 16) 0) slot
    ∙ ap (λ k. get_or (bytes_of_slot (raised_slot (slot_at bytes (16 * s)))) k 0) rest

-- writing one more raised slot raises its bytes
pub slot_put : (text old new bytes : List ℕ) (s : ℕ) → bytes ≡ bytes_of_slot (raised_slot (slot_at text (16 * s))) → length bytes ≡ 16
    → slice_range new (16 * s) (16 * s + length bytes) ≡ bytes → SameOutside old new (16 * s) (16 * s + length bytes)
    → ((x : ℕ) → x < 16 * s → get_or old x 0 ≡ raised_byte text x) → (x : ℕ) → x < 16 * (s + 1) → get_or new x 0 ≡ raised_byte text x
slot_put text old new bytes s is size put others before x low =
    elim (cases_lt x (16 * s)) [
      | inl below ↦ others.below x below ∙ before x below
      | inr above ↦
          let r = x - 16 * s in
          let few : r < 16 = omega (arith, low, above) in
          let at : 16 * s + r ≡ x = omega (arith, above) in
          ap (λ k. get_or new k 0) (sym at)
          ∙ (sym (get_or-slice_range new (16 * s) (length bytes) r (omega (arith, few, size)))
          ∙ (ap (λ xs. get_or xs r 0) (put ∙ is) ∙ sym (byte_of_slot text s r x few at)))
    ]

-- a name isn't longer than the field that it is read from
name_short : (xs : List ℕ) → length (name_of xs) ≤ length xs
name_short xs = grind (arith, common_steps)

-- an empty slot is raised to one with an empty name
pub raised_none : (slot : Slot) → slot.inode ≡ 0 → raised_slot slot ≡ record { inode = 0; name = replicate 14 0 }
raised_none slot none =
    ap (λ t. cond {A = Slot} t (record { inode = 0; name = replicate 14 0 }) (record { inode = slot.inode + 1; name = padded_name (name_of slot.name) }))
    (eq-eqb slot.inode 0 none)

-- a slot with an entry is raised to one with the next i-number and zeros after its name
raised_some : (slot : Slot) → slot.inode ≢ 0 → raised_slot slot ≡ record { inode = slot.inode + 1; name = padded_name (name_of slot.name) }
raised_some slot some =
    ap (λ t. cond {A = Slot} t (record { inode = 0; name = replicate 14 0 }) (record { inode = slot.inode + 1; name = padded_name (name_of slot.name) }))
    (ne_eqb slot.inode 0 some)

-- the name field of a raised slot has 14 bytes
raised_length : (slot : Slot) → length slot.name ≡ 14 → length (raised_slot slot).name ≡ 14
raised_length slot size =
    elim (cases_eq slot.inode 0) [
      | inl none ↦ ap (λ (s : Slot). length s.name) (raised_none slot none)
      | inr some ↦
          let short = name_short slot.name in
          ap (λ (s : Slot). length s.name) (raised_some slot some)
          ∙ (length-append (name_of slot.name) (replicate (14 - length (name_of slot.name)) 0)
          ∙ omega (arith, length-replicate {A = ℕ}, short, size))
    ]

-- the name field of a slot has 14 bytes
slot_length : (bytes : List ℕ) (at : ℕ) → at + 16 ≤ length bytes → length (slot_at bytes at).name ≡ 14
slot_length bytes at room =
    let end : at + 16 ≡ at + 2 + 14 = omega arith in
    ap (λ n. length (slice_range bytes (at + 2) n)) end ∙ length-slice_range bytes (at + 2) 14 (omega (arith, room))

-- a raised slot has 16 bytes
pub bytes_length : (bytes : List ℕ) (at : ℕ) → at + 16 ≤ length bytes → length (bytes_of_slot (raised_slot (slot_at bytes at))) ≡ 16
bytes_length bytes at room =
    let name = raised_length (slot_at bytes at) (slot_length bytes at room) in omega (arith, name)

-- if the 16 bytes of a slot are raised, the slot is raised
pub slot_raised : (bytes raised : List ℕ) (s : ℕ) → 16 * s + 16 ≤ length bytes → 16 * s + 16 ≤ length raised
    → ((x : ℕ) → 16 * s ≤ x → x < 16 * s + 16 → get_or raised x 0 ≡ raised_byte bytes x)
    → slot_at raised (16 * s) ≡ raised_slot (slot_at bytes (16 * s))
slot_raised bytes raised s room size each =
    let slot = raised_slot (slot_at bytes (16 * s)) in
    let low : get_or raised (16 * s) 0 ≡ slot.inode % 256 =
    each (16 * s) (omega arith) (omega arith) ∙ byte_of_slot bytes s 0 (16 * s) (omega arith) (omega arith) in
    let high : get_or raised (16 * s + 1) 0 ≡ slot.inode / 256 =
    each (16 * s + 1) (omega arith) (omega arith) ∙ byte_of_slot bytes s 1 (16 * s + 1) (omega arith) refl in
    let number : word raised (16 * s) ≡ slot.inode = omega (arith, low, high) in
    let end : 16 * s + 16 ≡ 16 * s + 2 + 14 = omega arith in
    let long : length slot.name ≡ 14 = raised_length (slot_at bytes (16 * s)) (slot_length bytes (16 * s) room) in
    let short : length (slice_range raised (16 * s + 2) (16 * s + 16)) ≡ 14 = slot_length raised (16 * s) size in
    let name : slice_range raised (16 * s + 2) (16 * s + 16) ≡ slot.name =
    ext_get_or 0 (slice_range raised (16 * s + 2) (16 * s + 16)) slot.name (short ∙ sym long)
    (λ r h.
    ap (λ n. get_or (slice_range raised (16 * s + 2) n) r 0) end
    ∙ (get_or-slice_range raised (16 * s + 2) 14 r (omega (arith, h, short))
    ∙ (each (16 * s + 2 + r) (omega arith) (omega (arith, h, short))
    ∙ byte_of_slot bytes s (suc (suc r)) (16 * s + 2 + r) (omega (arith, h, short)) (omega arith)))) in
    λ i. record { inode = number i; name = name i }

-- a stored name reads back as the same name
name_back : (xs : List ℕ) → name_of (padded_name (name_of xs)) ≡ name_of xs
name_back xs =
    let first = position_or_len (λ c. c == 0) xs in
    name_padded (name_of xs) (λ k low.
    let before : k < first = omega (arith, length-take first xs, low) in
    λ zero. true≢false (sym (eq-eqb (get_or xs k 0) 0 (sym (get_or-take first xs k 0 before) ∙ zero)) ∙ fails_before_first (λ c. c == 0) xs k 0 before))

-- the entry of a raised slot is the raised entry
pub entry_raised : (slot : Slot) → entry_in (raised_slot slot) ≡ raised_entry (entry_in slot)
entry_raised slot =
    elim (cases_eq slot.inode 0) [
      | inl none ↦
          ap entry_in (raised_none slot none)
          ∙ sym (ap (λ t. raised_entry (cond {A = Option (List ℕ × ℕ)} t None (Some (name_of slot.name, slot.inode)))) (eq-eqb slot.inode 0 none))
      | inr some ↦
          ap entry_in (raised_some slot some)
          ∙ (ap (λ t. cond {A = Option (List ℕ × ℕ)} t None (Some (name_of (padded_name (name_of slot.name)), slot.inode + 1)))
          (ne_eqb (slot.inode + 1) 0 (λ e. omega (arith, e)))
          ∙ (ap (λ n. Some (n, slot.inode + 1)) (name_back slot.name)
          ∙ sym (ap (λ t. raised_entry (cond {A = Option (List ℕ × ℕ)} t None (Some (name_of slot.name, slot.inode)))) (ne_eqb slot.inode 0 some))))
    ]
