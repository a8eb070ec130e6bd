-- Writing a block of a new volume to a buffer.
use Rattle.std.specs.Prelude.{slice_range}
use Rattle.std.proofs.Common.{◌≡◌, ◌≢◌, ℕ, ◌+◌, ◌-◌, ◌*◌, ◌/◌, ◌%◌, ◌<◌, ◌≤◌, ◌&&◌, List, length, sym, ap, subst, ◌∙◌, arith, inl, inr, get_or, true, false, nat_lt}
use Rattle.std.proofs.lemmas.Bool.{cases_lt}
use Rattle.std.proofs.lemmas.Bool.Decides.{nat_tests}
use Rattle.pdp_words.specs.Words.{block_of}
use Rattle.vol_layout.specs.Edition.{constants}
use Rattle.vol_layout.specs.declared.edition.Edition.{Edition}
use Rattle.vol_layout.specs.declared.edition.Edition.TheVariants.{V6, V7}
use Rattle.vol_layout.specs.declared.geometry.Geometry.{Geometry}
use Rattle.vol_layout.proofs.BodyLaws.{get_or-slice_range}
use Rattle.vol_mkfs.proofs.BlankVolumes.{block_early, block_root, block_chain, block_rest, chain_zone}
use Rattle.vol_mkfs.specs.Blank.{HasHead, block_byte, volume_byte}
use Rattle.vol_mkfs.specs.Mkfs.{is_chain}

-- at least as many blocks as an array has entries remain after a chain block b, and twice as many if a further chain block follows
room_by : (edition : Edition) (b end : ℕ) → b < end → (end - b) % (constants edition).free_slots ≡ 0
    → (b + (constants edition).free_slots ≤ end)
    × (b + (constants edition).free_slots < end → b + (constants edition).free_slots + (constants edition).free_slots ≤ end)
room_by V6 b end h e = (omega arith, λ more. omega arith)
room_by V7 b end h e = (omega arith, λ more. omega arith)

-- the same law for the chain blocks of a geometry
pub chain_room : (geometry : Geometry) (b : ℕ) → is_chain geometry b ≡ true
    → (b + (constants geometry.edition).free_slots ≤ geometry.zone_end)
    × (b + (constants geometry.edition).free_slots < geometry.zone_end
    → b + (constants geometry.edition).free_slots + (constants geometry.edition).free_slots ≤ geometry.zone_end)
unfolding is_chain
chain_room geometry b chain =
    let low : b < geometry.zone_end = grind (arith, nat_tests) in
    let left : (geometry.zone_end - b) % (constants geometry.edition).free_slots ≡ 0 = grind (arith, nat_tests) in
    room_by geometry.edition b geometry.zone_end low left

-- a block of an image that was written to a buffer has the same bytes there
put_of : (first piece new : List ℕ) (at n r : ℕ) → r < 512 → piece ≡ block_of first n → length piece ≡ 512
    → slice_range new at (at + length piece) ≡ piece → get_or new (at + r) 0 ≡ get_or first (512 * n + r) 0
put_of first piece new at n r h is len put =
    let whole : slice_range new at (at + 512) ≡ piece = ap (λ m. slice_range new at (at + m)) (sym len) ∙ put in
    sym (get_or-slice_range new at 512 r h)
    ∙ (ap (λ xs. get_or xs r 0) (whole ∙ is) ∙ get_or-slice_range first (512 * n) 512 r h)

-- blocks 0, 1 and 2 are written as `block_byte` defines
pub early_put : (geometry : Geometry) (first piece new : List ℕ) (at b : ℕ) → b < 3 → piece ≡ block_of first b → length piece ≡ 512
    → slice_range new at (at + length piece) ≡ piece
    → (r : ℕ) → r < 512 → get_or new (at + r) 0 ≡ block_byte geometry first b r
early_put geometry first piece new at b low is len put r h =
    put_of first piece new at b r h is len put ∙ sym (block_early geometry first b r low)

-- the root's block is written as `block_byte` defines
pub root_put : (geometry : Geometry) (first piece new : List ℕ) (at b : ℕ) → 3 ≤ geometry.zone_start → b ≡ geometry.zone_start
    → piece ≡ block_of first 3 → length piece ≡ 512 → slice_range new at (at + length piece) ≡ piece
    → (r : ℕ) → r < 512 → get_or new (at + r) 0 ≡ block_byte geometry first b r
root_put geometry first piece new at b start same is len put r h =
    put_of first piece new at 3 r h is len put
    ∙ (sym (block_root geometry first r start) ∙ ap (λ n. block_byte geometry first n r) (sym same))

-- a chain block is written as `block_byte` defines
pub chain_put : (geometry : Geometry) (first new : List ℕ) (at b top count : ℕ) → 3 ≤ geometry.zone_start → is_chain geometry b ≡ true
    → top ≡ b + (constants geometry.edition).free_slots → count ≡ (constants geometry.edition).free_slots
    → HasHead geometry new at top count → ((r : ℕ) → 202 ≤ r → r < 512 → get_or new (at + r) 0 ≡ 0)
    → (r : ℕ) → r < 512 → get_or new (at + r) 0 ≡ block_byte geometry first b r
chain_put geometry first new at b top count start chain is_top is_count head zeros r h =
    let slots = (constants geometry.edition).free_slots in
    let zone = chain_zone geometry b chain in
    let after : geometry.zone_start < b = zone.0 in
    elim (cases_lt r 202) [
      | inl low ↦
          let one : HasHead geometry new at (b + slots) count = subst (λ n. HasHead geometry new at n count) is_top head in
          let stands : HasHead geometry new at (b + slots) slots = subst (HasHead geometry new at (b + slots)) is_count one in
          stands.bytes r low ∙ sym (block_chain geometry first b r start chain low)
      | inr high ↦
          let past : nat_lt r 202 ≡ false = grind (arith, nat_tests) in
          let none : (is_chain geometry b && nat_lt r 202) ≡ false = rw (chain, past) in
          let differ : b ≢ geometry.zone_start = λ e. omega arith in
          zeros r high h ∙ sym (block_rest geometry first b r (omega arith) differ none)
    ]

-- any other block is written as `block_byte` defines
pub zero_put : (geometry : Geometry) (first new : List ℕ) (at b : ℕ) → 3 ≤ b → b ≢ geometry.zone_start → is_chain geometry b ≡ false
    → ((k : ℕ) → at ≤ k → k < at + 512 → get_or new k 0 ≡ 0)
    → (r : ℕ) → r < 512 → get_or new (at + r) 0 ≡ block_byte geometry first b r
zero_put geometry first new at b high differ none zeros r h =
    zeros (at + r) (omega arith) (omega arith) ∙ sym (block_rest geometry first b r high differ (rw none))

-- after the blocks before b and then block b are gathered, the blocks up to b are
pub gathered_more : (geometry : Geometry) (first old new : List ℕ) (from b : ℕ) → from ≤ b
    → ((k : ℕ) → k < 512 * (b - from) → get_or old k 0 ≡ volume_byte geometry first (512 * from + k))
    → ((k : ℕ) → k < (b - from) * 512 → get_or new k 0 ≡ get_or old k 0)
    → ((r : ℕ) → r < 512 → get_or new ((b - from) * 512 + r) 0 ≡ block_byte geometry first b r)
    → (k : ℕ) → k < 512 * (b + 1 - from) → get_or new k 0 ≡ volume_byte geometry first (512 * from + k)
unfolding volume_byte
gathered_more geometry first old new from b order before below put k h =
    elim (cases_lt k ((b - from) * 512)) [
      | inl low ↦ below k low ∙ before k (omega arith)
      | inr high ↦
          let r = k - (b - from) * 512 in
          let place : k ≡ (b - from) * 512 + r = omega arith in
          let block : (512 * from + k) / 512 ≡ b = omega arith in
          let offset : (512 * from + k) % 512 ≡ r = omega arith in
          ap (λ n. get_or new n 0) place ∙ (put r (omega arith) ∙ sym (rw (block, offset)))
    ]
