-- A clause leaves the bits that WHO doesn't have.
use Rattle.std.proofs.Common.{◌≡◌, ◌∙◌, ◌<◌, ◌+◌, ◌%◌, ℕ, ap, arith}
use Rattle.std.specs.Prelude.{bit_and, min, max}
use Rattle.std.specs.Int.{bit_at}
use Rattle.std.specs.Int.Bits.{bit_xor}
use Rattle.std.proofs.lemmas.Nat.Bits.{bit_at-lt, bit_at-zero, bit_at_and, bit_at_ones, bit_at_or, bit_at_xor}
use Rattle.command_terms.specs.Permissions.{changed_permissions}
use Rattle.command_words.specs.Permissions.{KeepsOthers}
use Rattle.command_terms.specs.declared.permissions.PermissionChange.{PermissionChange}

-- a bit that is kept and not set stays
bit_stays : (o k s : ℕ) → o < 2 → k ≡ 1 → s ≡ 0 → max (min o k) s ≡ o
bit_stays o k s below is none = omega arith

-- a bit of two masks is 0 if that of the second is
none_of_both : (r w : ℕ) → w ≡ 0 → min r w ≡ 0
none_of_both r w none = omega arith

-- a bit of all but a mask is 1 if that of the mask is 0
one_of_others : (a m : ℕ) → a ≡ 1 → m ≡ 0 → (a + m) % 2 ≡ 1
one_of_others a m one none = omega arith

masked : (rights who i : ℕ) → bit_at who i ≡ 0 → bit_at (bit_and rights who) i ≡ 0
masked rights who i none = bit_at_and rights who i ∙ none_of_both (bit_at rights i) (bit_at who i) none

others : (mask i : ℕ) → i < 12 → bit_at mask i ≡ 0 → bit_at (bit_xor 0o7777 mask) i ≡ 1
others mask i low none = bit_at_xor 0o7777 mask i ∙ one_of_others (bit_at 0o7777 i) (bit_at mask i) (bit_at_ones 12 i low) none

-- a change leaves the bits that it keeps and doesn't set
stays : (change : PermissionChange) (old i : ℕ) → bit_at change.kept i ≡ 1 → bit_at change.set i ≡ 0 → bit_at (changed_permissions change old) i ≡ bit_at old i
unfolding changed_permissions
stays change old i kept unset =
    bit_at_or (bit_and old change.kept) change.set i
    ∙ ap (λ b. max b (bit_at change.set i)) (bit_at_and old change.kept i)
    ∙ bit_stays (bit_at old i) (bit_at change.kept i) (bit_at change.set i) (bit_at-lt old i) kept unset

-- setting bits of WHO leaves the others
pub setting_keeps : (rights who : ℕ) → KeepsOthers who (record { kept = 0o7777; set = bit_and rights who })
setting_keeps rights who old i low none = stays _ old i (bit_at_ones 12 i low) (masked rights who i none)

-- clearing bits of WHO leaves the others
pub clearing_keeps : (rights who : ℕ) → KeepsOthers who (record { kept = bit_xor 0o7777 (bit_and rights who); set = 0 })
clearing_keeps rights who old i low none = stays _ old i (others (bit_and rights who) i low (masked rights who i none)) (bit_at-zero i)

-- setting bits of WHO and clearing its others leaves the bits that WHO doesn't have
pub replacing_keeps : (rights who : ℕ) → KeepsOthers who (record { kept = bit_xor 0o7777 who; set = bit_and rights who })
replacing_keeps rights who old i low none = stays _ old i (others who i low none) (masked rights who i none)
