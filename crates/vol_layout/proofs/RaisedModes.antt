-- Modes of allocated i-nodes converted from the sixth edition to the seventh.
use Rattle.std.proofs.Common.{◌≡◌, ◌≢◌, ◌∙◌, sym, ap, refl, eqb, ltb, false, ℕ, ◌+◌, ◌*◌, ◌/◌, ◌%◌, ◌≤◌, bit_and, ◌⊎◌, inl, inr, arith}
use Rattle.std.proofs.lemmas.Bool.{cases_lt, ne_eqb, le-ltb}
use Rattle.std.proofs.lemmas.Nat.{and_mask}
use Rattle.vol_layout.proofs.BitLaws.{type_v6}
use Rattle.vol_layout.specs.Inode.{kind_of, kind_of_type_v6, kind_of_type_v7, raised_mode}
use Rattle.vol_layout.specs.declared.edition.Edition.TheVariants.{V6, V7}

-- the kind of a seventh edition mode depends on its type bits
seventh_kind : (mode type : ℕ) → mode ≢ 0 → mode / 4096 ≡ type → kind_of V7 mode ≡ kind_of_type_v7 type
unfolding kind_of
seventh_kind mode type some is =
    let t : eqb mode 0 ≡ false = ne_eqb mode 0 some in
    rw t (ap kind_of_type_v7 is)

-- the kind of an allocated sixth edition mode depends on its type bits
sixth_kind : (mode type : ℕ) → 32768 ≤ mode → mode / 8192 % 4 ≡ type → kind_of V6 mode ≡ kind_of_type_v6 type
unfolding kind_of
sixth_kind mode type high is =
    let t : eqb mode 0 ≡ false = ne_eqb mode 0 (λ zero. omega arith) in
    let u : ltb mode 32768 ≡ false = le-ltb mode 32768 high in
    rw (t, u) (ap kind_of_type_v6 is)

-- converting a mode with type bits other than 0 keeps the type
raised_other : (mode : ℕ) → mode / 8192 % 4 ≢ 0 → raised_mode mode ≡ mode / 8192 % 4 * 8192 + mode % 4096
raised_other mode some =
    let t : eqb (mode / 8192 % 4) 0 ≡ false = ne_eqb (mode / 8192 % 4) 0 some in
    rw t refl

-- converting a mode with type bits 0 gives a regular file
raised_regular : (mode : ℕ) → mode / 8192 % 4 ≡ 0 → raised_mode mode ≡ 32768 + mode % 4096
raised_regular mode none = rw none refl

-- converting a mode keeps the kind
pub raised_kind : (mode : ℕ) → 32768 ≤ mode → kind_of V7 (raised_mode mode) ≡ kind_of V6 mode
raised_kind mode high =
    elim (cases_lt (mode / 8192 % 4) 1) [
      | inl low ↦
          let none : mode / 8192 % 4 ≡ 0 = omega arith in
          let is = raised_regular mode none in
          seventh_kind (raised_mode mode) 8 (λ zero. omega (arith, is)) (omega (arith, is)) ∙ sym (sixth_kind mode 0 high none)
      | inr some ↦
          let is = raised_other mode (λ none. omega arith) in
          elim (cases_lt (mode / 8192 % 4) 2) [
            | inl low ↦
                seventh_kind (raised_mode mode) 2 (λ zero. omega (arith, is)) (omega (arith, is)) ∙ sym (sixth_kind mode 1 high (omega arith))
            | inr more ↦
                elim (cases_lt (mode / 8192 % 4) 3) [
                  | inl low ↦
                      seventh_kind (raised_mode mode) 4 (λ zero. omega (arith, is)) (omega (arith, is))
                      ∙ sym (sixth_kind mode 2 high (omega arith))
                  | inr most ↦
                      seventh_kind (raised_mode mode) 6 (λ zero. omega (arith, is)) (omega (arith, is))
                      ∙ sym (sixth_kind mode 3 high (omega arith))
                ]
          ]
    ]

-- converting a mode keeps the permission bits
pub raised_permissions : (mode : ℕ) → raised_mode mode % 4096 ≡ mode % 4096
raised_permissions mode =
    elim (cases_lt (mode / 8192 % 4) 1) [
      | inl low ↦ let is = raised_regular mode (omega arith) in omega (arith, is)
      | inr some ↦ let is = raised_other mode (λ none. omega arith) in omega (arith, is)
    ]

-- the converted mode is the sum of its type bits and its permission bits
pub raised_bits : (mode kind : ℕ) → ((bit_and mode 24576 ≡ 0) × (kind ≡ 32768)) ⊎ ((bit_and mode 24576 ≢ 0) × (kind ≡ bit_and mode 24576))
    → kind + bit_and mode 4095 ≡ raised_mode mode
raised_bits mode kind (inl is) =
    let regular = raised_regular mode (omega (arith, type_v6 mode, is.0)) in omega (arith, regular, and_mask mode 12, is.1)
raised_bits mode kind (inr is) =
    let other = raised_other mode (λ none. is.0 (omega (arith, type_v6 mode))) in
    omega (arith, other, type_v6 mode, and_mask mode 12, is.1)
