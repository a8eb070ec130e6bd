-- The type bits of a special file, raised.
use Rattle.std.proofs.Common.{◌≡◌, ◌∙◌, sym, ap, eqb, ltb, false, if◌then◌else◌, ℕ, ◌+◌, ◌*◌, ◌/◌, ◌%◌, ◌≤◌, inl, inr, arith}
use Rattle.std.proofs.lemmas.Bool.{cases_lt, ne_eqb, le-ltb}
use Rattle.vol_layout.specs.Inode.{kind_of, kind_of_type_v6, raised_mode}
use Rattle.vol_layout.specs.declared.edition.Edition.TheVariants.{V6}
use Rattle.vol_layout.specs.declared.mode.Kind.TheVariants as kinds
use Rattle.vol_migrate.specs.Raised.{raised_type}

-- the type bits of a special file's mode depend on its bits 060000
type_from : (mode type : ℕ) → mode / 8192 % 4 ≡ type → kind_of_type_v6 type ≡ kinds.Special → raised_mode mode / 4096 ≡ raised_type (mode / 4096)
type_from mode type at is =
    let bits : raised_mode mode ≡ (if eqb type 0 then 32768 else type * 8192) + mode % 4096 =
    ap (λ t. (if eqb t 0 then 32768 else t * 8192) + mode % 4096) at in
    let block : raised_type (mode / 4096) ≡ (if eqb type 3 then 6 else 2) =
    ap (λ t. if eqb t 3 then 6 else 2) (let e : mode / 4096 / 2 % 4 ≡ type = omega (arith, at) in e) in
    let first : raised_mode mode / 4096 ≡ (if eqb type 3 then 6 else 2) = elim (cases_lt type 1) [
      | inl low ↦
          let none : type ≡ 0 = omega (arith, low) in
          let both : kinds.Regular ≡ kinds.Special = sym (ap kind_of_type_v6 none) ∙ is in
          absurd (cc)
      | inr some ↦
          elim (cases_lt type 2) [
            | inl low ↦
                let one : type ≡ 1 = omega (arith, low, some) in
                let value = bits ∙ ap (λ t. (if eqb t 0 then 32768 else t * 8192) + mode % 4096) one in
                (let e : raised_mode mode / 4096 ≡ 2 = omega (arith, value) in e) ∙ sym (ap (λ t. if eqb t 3 then 6 else 2) one)
            | inr more ↦
                elim (cases_lt type 3) [
                  | inl low ↦
                      let two : type ≡ 2 = omega (arith, low, more) in
                      let both : kinds.Directory ≡ kinds.Special = sym (ap kind_of_type_v6 two) ∙ is in
                      absurd (cc)
                  | inr most ↦
                      let three : type ≡ 3 = omega (arith, most, at) in
                      let value = bits ∙ ap (λ t. (if eqb t 0 then 32768 else t * 8192) + mode % 4096) three in
                      (let e : raised_mode mode / 4096 ≡ 6 = omega (arith, value) in e) ∙ sym (ap (λ t. if eqb t 3 then 6 else 2) three)
                ]
          ]
    ] in
    first ∙ sym block

-- the type bits of a special file's mode are raised with the mode
pub type_raised : (mode : ℕ) → 32768 ≤ mode → kind_of V6 mode ≡ kinds.Special → raised_mode mode / 4096 ≡ raised_type (mode / 4096)
unfolding kind_of
type_raised mode high special =
    let some : eqb mode 0 ≡ false = ne_eqb mode 0 (λ zero. omega (arith, zero, high)) in
    let known : ltb mode 32768 ≡ false = le-ltb mode 32768 high in
    type_from mode (mode / 8192 % 4) (let e : mode / 8192 % 4 ≡ mode / 8192 % 4 = omega arith in e) (rw (some, known) at special)
