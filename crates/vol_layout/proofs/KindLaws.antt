-- Laws of the kinds of i-nodes.
use Rattle.std.proofs.Common.{◌≡◌, ◌≢◌, ℕ, ◌+◌, ◌*◌, ◌/◌, ◌%◌, ◌<◌, ◌≤◌, ◌∙◌, ap, refl, eqb, ltb, true, false, inl, inr, if◌then◌else◌, List, [], ◌∷◌, arith}
use Rattle.std.proofs.lemmas.Bool.{cases_lt, ne_eqb, lt-ltb, le-ltb}
use Rattle.vol_layout.specs.Inode.{kind_of}
use Rattle.vol_layout.specs.BlockMaps.{has_places, form_of, file_form, IsPlace}
use Rattle.vol_layout.specs.declared.edition.Edition.{Edition}
use Rattle.vol_layout.specs.declared.edition.Edition.TheVariants.{V6, V7}
use Rattle.vol_layout.specs.declared.mode.Kind.TheVariants as kinds
use Rattle.vol_layout.specs.declared.block_map.BlockMap.TheVariants.{Bare}

-- an i-node with mode 0 is free
pub kind_zero : (edition : Edition) → kind_of edition 0 ≡ kinds.Free
unfolding kind_of
kind_zero V6 = refl
kind_zero V7 = refl

-- the i-node of a regular file or directory is allocated
pub file_used : (edition : Edition) (mode : ℕ) → has_places (kind_of edition mode) ≡ true → mode ≢ 0
file_used edition mode file zero =
    let none : has_places (kind_of edition mode) ≡ false = ap has_places (ap (kind_of edition) zero ∙ kind_zero edition) in
    absurd (cc)

-- a mode of the sixth edition without the allocated bit is odd, unless it is 0
pub kind_low : (mode : ℕ) → mode ≢ 0 → mode < 32768 → kind_of V6 mode ≡ kinds.Odd
unfolding kind_of
kind_low mode some low =
    let t : eqb mode 0 ≡ false = ne_eqb mode 0 some in
    let u : ltb mode 32768 ≡ true = lt-ltb mode 32768 low in
    rw (t, u)

-- the mode of a regular file or directory of the sixth edition has the allocated bit
pub file_allocated : (mode : ℕ) → has_places (kind_of V6 mode) ≡ true → 32768 ≤ mode
file_allocated mode file =
    elim (cases_lt mode 32768) [
      | inl low ↦ let none : has_places (kind_of V6 mode) ≡ false = ap has_places (kind_low mode (file_used V6 mode file) low) in absurd (cc)
      | inr high ↦ high
    ]

-- the block map of a regular file or directory is `file_form`
pub form_file : (edition : Edition) (mode : ℕ) → has_places (kind_of edition mode) ≡ true → form_of edition mode ≡ file_form edition mode
form_file edition mode file = rw file

-- a bare block map has no positions
pub bare_none : (p : List ℕ) → IsPlace Bare p → ⊥
bare_none [] place = place
bare_none (k ∷ []) place = omega arith
bare_none (j ∷ (a ∷ p)) place = bare_none (a ∷ p) place.2

-- an i-node whose block map has a position is a regular file or directory
pub place_file : (edition : Edition) (mode : ℕ) (p : List ℕ) → IsPlace (form_of edition mode) p → has_places (kind_of edition mode) ≡ true
place_file edition mode p place =
    elim (has_places (kind_of edition mode)) as (λ t. IsPlace (if t then file_form edition mode else Bare) p → t ≡ true)
    [ true ↦ λ h. refl | false ↦ λ h. absurd (bare_none p h) ] place

-- changing the permission bits does not change the kind of an allocated i-node
pub kind_permitted : (edition : Edition) (mode bits : ℕ) → kind_of edition mode ≢ kinds.Free → kind_of edition mode ≢ kinds.Odd
    → kind_of edition (mode / 4096 * 4096 + bits % 4096) ≡ kind_of edition mode
unfolding kind_of
kind_permitted V6 mode bits some known =
    let used : mode ≢ 0 = λ zero. some (ap (kind_of V6) zero ∙ kind_zero V6) in
    elim (cases_lt mode 32768) [
      | inl low ↦ absurd (known (kind_low mode used low))
      | inr high ↦
          let next = mode / 4096 * 4096 + bits % 4096 in
          let a : eqb mode 0 ≡ false = ne_eqb mode 0 used in
          let b : ltb mode 32768 ≡ false = le-ltb mode 32768 high in
          let c : eqb next 0 ≡ false = ne_eqb next 0 (λ zero. omega (arith, zero, high)) in
          let d : ltb next 32768 ≡ false = le-ltb next 32768 (omega (arith, high)) in
          let e : next / 8192 % 4 ≡ mode / 8192 % 4 = omega arith in
          rw (a, b, c, d, e) refl
    ]
kind_permitted V7 mode bits some known =
    let used : mode ≢ 0 = λ zero. some (ap (kind_of V7) zero ∙ kind_zero V7) in
    let next = mode / 4096 * 4096 + bits % 4096 in
    let a : eqb mode 0 ≡ false = ne_eqb mode 0 used in
    elim (cases_lt mode 4096) [
      | inl low ↦
          let zero : mode / 4096 ≡ 0 = omega (arith, low) in
          absurd (known (rw (a, zero) refl))
      | inr high ↦
          let c : eqb next 0 ≡ false = ne_eqb next 0 (λ zero. omega (arith, zero, high)) in
          let e : next / 4096 ≡ mode / 4096 = omega arith in
          rw (a, c, e) refl
    ]
