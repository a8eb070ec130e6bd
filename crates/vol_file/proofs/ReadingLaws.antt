-- Lemmas on reading the bytes of a file piece by piece.
use Rattle.std.proofs.Common.{◌≡◌, ℕ, ◌+◌, ◌-◌, ◌*◌, ◌/◌, ◌%◌, ◌<◌, ◌≤◌, List, length, get_or, ap, sym, ◌∙◌, arith, inl, inr}
use Rattle.std.proofs.lemmas.Bool.{cases_lt}
use Rattle.std.proofs.lemmas.Grind.{common_steps, same_number_lists}
use borrow.Rule.Slice.PartMut.{put_mid}
use Rattle.vol_layout.specs.BlockPointers.{form_at, stored}
use Rattle.vol_layout.specs.Body.{zone_byte, body_byte, body_size, body}
use Rattle.vol_layout.proofs.BodyLaws.{body_byte_at, length-body, get_or-body, length-slice_range, get_or-slice_range}
use Rattle.std.specs.Prelude.{slice_range}
use Rattle.vol_layout.specs.declared.geometry.Geometry.{Geometry}

-- byte `at + n` of the body is in the same data block as byte `at` if it is in the same logical block
pub zone_byte-body : (geometry : Geometry) (image : List ℕ) (i at n : ℕ) → at % 512 + n < 512
    → zone_byte geometry image (stored geometry image i (form_at geometry image i) (at / 512)) (at % 512 + n)
    ≡ body_byte geometry image i (at + n)
zone_byte-body geometry image i at n h =
    let place : 512 * (at / 512) + (at % 512 + n) ≡ at + n = omega arith in
    sym (body_byte_at geometry image i (at / 512) (at % 512 + n) h) ∙ ap (body_byte geometry image i) place

-- if the first `a` items agree with `f`, and a part written after them continues with `f`, the first `a + k` items agree with `f`
pub written_on : (f : ℕ → ℕ) (xs ys : List ℕ) (a k m : ℕ) → m ≡ k → length ys ≡ k → a + k ≤ length xs
    → ((n : ℕ) → n < a → get_or xs n 0 ≡ f n) → ((n : ℕ) → n < k → get_or ys n 0 ≡ f (a + n))
    → (n : ℕ) → n < a + k → get_or (put_mid a m xs ys) n 0 ≡ f n
written_on f xs ys a k m e len room before part n h = elim (cases_lt n a) [
  | inl low ↦ grind (arith, common_steps, before n low)
  | inr high ↦ let at : get_or ys (n - a) 0 ≡ f (a + (n - a)) = part (n - a) (omega arith) in grind (arith, common_steps, at)
]

-- a list of `count` bytes that agrees with the bytes of the body at `offset` is that slice of the body
pub body_part : (geometry : Geometry) (image : List ℕ) (i offset count : ℕ) (xs : List ℕ) → length xs ≡ count
    → offset + count ≤ body_size geometry image i
    → ((n : ℕ) → n < count → get_or xs n 0 ≡ body_byte geometry image i (offset + n))
    → xs ≡ slice_range (body geometry image i) offset (offset + count)
body_part geometry image i offset count xs len room bytes =
    let whole : length (body geometry image i) ≡ body_size geometry image i = length-body geometry image i in
    let fit : offset + count ≤ length (body geometry image i) = omega arith in
    let part : length (slice_range (body geometry image i) offset (offset + count)) ≡ count =
    length-slice_range (body geometry image i) offset count fit in
    same_number_lists xs (slice_range (body geometry image i) offset (offset + count)) (len ∙ sym part)
    (λ n h. let low : n < count = omega arith in let inside : offset + n < body_size geometry image i = omega arith in
    bytes n low ∙ sym (get_or-slice_range (body geometry image i) offset count n low ∙ get_or-body geometry image i (offset + n) inside))
