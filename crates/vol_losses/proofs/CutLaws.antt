-- Lemmas on images that were cut off.
use Rattle.std.proofs.Common.{◌≡◌, ℕ, ◌+◌, ◌-◌, ◌*◌, ◌/◌, ◌<◌, ◌≤◌, ◌∙◌, sym, ap, Bool, true, false, not, nat_le, List, [], ◌++◌, length, replicate, get_or, refl, arith, inl, inr, nat_lt, cond, subst, take, drop, append_assoc}
use Rattle.std.proofs.lemmas.Bool.{cases_lt, lt-leb, le-leb, le-ltb, leb-true, true≢false}
use Rattle.std.proofs.lemmas.List.{append-nil, get_or_append_left, take-append-drop}
use Rattle.vol_layout.specs.Geometry.{Fits, block_count}
use Rattle.vol_layout.specs.declared.geometry.Geometry.{Geometry}
use Rattle.vol_losses.specs.Losses.{is_lost, AgreesOutside}
use Rattle.vol_losses.specs.CutImages.{IsCompleted, IsCompletedIf, IsFilled, has_size}
use Rattle.vol_losses.proofs.LostPaths.{no_marks}

-- a block that isn't lost is whole in the bytes that are left
left_whole : (found : Bool) → not found ≡ false → found ≡ true
left_whole true e = refl
left_whole false e = absurd (true≢false e)

-- an image of which some first bytes are left agrees with them and zeros outside the lost blocks
pub cut_agrees : (geometry : Geometry) (lost : List Bool) (bytes rest image : List ℕ) → IsFilled bytes geometry.zone_end image lost
    → AgreesOutside geometry lost image (bytes ++ rest)
cut_agrees geometry lost bytes rest image filled = record {
  bytes = λ k r inside low sure.
      let whole : 512 * k + 512 ≤ length bytes = leb-true _ _ (left_whole _ (sym (filled.marks k inside) ∙ sure)) in
      let at : 512 * k + r < length bytes = omega arith in
      get_or_append_left bytes rest 0 (512 * k + r) at
      ∙ sym (ap (λ xs. get_or xs (512 * k + r) 0) filled.zeros ∙ get_or_append_left bytes (replicate (512 * geometry.zone_end - length bytes) 0) 0 (512 * k + r) at);
}

-- bytes that have all blocks are filled as they are
pub filled_whole : (bytes : List ℕ) (blocks : ℕ) → blocks ≤ length bytes / 512 → IsFilled bytes blocks bytes []
filled_whole bytes blocks all =
    let none : 512 * blocks - length bytes ≡ 0 = omega arith in
    record {
      zeros = sym (ap (λ n. bytes ++ replicate n 0) none ∙ append-nil bytes);
      marks = λ k inside. let whole : 512 * k + 512 ≤ length bytes = omega arith in
          no_marks [] refl k ∙ sym (ap not (le-leb (512 * k + 512) (length bytes) whole));
      count = sym (ap (λ (b : Bool). cond b blocks 0) (le-ltb (length bytes / 512) blocks all));
    }

-- the marks of blocks of which some first ones are whole
pub marks_from : (bytes : List ℕ) (lost : List Bool) (k : ℕ) → (k < length bytes / 512 → is_lost lost k ≡ false) → (length bytes / 512 ≤ k → is_lost lost k ≡ true)
    → is_lost lost k ≡ not (nat_le (512 * k + 512) (length bytes))
marks_from bytes lost k below above = elim (cases_lt k (length bytes / 512)) [
  | inl low ↦
      let whole : 512 * k + 512 ≤ length bytes = omega arith in
      below low ∙ sym (ap not (le-leb (512 * k + 512) (length bytes) whole))
  | inr high ↦
      let short : length bytes < 512 * k + 512 = omega arith in
      above high ∙ sym (ap not (lt-leb (512 * k + 512) (length bytes) short))
]

-- the bytes after a part of the bytes
rest_of : (n : ℕ) (bytes rest : List ℕ) → take n bytes ++ (drop n bytes ++ rest) ≡ bytes ++ rest
rest_of n bytes rest = sym (append_assoc (take n bytes) (drop n bytes) rest) ∙ ap (λ xs. xs ++ rest) (take-append-drop n bytes)

-- an image that was completed agrees with every image that begins with its bytes, outside the lost blocks
pub completed_agrees : (geometry : Geometry) (lost : List Bool) (bytes rest image : List ℕ) → Fits geometry image
    → geometry.zone_end ≡ block_count geometry.edition bytes → IsCompleted geometry.edition bytes image lost
    → AgreesOutside geometry lost image (bytes ++ rest)
completed_agrees geometry lost bytes rest image fits end completed =
    let blocks = block_count geometry.edition bytes in
    elim (has_size geometry.edition bytes) as (λ b. IsCompletedIf b geometry.edition bytes image lost → AgreesOutside geometry lost image (bytes ++ rest)) [
      | false ↦ λ same. record {
        bytes = λ k r inside low sure.
            let at : 512 * k + r < length image = omega (arith, inside, low, fits.blocks) in
            ap (λ xs. get_or (xs ++ rest) (512 * k + r) 0) (sym same.0) ∙ get_or_append_left image rest 0 (512 * k + r) at;
      }
      | true ↦ λ filled.
          let within : (t : List ℕ) (more : List ℕ) → t ++ more ≡ bytes ++ rest → IsFilled t blocks image lost → AgreesOutside geometry lost image (bytes ++ rest) =
          λ t more whole is. subst (λ all. AgreesOutside geometry lost image all) whole
          (cut_agrees geometry lost t more image (subst (λ n. IsFilled t n image lost) (sym end) is)) in
          elim (nat_lt (length bytes / 512) blocks) as (λ b. IsFilled (cond b (take (512 * (length bytes / 512)) bytes) bytes) blocks image lost → AgreesOutside geometry lost image (bytes ++ rest)) [
            | true ↦ λ is. within (take (512 * (length bytes / 512)) bytes) (drop (512 * (length bytes / 512)) bytes ++ rest) (rest_of (512 * (length bytes / 512)) bytes rest) is
            | false ↦ λ is. within bytes rest refl is
          ] filled
    ] completed
