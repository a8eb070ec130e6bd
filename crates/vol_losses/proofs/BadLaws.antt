-- Lemmas on images of which some blocks couldn't be read.
use Rattle.std.proofs.Common.{◌≡◌, ℕ, ◌+◌, ◌-◌, ◌*◌, ◌/◌, ◌<◌, ◌≤◌, ◌==◌, ◌∙◌, sym, ap, Bool, true, false, not, ◌&&◌, nat_lt, List, ◌++◌, length, replicate, get_or, refl, arith, cond, take, inl, inr, Option, Some, None}
use Rattle.std.proofs.lemmas.Bool.{cases_lt, eqb-false, ltb-true, true≢false}
use Rattle.std.proofs.lemmas.List.{get_or_append_left, get_or-take, length-append, length-take-le}
use Rattle.bad_maps.specs.declared.maps.ReadRange.{ReadRange}
use Rattle.vol_layout.specs.Geometry.{Fits, block_count}
use Rattle.vol_layout.specs.declared.edition.Edition.{Edition}
use Rattle.vol_layout.specs.declared.geometry.Geometry.{Geometry}
use Rattle.vol_losses.specs.BadImages.{IsCleared, IsRescued, IsUnrescued, HasRead, is_block_known, is_block_read}
use Rattle.vol_losses.specs.CutImages.{IsCompleted, IsCompletedIf, IsFilled, IsIncomplete, has_size}
use Rattle.vol_losses.specs.GivenSizes.{IsSized}
use Rattle.vol_losses.specs.Losses.{AgreesOutside}
use Rattle.vol_losses.specs.declared.bad_images.RescueFault.TheVariants as rescues
use Rattle.vol_losses.specs.declared.cut_images.CutFault.{CutFault}
use Rattle.vol_losses.specs.declared.cut_images.CutFault.TheVariants as cuts
use Rattle.vol_losses.specs.declared.given_sizes.VolumeSizes.{VolumeSizes}

-- a byte of whole blocks stays where an image is filled
byte_filled : (bytes front : List ℕ) (blocks : ℕ) (image : List ℕ) (lost : List Bool) (n : ℕ) → n < length front → get_or front n 0 ≡ get_or bytes n 0
    → IsFilled front blocks image lost → get_or image n 0 ≡ get_or bytes n 0
byte_filled bytes front blocks image lost n inside same filled =
    ap (λ xs. get_or xs n 0) filled.zeros ∙ (get_or_append_left front _ 0 n inside ∙ same)

-- a byte of a whole block stays where an image is completed
pub byte_completed : (edition : Edition) (bytes image : List ℕ) (lost : List Bool) (n : ℕ) → n < 512 * (length bytes / 512) → IsCompleted edition bytes image lost
    → get_or image n 0 ≡ get_or bytes n 0
byte_completed edition bytes image lost n low completed =
    let blocks = block_count edition bytes in
    let whole = 512 * (length bytes / 512) in
    elim (has_size edition bytes) as (λ b. IsCompletedIf b edition bytes image lost → get_or image n 0 ≡ get_or bytes n 0) [
      | false ↦ λ same. ap (λ xs. get_or xs n 0) same.0
      | true ↦ λ filled.
          elim (nat_lt (length bytes / 512) blocks) as (λ b. IsFilled (cond b (take whole bytes) bytes) blocks image lost → get_or image n 0 ≡ get_or bytes n 0) [
            | true ↦ λ is.
                let size : length (take whole bytes) ≡ whole = length-take-le whole bytes (omega arith) in
                byte_filled bytes (take whole bytes) blocks image lost n (omega (arith, size, low)) (get_or-take whole bytes n 0 low) is
            | false ↦ λ is. let inside : n < length bytes = omega (arith, low) in byte_filled bytes bytes blocks image lost n inside refl is
          ] filled
    ] completed

-- the two parts of a test that a block is there
there_parts : (a b : Bool) → not (a && b) ≡ false → (a ≡ true) × (b ≡ true)
there_parts true true e = (refl, refl)
there_parts true false e = absurd (true≢false e)
there_parts false b e = absurd (true≢false e)

-- the second of two tests
second : (a b : Bool) → (a && b) ≡ true → b ≡ true
second true b e = e
second false b e = absurd (true≢false (sym e))

-- if a test and another one hold, the first is true of what it denies
denied : (a b : Bool) → (not a && b) ≡ true → a ≡ false
denied true b e = absurd (true≢false (sym e))
denied false b e = refl

-- an image with sizes has no fewer bytes
pub sized_more : (sizes : Option VolumeSizes) (edition : Edition) (cleared stated : List ℕ) → IsSized sizes edition cleared stated → length cleared ≤ length stated
sized_more None edition cleared stated is = omega (arith, ap length is)
sized_more (Some sizes) edition cleared stated is =
    let count = length-append cleared (replicate (1024 - length cleared) 0) in
    let same = is.others.len in
    omega (arith, count, same)

-- a byte of a block that is known stays where sizes are written
byte_sized : (sizes : Option VolumeSizes) (edition : Edition) (ranges : List ReadRange) (at k r : ℕ) (cleared stated : List ℕ) → IsSized sizes edition cleared stated
    → is_block_known sizes ranges at k ≡ true → r < 512 → 512 * k + r < length cleared → get_or stated (512 * k + r) 0 ≡ get_or cleared (512 * k + r) 0
byte_sized None edition ranges at k r cleared stated is known low inside = ap (λ xs. get_or xs (512 * k + r) 0) is
byte_sized (Some sizes) edition ranges at k r cleared stated is known low inside =
    let other = eqb-false k 1 (denied (k == 1) (is_block_read ranges at k) known) in
    let kept : get_or stated (512 * k + r) 0 ≡ get_or (cleared ++ replicate (1024 - length cleared) 0) (512 * k + r) 0 = elim (cases_lt k 1) [
      | inl first ↦ is.others.below (512 * k + r) (omega (arith, first, low))
      | inr later ↦ is.others.above (512 * k + r) (omega (arith, later, other))
    ] in
    kept ∙ get_or_append_left cleared (replicate (1024 - length cleared) 0) 0 (512 * k + r) inside

-- an image isn't rescued if it isn't completed after sizes are written
pub incomplete_stated : (edition : Edition) (ranges : List ReadRange) (at : ℕ) (sizes : Option VolumeSizes) (bytes cleared stated : List ℕ) (fault : CutFault)
    → IsCleared sizes ranges at bytes cleared → IsSized sizes edition cleared stated → IsIncomplete edition stated fault
    → IsUnrescued edition ranges at sizes bytes (rescues.Cut fault)
incomplete_stated edition ranges at sizes bytes cleared stated cuts.NoMemory zeros sized cause = tt
incomplete_stated edition ranges at sizes bytes cleared stated (cuts.TooShort there blocks) zeros sized cause = (cleared, stated, zeros, sized, cause)

-- every volume that has the bytes of the known blocks agrees with the rescued image outside the lost blocks
pub rescue_agrees : (geometry : Geometry) (edition : Edition) (ranges : List ReadRange) (at : ℕ) (sizes : Option VolumeSizes) (bytes volume image : List ℕ) (lost : List Bool)
    → Fits geometry image → IsRescued edition ranges at sizes bytes image lost → HasRead sizes ranges at bytes volume → AgreesOutside geometry lost image volume
rescue_agrees geometry edition ranges at sizes bytes volume image lost fits rescued has = record {
  bytes = λ k r inside low sure.
      let block : k < length image / 512 = omega (arith, inside, fits.blocks) in
      let parts = there_parts (nat_lt k (length bytes / 512)) (is_block_known sizes ranges at k) (sym (rescued.marks k block) ∙ sure) in
      let there : k < length bytes / 512 = ltb-true k (length bytes / 512) parts.0 in
      let count = rescued.zeros.count in
      let more = sized_more sizes edition rescued.cleared rescued.stated rescued.sized in
      let within : 512 * k + r < length rescued.cleared = omega (arith, there, low, count) in
      let whole : 512 * k + r < 512 * (length rescued.stated / 512) = omega (arith, there, low, count, more) in
      has.kept k r there low parts.1
      ∙ sym (byte_completed edition rescued.stated image rescued.missing (512 * k + r) whole rescued.completed
      ∙ (byte_sized sizes edition ranges at k r rescued.cleared rescued.stated rescued.sized parts.1 low within
      ∙ (rescued.zeros.block k r there low ∙ ap (λ b. cond b (get_or bytes (512 * k + r) 0) 0) parts.1)));
}
