-- The block maps and bodies of files in a volume with another number of blocks.
use Rattle.std.proofs.Common.{◌≡◌, ℕ, ◌+◌, ◌*◌, ◌/◌, ◌%◌, ◌∙◌, sym, ap, List, [], ◌∷◌, refl, Bool, Some, None, if◌then◌else◌, map, slice_index}
use Rattle.std.specs.List.{range_with_len}
use Rattle.std.specs.Option.{option_map_or}
use Rattle.vol_layout.specs.Edition.{number}
use Rattle.vol_layout.specs.Geometry.{in_zone}
use Rattle.vol_layout.specs.BlockMaps.{last_place}
use Rattle.vol_layout.specs.BlockPointers.{IsFile, IsPlaceOf, form_at, pointer_in, named, stored}
use Rattle.vol_layout.specs.Body.{zone_byte, body_byte, body_size, body}
use Rattle.vol_layout.specs.declared.geometry.Geometry.{Geometry}
use Rattle.vol_layout.proofs.BodyLaws.{body_byte_is}
use Rattle.vol_layout.proofs.PlaceLaws.{last_leaf}
use Rattle.vol_resize.specs.Resized.{with_blocks}

-- each block number in a block map is in both data zones, or in neither
pub record HasBoth (blocks : ℕ) (geometry : Geometry) (image : List ℕ) : Type 0 where
  pub named : (i : ℕ) (p : List ℕ) → IsPlaceOf geometry image i p
      → in_zone (with_blocks blocks geometry) (named geometry image i p) ≡ in_zone geometry (named geometry image i p)
  pub zero : in_zone (with_blocks blocks geometry) 0 ≡ in_zone geometry 0

-- the block number at a position in the block map of a file is the same
pub named_in : (blocks : ℕ) (geometry : Geometry) (image : List ℕ) (i : ℕ) (p : List ℕ) → HasBoth blocks geometry image → IsPlaceOf geometry image i p
    → named (with_blocks blocks geometry) image i p ≡ named geometry image i p
unfolding pointer_in
named_in blocks geometry image i [] both is = refl
named_in blocks geometry image i (k ∷ []) both is = refl
named_in blocks geometry image i (j ∷ (a ∷ p)) both is =
    let above : IsPlaceOf geometry image i (a ∷ p) = record { file = is.file; place = is.place.2 } in
    ap (λ m. pointer_in (with_blocks blocks geometry) image m j) (named_in blocks geometry image i (a ∷ p) both above)
    ∙ ap (λ (z : Bool). if z then number geometry.edition image (512 * named geometry image i (a ∷ p)) j else 0) (both.named i (a ∷ p) above)

-- the block number stored for a logical block of a file is the same, and in both data zones or in neither
stored_in : (blocks : ℕ) (geometry : Geometry) (image : List ℕ) (i b : ℕ) → HasBoth blocks geometry image → IsFile geometry image i
    → (stored (with_blocks blocks geometry) image i (form_at geometry image i) b ≡ stored geometry image i (form_at geometry image i) b)
    × (in_zone (with_blocks blocks geometry) (stored geometry image i (form_at geometry image i) b)
    ≡ in_zone geometry (stored geometry image i (form_at geometry image i) b))
stored_in blocks geometry image i b both file =
    elim (last_place (form_at geometry image i) b) as (λ o. last_place (form_at geometry image i) b ≡ o
    → (option_map_or (named (with_blocks blocks geometry) image i) o 0 ≡ option_map_or (named geometry image i) o 0)
    × (in_zone (with_blocks blocks geometry) (option_map_or (named geometry image i) o 0) ≡ in_zone geometry (option_map_or (named geometry image i) o 0))) [
      | None ↦ λ e. (refl, both.zero)
      | Some p ↦ λ e.
          let is : IsPlaceOf geometry image i p = record { file = file; place = (last_leaf (form_at geometry image i) b p e).place } in
          (named_in blocks geometry image i p both is, both.named i p is)
    ] refl

-- a byte of a block that is in both data zones, or in neither, is the same
zone_byte_in : (blocks : ℕ) (geometry : Geometry) (image : List ℕ) (k r : ℕ) → in_zone (with_blocks blocks geometry) k ≡ in_zone geometry k
    → zone_byte (with_blocks blocks geometry) image k r ≡ zone_byte geometry image k r
unfolding zone_byte
zone_byte_in blocks geometry image k r same = ap (λ (z : Bool). if z then slice_index image (512 * k + r) else 0) same

-- each byte of a file is the same
body_byte_in : (blocks : ℕ) (geometry : Geometry) (image : List ℕ) (i n : ℕ) → HasBoth blocks geometry image → IsFile geometry image i
    → body_byte (with_blocks blocks geometry) image i n ≡ body_byte geometry image i n
body_byte_in blocks geometry image i n both file =
    let same = stored_in blocks geometry image i (n / 512) both file in
    body_byte_is (with_blocks blocks geometry) image i n
    ∙ (ap (λ m. zone_byte (with_blocks blocks geometry) image m (n % 512)) same.0
    ∙ (zone_byte_in blocks geometry image (stored geometry image i (form_at geometry image i) (n / 512)) (n % 512) same.1
    ∙ sym (body_byte_is geometry image i n)))

-- the body of a file is the same
pub body_in : (blocks : ℕ) (geometry : Geometry) (image : List ℕ) (i : ℕ) → HasBoth blocks geometry image → IsFile geometry image i
    → body (with_blocks blocks geometry) image i ≡ body geometry image i
unfolding body
body_in blocks geometry image i both file =
    let each : body_byte (with_blocks blocks geometry) image i ≡ body_byte geometry image i = λ k n. body_byte_in blocks geometry image i n both file k in
    ap (λ f. map f (range_with_len 0 (body_size geometry image i))) each
