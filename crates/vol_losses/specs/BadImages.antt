-- Images of which some blocks couldn't be read, with zeros in their place.
use Rattle.std.specs.Prelude.{◌≡◌, ◌⊎◌, ℕ, ◌+◌, ◌*◌, ◌/◌, ◌<◌, ◌&&◌, ◌==◌, not, nat_lt, if◌then◌else◌, List, [], length, slice_index, Bool, true, false, Option, Some, None}
use Rattle.std.specs.List.{list_any}
use Rattle.bad_maps.specs.Maps.{covers, is_read_from}
use Rattle.bad_maps.specs.declared.maps.ReadRange.{ReadRange}
use Rattle.vol_layout.specs.Geometry.{Fits}
use Rattle.vol_layout.specs.declared.edition.Edition.{Edition}
use Rattle.vol_layout.specs.declared.geometry.Geometry.{Geometry}
use Rattle.vol_losses.specs.CutImages.{IsCompleted, IsIncomplete}
use Rattle.vol_losses.specs.GivenSizes.{IsSized, are_sizes}
use Rattle.vol_losses.specs.Losses.{is_lost, AgreesOutside}
use Rattle.vol_losses.specs.declared.bad_images.RescueFault.{RescueFault}
use Rattle.vol_losses.specs.declared.bad_images.RescueFault.TheVariants as rescues
use Rattle.vol_losses.specs.declared.cut_images.CutFault.TheVariants as cuts
use Rattle.vol_losses.specs.declared.given_sizes.VolumeSizes.{VolumeSizes}

-- true if a range of the bytes that were read has all bytes of block k of a volume that begins at this block of a file (this project)
abbrev pub is_block_in : ℕ → ℕ → ReadRange → Bool
is_block_in at k range = covers (512 * (at + k)) 512 range

-- true if all bytes of block k of a volume that begins at this block of a file were read (this project)
abbrev pub is_block_read : List ReadRange → ℕ → ℕ → Bool
is_block_read ranges at k = is_read_from ranges (512 * (at + k)) 512

-- true if block k of a volume that begins at this block of a file is known: all its bytes were read, and it isn't a super-block for which sizes are given
-- (this project)
abbrev pub is_block_known : Option VolumeSizes → List ReadRange → ℕ → ℕ → Bool
is_block_known None ranges at k = is_block_read ranges at k
is_block_known (Some sizes) ranges at k = not (k == 1) && is_block_read ranges at k

-- the whole blocks of these bytes of a volume that begins at this block of a file, with zeros in place of each block that isn't known (this project)
pub record IsCleared (sizes : Option VolumeSizes) (ranges : List ReadRange) (at : ℕ) (bytes cleared : List ℕ) : Type 0 where
  pub count : length cleared ≡ 512 * (length bytes / 512)
  pub block : (k r : ℕ) → k < length bytes / 512 → r < 512
      → slice_index cleared (512 * k + r) ≡ (if is_block_known sizes ranges at k then slice_index bytes (512 * k + r) else 0)

-- the image of a volume that begins at this block of a file, from its bytes and the ranges of the file that were read: each block that isn't whole in
-- the bytes, or isn't known, is lost, and reads as zeros; but the super-block states the sizes, if they are given; there are no marks if no block is lost
-- (this project)
pub record IsRescued (edition : Edition) (ranges : List ReadRange) (at : ℕ) (sizes : Option VolumeSizes) (bytes image : List ℕ) (lost : List Bool) : Type 0 where
  pub cleared : List ℕ
  pub zeros : IsCleared sizes ranges at bytes cleared
  pub stated : List ℕ
  pub sized : IsSized sizes edition cleared stated
  pub missing : List Bool
  pub completed : IsCompleted edition stated image missing
  pub marks : (k : ℕ) → k < length image / 512 → is_lost lost k ≡ not (nat_lt k (length bytes / 512) && is_block_known sizes ranges at k)
  pub count : (lost ≡ []) ⊎ ((length lost ≡ length image / 512) × (list_any (λ mark. mark) lost ≡ true))

-- the reason why the image of a volume can't be rescued: memory ran out; or its super-block, if it was read or sizes are given, states too many blocks that
-- are missing; or no volume of the edition has the sizes that are given (this project)
abbrev pub IsUnrescued : Edition → List ReadRange → ℕ → Option VolumeSizes → List ℕ → RescueFault → Type 0
IsUnrescued edition ranges at sizes bytes (rescues.Cut cuts.NoMemory) = Unit {0}
IsUnrescued edition ranges at sizes bytes (rescues.Cut (cuts.TooShort there blocks)) =
    (cleared : List ℕ) × (stated : List ℕ) × IsCleared sizes ranges at bytes cleared × IsSized sizes edition cleared stated
    × IsIncomplete edition stated (cuts.TooShort there blocks)
IsUnrescued edition ranges at sizes bytes (rescues.Sizes wrong) = (sizes ≡ Some wrong) × (are_sizes edition wrong ≡ false)

-- the volume, which begins at this block of a file, has the bytes of each whole block that is known: so its super-block may hold anything if the sizes are
-- given (this project)
pub record HasRead (sizes : Option VolumeSizes) (ranges : List ReadRange) (at : ℕ) (bytes volume : List ℕ) : Type 0 where
  pub kept : (k r : ℕ) → k < length bytes / 512 → r < 512 → is_block_known sizes ranges at k ≡ true
      → slice_index volume (512 * k + r) ≡ slice_index bytes (512 * k + r)

-- every volume that has the bytes of the known blocks agrees with the rescued image outside the lost blocks (this project's law)
abbrev pub RescuesAgree : Type 0
RescuesAgree = (geometry : Geometry) (edition : Edition) (ranges : List ReadRange) (at : ℕ) (sizes : Option VolumeSizes) (bytes volume image : List ℕ) (lost : List Bool) → Fits geometry image
    → IsRescued edition ranges at sizes bytes image lost → HasRead sizes ranges at bytes volume → AgreesOutside geometry lost image volume
