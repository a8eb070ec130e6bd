-- Images that were cut off, with zeros up to the end of their volumes.
use Rattle.std.specs.Prelude.{◌≡◌, ℕ, ◌+◌, ◌-◌, ◌*◌, ◌/◌, ◌<◌, ◌&&◌, not, nat_le, nat_lt, if◌then◌else◌, List, [], ◌++◌, length, replicate, take, Bool, true, false}
use Rattle.vol_layout.specs.Edition.{constants}
use Rattle.vol_layout.specs.Geometry.{block_count}
use Rattle.vol_layout.specs.declared.edition.Edition.{Edition}
use Rattle.vol_layout.specs.declared.geometry.Geometry.{Geometry}
use Rattle.vol_losses.specs.Losses.{is_lost, AgreesOutside}
use Rattle.vol_losses.specs.declared.cut_images.CutFault.{CutFault}
use Rattle.vol_losses.specs.declared.cut_images.CutFault.TheVariants.{NoMemory, TooShort}

-- the image has these bytes, and zeros up to the end of a volume of that many blocks; the blocks that aren't whole in these bytes are marked as lost,
-- and there are no marks if each block is whole (this project)
pub record IsFilled (bytes : List ℕ) (blocks : ℕ) (image : List ℕ) (lost : List Bool) : Type 0 where
  pub zeros : image ≡ bytes ++ replicate (512 * blocks - length bytes) 0
  pub marks : (k : ℕ) → k < blocks → is_lost lost k ≡ not (nat_le (512 * k + 512) (length bytes))
  pub count : length lost ≡ (if nat_lt (length bytes / 512) blocks then blocks else 0)

-- a volume's image, of which only some first bytes are left, agrees with these bytes and zeros outside the lost blocks (this project's law)
abbrev pub CutsAgree : Type 0
CutsAgree = (geometry : Geometry) (lost : List Bool) (bytes rest image : List ℕ) → IsFilled bytes geometry.zone_end image lost
    → AgreesOutside geometry lost image (bytes ++ rest)

-- the bytes of an image up to its last whole block, if it has fewer blocks than this; else all of them (this project)
abbrev pub whole_bytes : List ℕ → ℕ → List ℕ
whole_bytes bytes blocks = if nat_lt (length bytes / 512) blocks then take (512 * (length bytes / 512)) bytes else bytes

-- true if these bytes of an image have a super-block, and it states no more blocks than a volume of the edition can have (this project)
abbrev pub has_size : Edition → List ℕ → Bool
has_size edition bytes = nat_le 1024 (length bytes) && nat_le (block_count edition bytes) (constants edition).block_limit

-- the image of a volume, of whose bytes only these first ones are left, and its lost blocks; without a super-block of a volume, the bytes stay as they
-- are (this project)
abbrev pub IsCompletedIf : Bool → Edition → List ℕ → List ℕ → List Bool → Type 0
IsCompletedIf false edition bytes image lost = (image ≡ bytes) × (lost ≡ [])
IsCompletedIf true edition bytes image lost = IsFilled (whole_bytes bytes (block_count edition bytes)) (block_count edition bytes) image lost

-- the image of a volume, of whose bytes only these first ones are left, and its lost blocks (this project)
abbrev pub IsCompleted : Edition → List ℕ → List ℕ → List Bool → Type 0
IsCompleted edition bytes image lost = IsCompletedIf (has_size edition bytes) edition bytes image lost

-- the reason why the image of a volume can't be completed: memory ran out, or the super-block of these bytes states at least 1,048,577 blocks that
-- aren't there (this project)
abbrev pub IsIncomplete : Edition → List ℕ → CutFault → Type 0
IsIncomplete edition bytes NoMemory = Unit {0}
IsIncomplete edition bytes (TooShort there blocks) =
    (has_size edition bytes ≡ true) × (there ≡ length bytes / 512) × (blocks ≡ block_count edition bytes) × (there + 1048576 < blocks)
