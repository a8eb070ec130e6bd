-- The part of a file that is read as an image or an archive.
use Rattle.std.specs.Prelude.{◌≡◌, ◌⊎◌, ℕ, ◌*◌, ◌<◌, ◌≤◌, ◌++◌, max, Bool, true, false, List, Option, length, take}
use Rattle.std.specs.Io.KnownBytes.{Consumes, IsAtEnd}
use Rattle.vol_layout.specs.Edition.{constants}
use Rattle.vol_layout.specs.Geometry.{block_count, is_whole}
use Rattle.vol_layout.specs.declared.edition.Edition.{Edition}
use Rattle.pdp_words.specs.Devices.{IsReadWhole}
use Rattle.host_files.specs.Archives.{IsArchiveRead, IsLong}
use Rattle.host_files.specs.declared.volume_front.UpTo.{UpTo}
use Rattle.host_files.specs.declared.volume_front.UpTo.TheVariants.{End, Volume, Archive}

-- `read` was read from the source: the whole source, or at most as many blocks as the super-block records (this project)
pub record IsReadFar (edition : Edition) (old new : Option (List ℕ)) (read : List ℕ) : Type 0 where
  pub front : Consumes old new read
  pub whole : (is_whole edition read ≡ true) ⊎ IsAtEnd new
  pub bound : length read ≤ max 1024 (512 * block_count edition read)

-- the image is the bytes read; or it is their first 1024 bytes, only if the super-block records more blocks than any volume has, and then rule 1
-- holds for neither (this project)
abbrev pub IsImageOf : Edition → List ℕ → List ℕ → Type 0
IsImageOf edition read image =
    (image ≡ read)
    ⊎ ((image ≡ take 1024 read) × ((constants edition).block_limit < block_count edition read)
    × (is_whole edition read ≡ false)
    × (is_whole edition image ≡ false))

-- the image was read from the source as a volume (this project)
abbrev pub IsVolumeRead : Edition → Option (List ℕ) → Option (List ℕ) → List ℕ → Type 0
IsVolumeRead edition old new image = (read : List ℕ) × IsReadFar edition old new read × IsImageOf edition read image

-- these bytes were read from a file, up to this end (this project)
abbrev pub IsReadUpTo : UpTo → Option (List ℕ) → Option (List ℕ) → List ℕ → Type 0
IsReadUpTo End old new bytes = IsReadWhole old new bytes
IsReadUpTo (Volume edition) old new bytes = IsVolumeRead edition old new bytes
IsReadUpTo (Archive blocks) old new bytes = IsArchiveRead blocks old new bytes

-- more bytes were read from the source than any volume has, and their super-block records more blocks than any volume has (this project)
abbrev pub IsEndless : Edition → Option (List ℕ) → Option (List ℕ) → Type 0
IsEndless edition old new =
    (read : List ℕ) × Consumes old new read × ((constants edition).block_limit < block_count edition read)
    × (512 * (constants edition).block_limit < length read)

-- a file that was read up to this end is longer than allowed (this project)
abbrev pub IsPast : UpTo → Option (List ℕ) → Option (List ℕ) → Type 0
IsPast End old new = ⊥
IsPast (Volume edition) old new = IsEndless edition old new
IsPast (Archive blocks) old new = IsLong blocks old new

-- some bytes were read from the source and appended to others, up to `most` in all, or up to the source's end (this project)
pub record IsReadOn (old new : Option (List ℕ)) (before after : List ℕ) (most : ℕ) : Type 0 where
  pub more : List ℕ
  pub front : Consumes old new more
  pub all : after ≡ before ++ more
  pub bound : length after ≤ max most (length before)
  pub end : length after < most → IsAtEnd new

-- `most` bytes were read from the source; or fewer, if the source ended (this project)
abbrev pub IsSkipped : ℕ → Option (List ℕ) → Option (List ℕ) → Bool → Type 0
IsSkipped most old new ended =
    (lost : List ℕ) × Consumes old new lost × (ended ≡ true → IsAtEnd new × (length lost < most)) × (ended ≡ false → length lost ≡ most)
