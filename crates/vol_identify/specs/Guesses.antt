-- What an image seems to be.
use Rattle.std.specs.Prelude.{◌≡◌, ℕ, zero, suc, ◌+◌, ◌-◌, ◌*◌, ◌/◌, ◌^◌, min, Bool, true, false, nat_le, nat_lt, if◌then◌else◌, List, length, Option, None, Some, option_map}
use Rattle.std.specs.Option.{option_or, unwrap_or}
use Rattle.ustar.specs.Read.{is_zeros}
use Rattle.vol_layout.specs.declared.edition.Edition.TheVariants.{V6, V7}
use Rattle.vol_judge.specs.Sound.{IsJudged}
use Rattle.vol_identify.specs.Foreign.{foreign_of}
use Rattle.vol_identify.specs.Front.{begins, begun, front_at, is_volume, swab, volume_of, within_either}
use Rattle.vol_identify.specs.Magic.{is_ext2, is_tar, packing_of}
use Rattle.vol_identify.specs.declared.front.FoundVolume.{FoundVolume}
use Rattle.vol_identify.specs.declared.guess.Guess.{Guess}
use Rattle.vol_identify.specs.declared.guess.Guess.TheVariants.{Empty, Packed, Tar, Volume, Swapped, Ext2, CutOff, Foreign, Inside, Unknown}

-- a guess by the first bytes: zeros, a packed file, an archive (this project)
unfoldable pub by_magic : List ℕ → Option Guess
by_magic image =
    if is_zeros image then Some Empty
    else option_or (option_map Packed (packing_of image)) (if is_tar image then Some Tar else None)

-- a whole volume, the sixth edition tried first (this project)
unfoldable pub whole : List ℕ → Option Guess
whole image =
    if is_volume V6 image then Some (Volume (volume_of V6 image))
    else if is_volume V7 image then Some (Volume (volume_of V7 image)) else None

-- so many bytes have all blocks of a volume (rule 1)
abbrev pub fits_in : FoundVolume → ℕ → Bool
fits_in volume bytes = nat_le (512 * volume.blocks) bytes

-- a guess about a volume whose blocks must be there (this project)
abbrev pub if_fits : ℕ → (FoundVolume → Guess) → Option FoundVolume → Option Guess
if_fits bytes guess None = None
if_fits bytes guess (Some volume) = if fits_in volume bytes then Some (guess volume) else None

-- a whole volume whose front has each pair of bytes exchanged (this project)
unfoldable pub swapped : List ℕ → Option Guess
swapped image = if_fits (length image) Swapped (begun (swab (front_at image 0)))

-- a volume that begins the image and is longer (this project)
unfoldable pub cut_off : List ℕ → Option Guess
cut_off image = option_map (λ volume. CutOff volume (min (length image / 512) (2 ^ 32 - 1))) (begun image)

-- a whole volume that begins at block k (this project)
unfoldable pub inside_at : List ℕ → ℕ → Option Guess
inside_at image k = if_fits (length image - 512 * k) (λ volume. Inside volume k) (begun (front_at image k))

-- the first whole volume that begins at one of the blocks from block k on, as many as there are `suc`s (this project)
unfoldable pub inside_from : List ℕ → ℕ → ℕ → Option Guess
inside_from image zero k = None
inside_from image (suc blocks) k = option_or (inside_at image k) (inside_from image blocks (k + 1))

-- the first whole volume that begins after block 0 (this project)
unfoldable pub inside : List ℕ → Option Guess
inside image = inside_from image (min (length image / 512) (2 ^ 32 - 1) - 3) 1

-- a guess by super-blocks: a whole volume, one with exchanged bytes, ext2, one that is cut off, what another system wrote, a volume that begins further on
-- (this project)
unfoldable pub by_front : List ℕ → Guess
by_front image =
    unwrap_or (option_or (whole image) (option_or (swapped image) (if is_ext2 image then Some Ext2 else
    option_or (cut_off image) (option_or (option_map Foreign (foreign_of image)) (inside image))))) Unknown

-- a whole volume whose sizes, head of the free list and root are those of one, whatever its boot block has (this project)
unfoldable pub begun_whole : List ℕ → Option Guess
begun_whole image = if nat_lt (length image) 1536 then None else option_map Volume (within_either begins image (length image / 512))

-- what an image seems to be: a volume that begins it; else by its first bytes, else by super-blocks, if it has three blocks (this project)
unfoldable pub guess_of : List ℕ → Guess
guess_of image = unwrap_or (option_or (begun_whole image) (by_magic image)) (if nat_lt (length image) 1536 then Unknown else by_front image)

-- a whole volume is judged; of all else nothing is said (this project)
abbrev pub IsJudgedSo : List ℕ → Guess → Option ℕ → Type 0
IsJudgedSo image (Volume volume) broken = IsJudged true volume.edition image broken
IsJudgedSo image _ broken = broken ≡ None

-- true if a guess says something of all bytes, or of the first volume in them, so that further bytes could change it (this project)
abbrev pub is_open : Guess → Bool
is_open Empty = true
is_open (Inside volume block) = true
is_open Unknown = true
is_open _ = false
