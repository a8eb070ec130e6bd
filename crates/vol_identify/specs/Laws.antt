-- Laws of packs and guesses.
use Rattle.std.specs.Prelude.{◌≡◌, ◌⊎◌, ℕ, ◌+◌, ◌*◌, ◌<◌, List, ◌++◌, length}
use Rattle.std.specs.List.{Contains}
use Rattle.vol_layout.specs.Geometry.{block_count}
use Rattle.vol_layout.specs.declared.edition.Edition.{Edition}
use Rattle.vol_judge.specs.Sound.{IsSound}
use Rattle.vol_identify.specs.Front.{volume_of}
use Rattle.vol_identify.specs.Guesses.{guess_of}
use Rattle.vol_identify.specs.Packs.{parts_of}
use Rattle.vol_identify.specs.declared.guess.Guess.TheVariants as guesses
use Rattle.vol_identify.specs.declared.pack_scan.Part.{Part}
use Rattle.vol_identify.specs.declared.pack_scan.Part.TheVariants.{Volume, Between}

-- a pack of `blocks` blocks has this sound volume at block k, whatever is before and after it (this project)
pub record HasSound (edition : Edition) (pack : List ℕ) (blocks k : ℕ) (volume : List ℕ) : Type 0 where
  pub before : List ℕ
  pub after : List ℕ
  pub whole : pack ≡ before ++ (volume ++ after)
  pub place : length before ≡ 512 * k
  pub size : length volume ≡ 512 * block_count edition volume
  pub sound : IsSound edition volume
  pub pack_size : length pack ≡ 512 * blocks

-- a part is a volume that begins before block k and ends after it (this project)
abbrev pub Covers : ℕ → Part → Type 0
Covers k (Volume block volume) = (block < k) × (k < block + volume.blocks)
Covers k (Between block blocks zeros) = ⊥

-- a sound volume of a pack, whatever is before and after it, is one of its parts, as a volume at its place; unless it is inside a volume that is one (this project)
abbrev pub FindsSound : Type 0
FindsSound = (edition : Edition) (pack : List ℕ) (blocks k : ℕ) (volume : List ℕ) → HasSound edition pack blocks k volume
    → Contains (parts_of blocks pack) (Volume k (volume_of edition volume)) ⊎ ((part : Part) × Contains (parts_of blocks pack) part × Covers k part)

-- an image that begins with a sound volume, whatever is after it and in its boot block, is guessed to be that volume (this project)
abbrev pub GuessesSound : Type 0
GuessesSound = (edition : Edition) (image volume after : List ℕ) → image ≡ volume ++ after → length volume ≡ 512 * block_count edition volume
    → IsSound edition volume → guess_of image ≡ guesses.Volume (volume_of edition volume)
