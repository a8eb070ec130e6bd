-- The parts of a pack: its volumes, and what is between them.
use Rattle.std.specs.Prelude.{◌≡◌, ◌⊎◌, ℕ, zero, suc, ◌+◌, ◌-◌, ◌*◌, ◌≤◌, Bool, true, ◌&&◌, ◌==◌, nat_lt, max, min, ◌<◌, ◌/◌, IfSome, if◌then◌else◌, List, [], ◌∷◌, ◌++◌, length, drop, Option, None, Some}
use Rattle.std.specs.Io.KnownBytes.{Consumes, IsAtEnd}
use Rattle.std.specs.Option.{is_none, option_or}
use Rattle.ustar.specs.Read.{is_zeros}
use Rattle.pdp_words.specs.Words.{block_of}
use Rattle.vol_identify.specs.Front.{begins, front_at, may_begin, within_either}
use Rattle.vol_identify.specs.Guesses.{by_magic, guess_of}
use Rattle.vol_identify.specs.declared.front.FoundVolume.{FoundVolume}
use Rattle.vol_identify.specs.declared.guess.Guess.{Guess}
use Rattle.vol_identify.specs.declared.guess.Guess.TheVariants.{CutOff}
use Rattle.vol_identify.specs.declared.pack_scan.Part.{Part}
use Rattle.vol_identify.specs.declared.pack_scan.Part.TheVariants.{Volume, Between}
use Rattle.vol_identify.specs.declared.pack_scan.Found.{Found}
use Rattle.vol_identify.specs.declared.pack_scan.PackScan.{PackScan}

-- the volume that begins at block k of a pack of `blocks` blocks, by the three blocks from k on, if the pack has all its blocks. Its sizes, the head of
-- its free list and its root are those of one; at block 0 it is enough if the sizes are, and one of the others, unless the first bytes are those of a packed file
-- or an archive (this project)
unfoldable pub volume_at : ℕ → ℕ → List ℕ → Option FoundVolume
volume_at blocks k front =
    if nat_lt (blocks - k) 3 then None
    else option_or (within_either begins front (blocks - k)) (if (k == 0) && is_none (by_magic front) then within_either may_begin front blocks else None)

-- the volume of a guess that it is cut off (this project)
abbrev pub cut_in : Guess → Option FoundVolume
cut_in (CutOff volume there) = Some volume
cut_in _ = None

-- the volume that is cut off, by the guess about the three blocks from block k on of a pack of `blocks` blocks, where no whole volume begins (this project)
unfoldable pub cut_at : ℕ → ℕ → List ℕ → Option FoundVolume
cut_at blocks k front = if nat_lt (blocks - k) 3 then None else cut_in (guess_of front)

-- what is known of a pack after some of its blocks: the block after the last volume, whether all bytes from there on are zeros, the volume that begins there and is
-- cut off, and the parts up to there (this project)
pub record Scanned : Type 0 where
  pub next : ℕ
  pub zeros : Bool
  pub cut : Option FoundVolume
  pub parts : List Part

-- the parts up to block k, where a volume or the end of the pack is (this project)
abbrev pub parts_before : ℕ → Scanned → List Part
parts_before k scanned =
    if nat_lt scanned.next k then scanned.parts ++ Between scanned.next (k - scanned.next) scanned.zeros ∷ [] else scanned.parts

-- what is known after block k, at which a volume begins, or none, or one that is cut off, and which has these bytes (this project)
abbrev pub looked_at : ℕ → List ℕ → Option FoundVolume → Scanned → Option FoundVolume → Scanned
looked_at k block cut scanned (Some volume) =
    record { next = k + volume.blocks; zeros = true; cut = None; parts = parts_before k scanned ++ Volume k volume ∷ [] }
looked_at k block cut scanned None =
    record { next = scanned.next; zeros = scanned.zeros && is_zeros block; cut = if k == scanned.next then cut else scanned.cut; parts = scanned.parts }

-- what is known after block k of a pack of `blocks` blocks: what is inside a volume isn't looked at (this project)
unfoldable pub step : ℕ → ℕ → List ℕ → List ℕ → Scanned → Scanned
step blocks k front block scanned =
    if nat_lt k scanned.next then scanned else looked_at k block (cut_at blocks k front) scanned (volume_at blocks k front)

-- what is known after the first `count` blocks of these bytes, which begin at block `at` of a pack of `blocks` blocks (this project)
unfoldable pub through : ℕ → ℕ → List ℕ → ℕ → Scanned → Scanned
through blocks at bytes zero scanned = scanned
through blocks at bytes (suc count) scanned =
    step blocks (at + count) (front_at bytes count) (block_of bytes count) (through blocks at bytes count scanned)

-- what is known before the first block (this project)
abbrev pub unscanned : Scanned
unscanned = record { next = 0; zeros = true; cut = None; parts = [] }

-- the parts of a pack of `blocks` blocks of which all were looked at: what is after the last volume is one that is cut off, or no volume (this project)
abbrev pub with_end : ℕ → Scanned → Option FoundVolume → List Part
with_end blocks scanned None = parts_before blocks scanned
with_end blocks scanned (Some volume) = scanned.parts ++ Volume scanned.next volume ∷ []

-- the parts of a pack that was scanned to its end (this project)
abbrev pub parts_at_end : ℕ → Scanned → List Part
parts_at_end blocks scanned = with_end blocks scanned scanned.cut

-- the parts of a pack of `blocks` blocks: its volumes, of which the last may be cut off, and what is between them, in order (this project)
unfoldable pub parts_of : ℕ → List ℕ → List Part
parts_of blocks pack = parts_at_end blocks (through blocks 0 pack blocks unscanned)

-- a whole pack of `blocks` blocks was read from a source, and these are its parts (this project)
abbrev pub IsScanned : ℕ → Option (List ℕ) → Option (List ℕ) → List Part → Type 0
IsScanned blocks old new parts = (pack : List ℕ) × Consumes old new pack × (length pack ≡ 512 * blocks) × (parts ≡ parts_of blocks pack)

-- the source ended before a pack of `blocks` blocks did (this project)
abbrev pub IsCutShort : ℕ → Option (List ℕ) → Option (List ℕ) → Type 0
IsCutShort blocks old new = (read : List ℕ) × Consumes old new read × IsAtEnd new × (length read < 512 * blocks)

-- what the program has found (this project)
abbrev pub found_of : Found → Scanned
found_of found = record { next = found.next; zeros = found.zeros; cut = found.cut; parts = found.parts.items }

-- a scan was given these bytes, the first of a pack, and has looked at the blocks before `at`; of the others it has the bytes (this project)
pub record HasScanned (bytes : List ℕ) (scan : PackScan) : Type 0 where
  pub found : found_of scan.found ≡ through scan.blocks 0 bytes scan.at unscanned
  pub rest : scan.window.items ≡ drop (512 * scan.at) bytes
  pub within : length bytes ≤ 512 * scan.blocks
  pub behind : 512 * scan.at ≤ length bytes
  pub seen : (scan.at ≡ 0) ⊎ (512 * min (scan.at + 2) scan.blocks ≤ length bytes)
  pub done : length bytes ≡ 512 * scan.blocks → scan.at ≡ scan.blocks

-- a volume at block k has no more blocks than the pack has from there on (rule 1)
abbrev pub Fits : ℕ → ℕ → Option FoundVolume → Type 0
Fits blocks k volume = IfSome volume (λ v. k + v.blocks ≤ blocks)

-- the first `count` blocks of a window, which begins at block `at` of a pack of `blocks` blocks, can be looked at: they are there, and the two blocks after
-- each of them, if the pack has these (this project)
pub record CanLook (blocks at : ℕ) (window : List ℕ) (count : ℕ) : Type 0 where
  pub here : at + count ≤ max at blocks
  pub there : 512 * count ≤ length window
  pub more : (k : ℕ) → k < count → at + k + 3 ≤ blocks → 512 * k + 1536 ≤ length window

-- so many blocks of the window can be looked at, and no more: all that the pack still has, or all but two (this project)
abbrev pub ready_of : ℕ → ℕ → List ℕ → ℕ
ready_of blocks at window =
    if nat_lt (length window / 512) (blocks - at) then length window / 512 - 2 else blocks - at
