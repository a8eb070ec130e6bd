-- Numbers as the PDP-11 stores them, and the bytes that a write leaves unchanged.
use Rattle.std.specs.Prelude.{◌≡◌, ℕ, ◌+◌, ◌*◌, ◌<◌, ◌≤◌, List, length, slice_index, slice_range}

-- a word: two bytes, the low one first (PDP-11)
abbrev pub word : List ℕ → ℕ → ℕ
word bytes at = slice_index bytes at + 256 * slice_index bytes (at + 1)

-- a long: two words, the high one first (PDP-11)
abbrev pub long : List ℕ → ℕ → ℕ
long bytes at = 65536 * word bytes at + word bytes (at + 2)

-- a three-byte address: bits 16 to 23, then bits 0 to 7, then bits 8 to 15 (ino.h of the seventh edition)
abbrev pub addr3 : List ℕ → ℕ → ℕ
addr3 bytes at = 65536 * slice_index bytes at + slice_index bytes (at + 1) + 256 * slice_index bytes (at + 2)

-- the two lists have the same length, and the same bytes except those at `from..to` (a frame)
pub record SameOutside (old new : List ℕ) (from to : ℕ) : Type 0 where
  pub len : length new ≡ length old
  pub below : (k : ℕ) → k < from → slice_index new k ≡ slice_index old k
  pub above : (k : ℕ) → to ≤ k → slice_index new k ≡ slice_index old k

-- the bytes of block n, of 512 bytes each, counted from 0 (manual section 5, file system)
abbrev pub block_of : List ℕ → ℕ → List ℕ
block_of bytes n = slice_range bytes (512 * n) (512 * n + 512)
