-- What a command printed, kept in memory.
use Rattle.std.specs.Prelude.{◌≡◌, ◌<◌, ◌≤◌, ℕ, ℤ, false, List, [], ◌++◌, length, take, drop, Option, Some}
use Rattle.command_faults.specs.Streams.{Streams}
use Rattle.unixvol_c.specs.declared.kept.Kept.{Kept}
use Rattle.unixvol_c.specs.declared.structs.Seen.{Seen}
use Rattle.unixvol_c.specs.declared.TheConstants.{DONE, NO_ROOM}

-- both streams of a command that nothing failed on: the text that was printed, and the lines on standard error (this project)
abbrev pub kept_streams : List ℕ → List ℕ → Streams
kept_streams text lines = record { old = Some []; new = Some text; had_failed = false; failed = false; lines = lines }

-- the contents of two streams are kept, one after the other (this project)
pub record HasBoth (output errors : Option (List ℕ)) (kept : Kept) : Type 0 where
  pub text : List ℕ
  pub lines : List ℕ
  pub printed : output ≡ Some text
  pub heard : errors ≡ Some lines
  pub bytes : kept.bytes.items ≡ text ++ lines
  pub sizes : (kept.text ≡ length text) × (kept.lines ≡ length lines)

-- what a command shows is kept (this project)
pub record IsKept (shows : Streams → ℕ → Type 0) (kept : Kept) : Type 0 where
  pub text : List ℕ
  pub lines : List ℕ
  pub shown : shows (kept_streams text lines) kept.status
  pub bytes : kept.bytes.items ≡ text ++ lines
  pub sizes : (kept.text ≡ length text) × (kept.lines ≡ length lines)

-- bytes are put at the beginning of a buffer, if it has room for them; else it is unchanged (this project)
pub record IsPlaced (bytes old new : List ℕ) (result : ℤ) : Type 0 where
  pub whole : length bytes ≤ length old → (result ≡ DONE) × (take (length bytes) new ≡ bytes) × (drop (length bytes) new ≡ drop (length bytes) old)
  pub room : length old < length bytes → (result ≡ NO_ROOM) × (new ≡ old)

-- what a command shows is handed out: its text, and then its lines, if the buffer has room for both; and the numbers of their bytes, and its status (this
-- project)
pub record HandsOut (shows : Streams → ℕ → Type 0) (old new : List ℕ) (seen : Seen) (result : ℤ) : Type 0 where
  pub text : List ℕ
  pub lines : List ℕ
  pub shown : shows (kept_streams text lines) seen.status
  pub sizes : (seen.text ≡ length text) × (seen.lines ≡ length lines)
  pub placed : IsPlaced (text ++ lines) old new result
