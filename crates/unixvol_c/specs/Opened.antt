-- An open volume, as contracts see the contents of a handle.
use Rattle.std.specs.Prelude.{◌≡◌, ℕ, ◌+◌, ◌*◌, ◌^◌, ◌<◌, ◌≤◌, ◌&&◌, nat_lt, if◌then◌else◌, List, [], length, Option, None, Some}
use Rattle.std.specs.List.{sum_by}
use Rattle.vol_volume.specs.Volume.{Mounted, after_cut}
use Rattle.vol_volume.specs.declared.calls.Call.{Call}
use Rattle.vol_volume.specs.declared.calls.Call.TheVariants.{Create, Mkdir, Link, Unlink, Rmdir, Write, Truncate, Chmod, Chown, Times, Mknod}
use Rattle.vol_volume.specs.declared.calls.Record.{Record}

-- the contents of an open handle: a volume, and the last answer of unknown length (this project)
pub record Opened : Type 0 where
  pub volume : Mounted
  pub answer : List ℕ

-- the contents of a handle whose volume was just opened: there is no answer yet (this project)
abbrev pub opened : Mounted → Opened
opened volume = record { volume = volume; answer = [] }

-- the number of bytes that the record of a call counts as: 128, the bytes of its paths, and those that it writes (this project)
abbrev pub call_bytes : Call → ℕ
call_bytes (Create cred now path perm) = 128 + length path
call_bytes (Mkdir cred now path perm) = 128 + length path
call_bytes (Link cred now source target) = 128 + length source + length target
call_bytes (Unlink cred now path) = 128 + length path
call_bytes (Rmdir cred now path) = 128 + length path
call_bytes (Write cred now path offset bytes) = 128 + length path + length bytes
call_bytes (Truncate cred now path size) = 128 + length path
call_bytes (Chmod cred now path perm) = 128 + length path
call_bytes (Chown cred now path uid gid) = 128 + length path
call_bytes (Times cred now path atime mtime) = 128 + length path
call_bytes (Mknod cred now path perm device) = 128 + length path

-- the number of bytes that a journal counts as (this project)
abbrev pub journal_bytes : List Record → ℕ
journal_bytes records = sum_by (λ (entry : Record). call_bytes entry.call) records

-- the records of a volume can be cut: the number of the next one is below 2^64 (this project)
abbrev pub CanCut : Mounted → Type 0
CanCut volume = volume.first + length volume.journal < 2 ^ 64

-- a volume whose journal was cut if it counts as more than an eighth of the image's bytes (this project)
abbrev pub trimmed : Mounted → Mounted
trimmed volume =
    if nat_lt (length volume.image) (8 * journal_bytes volume.journal) && nat_lt (volume.first + length volume.journal) (2 ^ 64)
    then after_cut volume else volume

-- the invariant of an open volume: `growth` is the number of bytes that its journal counts as, and this is no more than an eighth of the image's
-- bytes (this project)
pub record IsCounted (volume : Mounted) (growth : ℕ) : Type 0 where
  pub counted : CanCut volume → growth ≡ journal_bytes volume.journal
  pub few : CanCut volume → 8 * growth ≤ length volume.image

-- a journal counts as `growth` bytes; or as 2^64 or more, if there is no `growth` (this project)
abbrev pub HasGrowth : Mounted → Option ℕ → Type 0
HasGrowth volume (Some growth) = CanCut volume → growth ≡ journal_bytes volume.journal
HasGrowth volume None = CanCut volume → 2 ^ 64 ≤ journal_bytes volume.journal
