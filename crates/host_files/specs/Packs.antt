-- A volume in a pack: a disk that holds several volumes, one after another.
use Rattle.std.specs.Prelude.{◌≡◌, ◌≢◌, ◌⊎◌, ℕ, ◌+◌, ◌<◌, ◌≤◌, ◌++◌, Bool, true, false, List, Option, length, take, drop}
use Rattle.std.specs.IoError.{error_kind}
use Rattle.std.specs.Io.KnownBytes.{Appends, Consumes, IsAtEnd}
use Rattle.std.specs.declared.io.Error.{Error}
use Rattle.std.specs.declared.io.ErrorKind.TheVariants as reasons
use Rattle.pdp_words.specs.Devices.{LosesFront}
use Rattle.host_files.specs.ReadParts.{IsReadUpTo}
use Rattle.host_files.specs.declared.image_file.FileKind.{FileKind}
use Rattle.host_files.specs.declared.image_file.FileKind.TheVariants as kinds
use Rattle.host_files.specs.declared.image_file.Stamp.{Stamp}
use Rattle.host_files.specs.declared.pack.MoveFault.{MoveFault}
use Rattle.host_files.specs.declared.pack.MoveFault.TheVariants.{Short, Unread}
use Rattle.host_files.specs.declared.volume_front.UpTo.{UpTo}

-- the pack with `bytes` in the place of as many from byte `at` on: the blocks of the other volumes are the same (this project)
abbrev pub spliced : ℕ → List ℕ → List ℕ → List ℕ
spliced at bytes pack = take at pack ++ (bytes ++ drop (at + length bytes) pack)

-- the next `count` bytes of a file were dropped (this project)
abbrev pub IsMovedTo : ℕ → Option (List ℕ) → Option (List ℕ) → Type 0
IsMovedTo count old new = (lost : List ℕ) × Consumes old new lost × (length lost ≡ count)

-- a file that can be read to its end has fewer than `count` bytes left (this project)
abbrev pub IsShorter : ℕ → Option (List ℕ) → Type 0
IsShorter count old = (rest : List ℕ) × (new : Option (List ℕ)) × Consumes old new rest × IsAtEnd new × (length rest < count)

-- the system reported a stamp for an open file, and if that is of a regular file, it has at least `count` bytes (this project)
abbrev pub HasBytes : {F : Type 0} → (F → Stamp → Type 0) → F → ℕ → Type 0
HasBytes had file count = (stamp : Stamp) × had file stamp × (stamp.kind ≡ kinds.Regular → count ≤ stamp.size)

-- some bytes were read from a file, and then a read failed (this project)
abbrev pub HasFailed : {D : Type 0} → (D → Option (List ℕ)) → (D → Bool) → Option (List ℕ) → Type 0
HasFailed {D} left failed old = (source : D) × LosesFront old (left source) × (failed source ≡ true)

-- a file of this kind and size ends before `count` bytes: a regular file by its size, a device since the system refused to move that far as invalid,
-- and anything else since all its bytes were read (this project)
abbrev pub EndsBefore : {F : Type 0} → (F → Option (List ℕ)) → (F → ℕ → Error → Type 0) → FileKind → ℕ → F → ℕ → Type 0
EndsBefore remaining refused kinds.Regular size file count = size < count
EndsBefore remaining refused kinds.Device size file count = (why : Error) × refused file count why × (error_kind why ≡ reasons.InvalidInput)
EndsBefore remaining refused kinds.Directory size file count = IsShorter count (remaining file)
EndsBefore remaining refused kinds.Stream size file count = IsShorter count (remaining file)

-- a file of this kind couldn't be moved over `count` bytes: the system refused a regular file or a device, of which it gave this error; of anything else
-- some bytes were read, and then a read failed (this project)
abbrev pub IsUnmoved : {F D : Type 0} → (F → Option (List ℕ)) → (F → ℕ → Error → Type 0) → (D → Option (List ℕ)) → (D → Bool) → FileKind → F → ℕ → Error → Type 0
IsUnmoved remaining refused left failed kinds.Regular file count why = refused file count why
IsUnmoved remaining refused left failed kinds.Device file count why = refused file count why × (error_kind why ≢ reasons.InvalidInput)
IsUnmoved remaining refused left failed kinds.Directory file count why = HasFailed left failed (remaining file)
IsUnmoved remaining refused left failed kinds.Stream file count why = HasFailed left failed (remaining file)

-- a file with this stamp wasn't moved over `count` bytes for this reason (this project)
abbrev pub IsMoveFault : {F D : Type 0} → (F → Option (List ℕ)) → (F → ℕ → Error → Type 0) → (D → Option (List ℕ)) → (D → Bool) → Stamp → F → ℕ → MoveFault → Type 0
IsMoveFault remaining refused left failed stamp file count Short = EndsBefore remaining refused stamp.kind stamp.size file count
IsMoveFault remaining refused left failed stamp file count (Unread why) = IsUnmoved remaining refused left failed stamp.kind file count why

-- the first `at` bytes of a pack were dropped, and then `bytes` were read up to this end (this project)
abbrev pub IsReadFrom : ℕ → UpTo → Option (List ℕ) → Option (List ℕ) → List ℕ → Type 0
IsReadFrom at up_to old new bytes = (mid : Option (List ℕ)) × IsMovedTo at old mid × IsReadUpTo up_to mid new bytes

-- up to `most` bytes were read from a source and appended to what a sink holds: all of the source if it has ended, and otherwise `most` (this project)
pub record IsCopied (most : ℕ) (old new held held' : Option (List ℕ)) (ended : Bool) : Type 0 where
  pub bytes : List ℕ
  pub front : Consumes old new bytes
  pub written : Appends held held' bytes
  pub end : ended ≡ true → IsAtEnd new × (length bytes < most)
  pub full : ended ≡ false → length bytes ≡ most

-- a whole pack was read, and was written with `bytes` in the place of as many from byte `at` on (this project)
abbrev pub IsSpliced : ℕ → List ℕ → Option (List ℕ) → Option (List ℕ) → Option (List ℕ) → Option (List ℕ) → Type 0
IsSpliced at bytes old new held held' =
    (pack : List ℕ) × Consumes old new pack × IsAtEnd new × (at + length bytes ≤ length pack) × Appends held held' (spliced at bytes pack)

-- the whole pack was read, and has fewer than `end` bytes; or `end` bytes were read from it, and 2^64 - 1 after these (this project)
abbrev pub IsMisfit : ℕ → Option (List ℕ) → Option (List ℕ) → Type 0
IsMisfit end old new =
    (read : List ℕ) × Consumes old new read × ((IsAtEnd new × (length read < end)) ⊎ (length read ≡ end + 18446744073709551615))
