-- The lock's contents in its rule.
use Rattle.std.specs.Prelude.{◌≡◌, ℕ, ◌+◌, List, [], ◌++◌, length, Option, None}
use Rattle.logbook.specs.Pages.{Book}
use Rattle.vol_change.specs.Whole.{StaysAround}
use Rattle.vol_layout.specs.Geometry.{geometry_of}
use Rattle.vol_volume.specs.Journal.{after}
use Rattle.vol_volume.specs.Volume.{Mounted}
use Rattle.vol_volume.specs.declared.calls.Record.{Record}
use Rattle.vol_layout.specs.declared.edition.Edition.TheVariants as editions
use Rattle.vol_receipts.specs.Agrees.{origin_of, start, Agrees}
use Rattle.vol_receipts.specs.declared.receipts.Origin.{Origin}
use Rattle.vol_receipts.specs.declared.receipts.Receipt.{Receipt}
use Rattle.vol_shared.specs.Lists.{BeginsWith}

-- the contents of the lock: the journal's origin, the journal, the image, and the log with the records, if they are published (this project)
pub record Stored : Type 0 where
  pub origin : Origin
  pub journal : List Record
  pub image : List ℕ
  pub book : Option Book

-- the contents of the lock for a volume and its log, if it has one (this project)
abbrev pub stored_with : Option Book → Mounted → Stored
stored_with book volume = record { origin = origin_of volume; journal = volume.journal; image = volume.image; book = book }

-- the contents of the lock for a volume that isn't published (this project)
abbrev pub stored_of : Mounted → Stored
stored_of volume = stored_with None volume

-- the contents of the lock without the log (this project)
abbrev pub unpublished : Stored → Stored
unpublished stored = record { origin = stored.origin; journal = stored.journal; image = stored.image; book = None }

-- the contents of a lock that holds nothing (this project)
abbrev pub nothing_stored : Stored
nothing_stored = record { origin = record { edition = editions.V6; bytes = []; first = 0 }; journal = []; image = []; book = None }

-- the number of the next record (this project)
abbrev pub next_number : Stored → ℕ
next_number stored = stored.origin.first + length stored.journal

-- the bytes of a volume that no call changes are unchanged (this project)
abbrev pub KeepsAround : Stored → Stored → Type 0
KeepsAround old new = StaysAround (geometry_of old.origin.edition old.image) old.image new.image

-- a volume continues another: `gone` are the records cut since then, and the journal starts from the state after them; the bytes that no call changes
-- are unchanged (this project)
pub record Follows (opened : Stored) (gone : List Record) (last : Stored) : Type 0 where
  pub edition : last.origin.edition ≡ opened.origin.edition
  pub first : last.origin.first ≡ opened.origin.first + length gone
  pub starts : start last.origin ≡ after (start opened.origin) gone
  pub begins : BeginsWith (gone ++ last.journal) opened.journal
  pub around : KeepsAround opened last

-- a volume continues another with some cut records; the receipts agree with these records followed by the journal, including receipts given before a
-- cut (this project)
abbrev pub Continues : Stored → Stored → ((Receipt → Type 0) → Type 0) → Type 0
Continues opened last are_true = (gone : List Record) × Follows opened gone last × are_true (Agrees opened.origin (gone ++ last.journal))

-- a volume has the same origin, journal, image and log (this project)
pub record IsUnchanged (old new : Stored) : Type 0 where
  pub origin : new.origin ≡ old.origin
  pub journal : new.journal ≡ old.journal
  pub image : new.image ≡ old.image
  pub book : new.book ≡ old.book

-- a volume's journal was cut: it is empty, and its origin is the image, which reads as the state after the removed records; the image is unchanged
-- (this project)
pub record IsCut (old new : Stored) : Type 0 where
  pub edition : new.origin.edition ≡ old.origin.edition
  pub bytes : new.origin.bytes ≡ old.image
  pub first : new.origin.first ≡ next_number old
  pub starts : start new.origin ≡ after (start old.origin) old.journal
  pub journal : new.journal ≡ []
  pub image : new.image ≡ old.image
  pub book : new.book ≡ old.book
