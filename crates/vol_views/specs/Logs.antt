-- The records of a log, their origin, and the number of the next record.
use Rattle.std.specs.Prelude.{ℕ, ◌+◌, List, [], ◌∷◌, ◌++◌, length}
use Rattle.vol_layout.specs.declared.edition.Edition.TheVariants as editions
use Rattle.vol_volume.specs.declared.calls.Record.{Record}
use Rattle.vol_receipts.specs.declared.receipts.Origin.{Origin}
use Rattle.vol_views.specs.declared.history.LogEntry.{LogEntry}
use Rattle.vol_views.specs.declared.history.LogEntry.TheVariants.{Opened, Made}

-- the records of a log: the journal of the volume that was opened, then the records made since (this project)
abbrev pub history_of : List LogEntry → List Record
history_of [] = []
history_of (Opened origin journal ∷ log) = journal ++ history_of log
history_of (Made entry ∷ log) = entry ∷ history_of log

-- the origin of a log's records, from its first entry (this project)
abbrev pub origin_in : List LogEntry → Origin
origin_in [] = record { edition = editions.V6; bytes = []; first = 0 }
origin_in (Opened origin journal ∷ log) = origin
origin_in (Made entry ∷ log) = record { edition = editions.V6; bytes = []; first = 0 }

-- the number of the next record (this project)
abbrev pub number_of : List LogEntry → ℕ
number_of log = (origin_in log).first + length (history_of log)
