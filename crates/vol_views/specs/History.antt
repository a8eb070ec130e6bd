-- The parts of a volume's log that threads know.
use Rattle.std.specs.Prelude.{ℕ, List}
use Rattle.logbook.specs.Pages.{Book}
use Rattle.vol_views.specs.declared.history.LogEntry.{LogEntry}

-- a prefix of a log: the log's identity and the entries (this project)
pub record Reached : Type 0 where
  pub book : Book
  pub log : List LogEntry

-- the right to append an entry: the log's identity, and the number of entries before it (this project)
pub record Allowed : Type 0 where
  pub book : Book
  pub at : ℕ
