-- The published part of the volume under the lock.
use Rattle.std.specs.Prelude.{◌≡◌, ◌≢◌, ◌+◌, List, [], ◌++◌, length}
use Rattle.vol_volume.specs.Journal.{after}
use Rattle.vol_volume.specs.declared.calls.Record.{Record}
use Rattle.vol_receipts.specs.Agrees.{start}
use Rattle.vol_views.specs.declared.history.LogEntry.{LogEntry}
use Rattle.vol_views.specs.Logs.{history_of, origin_in}
use Rattle.vol_shared.specs.Stored.{Stored}

-- all records of a volume are published: the log has the records that were cut followed by the journal, and the journal's origin is the state after
-- the cut records (this project)
pub record IsPublished (log : List LogEntry) (stored : Stored) : Type 0 where
  pub gone : List Record
  pub begun : log ≢ []
  pub records : history_of log ≡ gone ++ stored.journal
  pub first : stored.origin.first ≡ (origin_in log).first + length gone
  pub starts : start stored.origin ≡ after (start (origin_in log)) gone
