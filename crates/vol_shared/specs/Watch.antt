-- The knowledge that views have of the volume under the lock.
use Rattle.std.specs.Prelude.{◌≡◌, ◌+◌, List, [], ◌++◌, length, All, Some}
use mathlib.Core.List.{IsPrefix}
use Rattle.vol_volume.specs.Journal.{after}
use Rattle.vol_volume.specs.declared.calls.Record.{Record}
use Rattle.vol_receipts.specs.Agrees.{start, Agrees}
use Rattle.vol_views.specs.declared.history.LogEntry.{LogEntry}
use Rattle.vol_views.specs.Logs.{history_of, origin_in}
use Rattle.vol_views.specs.Views.{Watched, GoesOn, AgreesIn}
use Rattle.vol_shared.specs.Stored.{Stored}

-- a view of a shared volume that was just opened: it knows all the volume's records, and has given no receipt yet (this project)
pub record IsNewView (opened : Stored) (view : Watched) : Type 0 where
  pub own : opened.book ≡ Some view.book
  pub origin : origin_in view.log ≡ opened.origin
  pub records : history_of view.log ≡ opened.journal
  pub receipts : view.receipts ≡ []

-- a log extends the prefix that a view knows, and the view's receipts agree with this prefix (this project)
pub record IsBehind (log : List LogEntry) (view : Watched) : Type 0 where
  pub goes_on : GoesOn view.log log
  pub agree : All (AgreesIn view.log) view.receipts

-- a volume covers a view's knowledge: the records cut since the log began, followed by the journal, extend the records that the view knows, and all
-- receipts of the view agree with them (this project)
pub record Covers (last : Stored) (view : Watched) : Type 0 where
  pub gone : List Record
  pub first : last.origin.first ≡ (origin_in view.log).first + length gone
  pub starts : start last.origin ≡ after (start (origin_in view.log)) gone
  pub prefix : IsPrefix (history_of view.log) (gone ++ last.journal)
  pub agree : All (Agrees (origin_in view.log) (gone ++ last.journal)) view.receipts
