-- A view's knowledge and its answers.
use Rattle.std.specs.Prelude.{◌≡◌, List, [], ◌∷◌, ◌++◌, Option, None, Some}
use mathlib.Core.List.{IsPrefix}
use Rattle.logbook.specs.Pages.{Book}
use Rattle.vol_receipts.specs.Agrees.{Agrees}
use Rattle.vol_receipts.specs.declared.receipts.Receipt.{Receipt}
use Rattle.vol_views.specs.History.{Reached}
use Rattle.vol_views.specs.declared.history.LogEntry.{LogEntry}
use Rattle.vol_views.specs.Logs.{history_of, origin_in, number_of}

-- a view: the log's identity, the prefix of it that the view knows, and the receipts that it gave (this project)
pub record Watched : Type 0 where
  pub book : Book
  pub log : List LogEntry
  pub receipts : List Receipt

-- the log `new` extends the log `old`: it has the same origin, and its records begin with all records of `old` (this project)
pub record GoesOn (old new : List LogEntry) : Type 0 where
  pub origin : origin_in new ≡ origin_in old
  pub records : IsPrefix (history_of old) (history_of new)

-- a receipt agrees with the records of a log (this project)
abbrev pub AgreesIn : List LogEntry → Receipt → Type 0
AgreesIn log receipt = Agrees (origin_in log) (history_of log) receipt

-- a view after it gave a receipt: the receipt agrees with the log prefix that the view now knows, and is added to the view's receipts (this project)
pub record Sees (old new : Watched) (receipt : Receipt) : Type 0 where
  pub at : receipt.at ≡ number_of new.log
  pub agrees : AgreesIn new.log receipt
  pub receipts : new.receipts ≡ old.receipts ++ receipt ∷ []

-- a view that has given no receipt yet and knows a whole log (this project)
pub record IsNew (whole : Reached) (view : Watched) : Type 0 where
  pub book : view.book ≡ whole.book
  pub log : view.log ≡ whole.log
  pub receipts : view.receipts ≡ []

-- the identity of the log that was reported, if any (this project)
abbrev pub book_in : Option Reached → Option Book
book_in None = None
book_in (Some reached) = Some reached.book
