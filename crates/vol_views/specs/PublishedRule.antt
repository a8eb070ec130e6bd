-- The invariant of the published version and its readers.
use Rattle.std.specs.Prelude.{◌≡◌, ◌≢◌, ◌⊎◌, ℕ, List, [], fold}
use mathlib.Core.List.{IsPrefix}
use mathlib.Core.Option.{some}
use lib.ListN.{get_elem?}
use Rattle.vol_volume.specs.Journal.{after}
use Rattle.vol_receipts.specs.Agrees.{start}
use Rattle.vol_views.specs.History.{Reached}
use Rattle.vol_views.specs.States.{state_of}
use Rattle.vol_views.specs.Logs.{history_of, origin_in, number_of}
use Rattle.vol_views.specs.Absorb.{absorbed}
use Rattle.vol_views.specs.declared.published.Published.{Published}
use Rattle.vol_views.specs.declared.published.Operation.{Operation}

-- a published version is consistent with its log prefix: the prefix isn't empty, the version was made by its entries, these make the state after its
-- records, and the version's number is the number of the next record (this project)
pub record IsRight (p : Published) : Type 0 where
  pub begun : p.prefix.log ≢ []
  pub version : p.version ≡ p.prefix.log
  pub at : p.at ≡ number_of p.prefix.log
  pub reads : state_of p.prefix.log ≡ after (start (origin_in p.prefix.log)) (history_of p.prefix.log)

-- an empty log prefix, for a reader that knows no log (this project)
abbrev pub nothing_reached : Reached
nothing_reached = record { book = record { number = 0; log_name = 0; cells_name = 0 }; log = [] }

-- a log prefix is empty, or a prefix of another one of the same log (this project)
abbrev pub Begins : Reached → Reached → Type 0
Begins prefix whole = (prefix.log ≡ []) ⊎ ((prefix.book ≡ whole.book) × IsPrefix prefix.log whole.log)

-- the published version is consistent with its log prefix, which extends each prefix that a reader knows (this project)
abbrev pub Holds : Published → List Reached → Type 0
Holds p known = IsRight p × ((seat : ℕ) (prefix : Reached) → get_elem? known seat ≡ some prefix → Begins prefix p.prefix)

-- the version that a reader entered is consistent with its log prefix; this prefix extends the one that the reader knew before, and the reader knows
-- it from now on (this project)
abbrev pub Enters : Reached → Published → Published → Reached → Type 0
Enters before entered same after = IsRight entered × Begins before entered.prefix × (after ≡ entered.prefix)

-- the version that the operations make may be shown: it is consistent with its log prefix, which extends the log prefix of the version shown now
-- (this project)
pub record MayShow (shown : Published) (operations : List Operation) : Type 0 where
  pub right : IsRight (fold absorbed shown operations)
  pub book : shown.prefix.book ≡ (fold absorbed shown operations).prefix.book
  pub goes_on : IsPrefix shown.prefix.log (fold absorbed shown operations).prefix.log
