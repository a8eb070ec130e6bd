-- The agreement of a receipt with a journal.
use Rattle.std.specs.Prelude.{◌≡◌, ℕ, ◌+◌, ◌-◌, ◌≤◌, List, [], ◌∷◌, length, take, Some, Ok, Err}
use Rattle.std.specs.List.{slice_get}
use Rattle.vol_dir.specs.Tree.{State}
use Rattle.vol_volume.specs.Answer.{answer}
use Rattle.vol_volume.specs.Journal.{after}
use Rattle.vol_volume.specs.Verdict.{verdict}
use Rattle.vol_volume.specs.Volume.{Mounted, reads_as}
use Rattle.vol_volume.specs.declared.calls.Record.{Record}
use Rattle.vol_receipts.specs.declared.receipts.Asked.{Asked}
use Rattle.vol_receipts.specs.declared.receipts.Asked.TheVariants.{Change, Question}
use Rattle.vol_receipts.specs.declared.receipts.Outcome.{Outcome}
use Rattle.vol_receipts.specs.declared.receipts.Outcome.TheVariants.{Accepted, Refused, Answered}
use Rattle.vol_receipts.specs.declared.receipts.Origin.{Origin}
use Rattle.vol_receipts.specs.declared.receipts.Receipt.{Receipt}

-- the start of a volume's journal (this project)
abbrev pub origin_of : Mounted → Origin
origin_of volume = record { edition = volume.edition; bytes = volume.base; first = volume.first }

-- the state at a journal's start (this project)
abbrev pub start : Origin → State
start origin = reads_as origin.edition origin.bytes

-- the state after the first `count` records of a journal (this project)
abbrev pub state_after : Origin → List Record → ℕ → State
state_after origin journal count = after (start origin) (take count journal)

-- an outcome other than an accepted call is right in a state: it is the verdict on a call, or the answer to a query (this project)
abbrev pub IsAnswer : State → Asked → Outcome → Type 0
IsAnswer state (Change call) (Refused refusal) = verdict state call ≡ Some refusal
IsAnswer state (Question query) (Refused refusal) = answer state.tree query ≡ Err refusal
IsAnswer state (Question query) (Answered reply) = answer state.tree query ≡ Ok reply
IsAnswer state (Change call) (Accepted done) = ⊥
IsAnswer state (Change call) (Answered reply) = ⊥
IsAnswer state (Question query) (Accepted done) = ⊥

-- an outcome agrees with the first `count` records of a journal: an accepted call is the next record, with its result; any other outcome is right in
-- the state after these records, and the journal has at least `count` records (this project)
abbrev pub AgreesAfter : Origin → List Record → ℕ → Asked → Outcome → Type 0
AgreesAfter origin journal count (Change call) (Accepted done) = slice_get journal count ≡ Some (record { call = call; done = done })
AgreesAfter origin journal count asked outcome =
    (count ≤ length journal) × IsAnswer (state_after origin journal count) asked outcome

-- a receipt agrees with a journal whose first record has the origin's number (this project)
abbrev pub Agrees : Origin → List Record → Receipt → Type 0
Agrees origin journal receipt =
    (origin.first ≤ receipt.at) × AgreesAfter origin journal (receipt.at - origin.first) receipt.asked receipt.outcome

-- the number of the record that a call made, if it was accepted (this project)
abbrev pub place_of : ℕ → Outcome → List ℕ
place_of at (Accepted done) = at ∷ []
place_of at (Refused refusal) = []
place_of at (Answered reply) = []

-- the least number that the next receipt may have (this project)
abbrev pub next_of : ℕ → Outcome → ℕ
next_of at (Accepted done) = at + 1
next_of at (Refused refusal) = at
next_of at (Answered reply) = at

-- the record of a call, if it was accepted (this project)
abbrev pub record_of : Asked → Outcome → List Record
record_of (Change call) (Accepted done) = record { call = call; done = done } ∷ []
record_of _ _ = []
