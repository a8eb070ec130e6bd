-- The findings on many receipts.
use Rattle.std.specs.Prelude.{◌≡◌, ℕ, ◌<◌, ◌≤◌, Bool, true, false, List, length, Some}
use Rattle.std.specs.List.{slice_get, count_by, All, Contains}
use Rattle.std.specs.List.Sorted.{IsNonDecreasingBy}
use Rattle.vol_volume.specs.declared.calls.Record.{Record}
use Rattle.vol_receipts.specs.Agrees.{Agrees}
use Rattle.vol_receipts.specs.declared.receipts.Origin.{Origin}
use Rattle.vol_receipts.specs.declared.receipts.Receipt.{Receipt}
use Rattle.vol_receipts.specs.declared.confirm_many.Confirmed.{Confirmed}
use Rattle.vol_receipts.specs.declared.confirm_many.ReceiptStatus.{ReceiptStatus}
use Rattle.vol_receipts.specs.declared.confirm_many.ReceiptStatus.TheVariants as kinds
use Rattle.vol_receipts.specs.declared.confirm_many.Numbered.{Numbered}

-- the finding on a receipt is right: the receipt agrees with the journal, it doesn't agree, or its record was cut (this project)
abbrev pub IsFound : Origin → List Record → Receipt → ReceiptStatus → Type 0
IsFound origin journal receipt kinds.Agrees = Agrees origin journal receipt
IsFound origin journal receipt kinds.Differs = (origin.first ≤ receipt.at) × (Agrees origin journal receipt → ⊥)
IsFound origin journal receipt kinds.Gone = receipt.at < origin.first

-- the findings are right, in the order of the receipts (this project)
pub record AreFound (origin : Origin) (journal : List Record) (receipts : List Receipt) (findings : List ReceiptStatus) : Type 0 where
  pub len : length findings ≡ length receipts
  pub each : (k : ℕ) (receipt : Receipt) (finding : ReceiptStatus)
      → slice_get receipts k ≡ Some receipt
      → slice_get findings k ≡ Some finding
      → IsFound origin journal receipt finding

-- a number and an index belong to one of the receipts (this project)
abbrev pub IsNumberOf : List Receipt → Numbered → Type 0
IsNumberOf receipts numbered =
    (receipt : Receipt) × (slice_get receipts numbered.index ≡ Some receipt) × (numbered.at ≡ receipt.at)

-- the numbers of all receipts in ascending order, each with its receipt's index (this project)
pub record IsInOrder (receipts : List Receipt) (order : List Numbered) : Type 0 where
  pub ascending : IsNonDecreasingBy (λ numbered. numbered.at) order
  pub right : All (IsNumberOf receipts) order
  pub whole : (k : ℕ) (receipt : Receipt) → slice_get receipts k ≡ Some receipt → Contains order (record { at = receipt.at; index = k })

-- true if a receipt was found to agree (this project)
abbrev pub is_agreeing : ReceiptStatus → Bool
is_agreeing kinds.Agrees = true
is_agreeing kinds.Differs = false
is_agreeing kinds.Gone = false

-- true if a receipt's record was found to be cut (this project)
abbrev pub is_gone : ReceiptStatus → Bool
is_gone kinds.Agrees = false
is_gone kinds.Differs = false
is_gone kinds.Gone = true

-- the number of receipts that agree, and the number of receipts whose records were cut (this project)
pub record AreCounted (origin : Origin) (journal : List Record) (receipts : List Receipt) (confirmed : Confirmed) : Type 0 where
  pub findings : List ReceiptStatus
  pub found : AreFound origin journal receipts findings
  pub agree : confirmed.agree ≡ count_by is_agreeing findings
  pub gone : confirmed.gone ≡ count_by is_gone findings
