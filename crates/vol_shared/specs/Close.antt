-- The lock of a shared volume, and its state once one seat represents all sessions.
use Rattle.std.specs.Prelude.{◌≡◌, ℕ, ◌+◌, ◌≤◌, List, length, max, false, All}
use Rattle.std.specs.List.{flat_map}
use Rattle.atomic_table.specs.Seated.{TableId}
use Rattle.count_table.specs.Sums.{total, below}
use Rattle.vol_shared.specs.Lists.{greatest_of}
use Rattle.vol_shared.specs.Sessions.{Known}
use Rattle.vol_shared.specs.Stored.{Stored, next_number, Continues}
use Rattle.vol_shared.specs.declared.lock_rule.Knowledge.{Knowledge}
use Rattle.vol_shared.specs.declared.lock_rule.TableStart.{TableStart}

-- the table has one word and one slot, and was made for this number of sessions of a volume whose next record has number `records` (this project)
pub record IsLock (table : TableId) (key : TableStart) (records : ℕ) : Type 0 where
  pub words : table.words ≡ 1
  pub slots : table.slots ≡ 1
  pub some_sessions : 1 ≤ key.sessions
  pub counted : records ≡ next_number key.stock

-- a seat represents all these sessions: it made their calls, queries and cuts (this project)
pub record IsGathered (sessions : List Known) (v : Knowledge) : Type 0 where
  pub parts : v.parts ≡ length sessions
  pub free : v.holds ≡ false
  pub places : v.places ≡ flat_map (λ s. s.places) sessions
  pub cuts : v.cuts ≡ flat_map (λ s. s.cuts) sessions
  pub receipts : v.receipts ≡ flat_map (λ s. s.receipts) sessions

-- the volume at the end, given the knowledge `v` of the seat that represents all sessions: the volume continues the opened one by records with which
-- the seat's receipts agree; the seat's places are the numbers of the records made since, each once; the journal's first number is the greatest that
-- the seat's cuts returned, or the number at the start (this project)
pub record IsSettled (opened : Stored) (v : Knowledge) (last : Stored) : Type 0 where
  pub goes_on : Continues opened last (λ agrees. All agrees v.receipts)
  pub places : (weight : ℕ → ℕ) → total weight v.places + below weight (next_number opened) ≡ below weight (next_number last)
  pub first : last.origin.first ≡ max opened.origin.first (greatest_of v.cuts)
  pub uncut : length v.cuts ≡ 0 → last.origin ≡ opened.origin
