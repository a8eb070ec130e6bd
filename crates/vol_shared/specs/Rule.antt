-- The invariant of the lock's table.
use Rattle.std.specs.Prelude.{◌≡◌, ℕ, ◌+◌, ◌<◌, ◌≤◌, List, [], ◌++◌, length, slice_index, max, true, false, if◌then◌else◌, Option, Some, All}
use mathlib.Core.Option.{some}
use lib.ListN.{get_elem?}
use Rattle.atomic_table.specs.Table.{State}
use Rattle.count_table.specs.Sums.{total, below}
use Rattle.vol_volume.specs.declared.calls.Record.{Record}
use Rattle.vol_receipts.specs.Agrees.{Agrees}
use Rattle.vol_shared.specs.Lists.{BeginsWith, greatest, greatest_of}
use Rattle.vol_shared.specs.Stored.{Stored, next_number, Follows}
use Rattle.vol_shared.specs.declared.lock_rule.Knowledge.{Knowledge}
use Rattle.vol_shared.specs.declared.lock_rule.TableStart.{TableStart}

-- 1 for a seat that holds the volume (this project)
abbrev pub hold_of : Knowledge → ℕ
hold_of v = if v.holds then 1 else 0

-- a seat's knowledge is right: the history begins with the records that the seat knows, and its receipts agree with them; a seat that holds the
-- volume knows all records; a seat that represents no session made no record and no cut, and doesn't hold the volume (this project)
pub record SeatFits (opened last : Stored) (history : List Record) (v : Knowledge) : Type 0 where
  pub same : 0 < v.parts → v.opened ≡ opened
  pub prefix : BeginsWith history v.history
  pub agree : All (Agrees opened.origin v.history) v.receipts
  pub mine : v.holds ≡ true → (v.history ≡ history) × (v.found ≡ last)
  pub spent : v.parts ≡ 0 → (v.holds ≡ false) × (v.places ≡ []) × (v.cuts ≡ [])

-- the word is 1 while a seat holds the volume; otherwise the slot contains the volume that was last given back; this volume continues the opened one;
-- the places of all seats are the numbers of the records made since, each once; the journal's first number is the greatest that a cut returned, or
-- the number at the start; the log with the records is the same (this project)
pub record Locked (key : TableStart) (s : State (Option Stored) Knowledge) : Type 0 where
  pub last : Stored
  pub gone : List Record
  pub word : length s.words ≡ 1
  pub one : slice_index s.words 0 ≤ 1
  pub lock : slice_index s.words 0 ≡ total hold_of s.views
  pub home : slice_index s.words 0 ≡ 0 → get_elem? s.homes 0 ≡ some (some (Some last))
  pub follows : Follows key.stock gone last
  pub book : last.book ≡ key.stock.book
  pub parts : total (λ v. v.parts) s.views ≡ key.sessions
  pub places : (weight : ℕ → ℕ) → total (λ v. total weight v.places) s.views + below weight (next_number key.stock) ≡ below weight (next_number last)
  pub first : last.origin.first ≡ max key.stock.origin.first (greatest (λ v. greatest_of v.cuts) s.views)
  pub uncut : total (λ v. length v.cuts) s.views ≡ 0 → last.origin ≡ key.stock.origin
  pub each : (id : ℕ) (v : Knowledge) → get_elem? s.views id ≡ some v → SeatFits key.stock last (gone ++ last.journal) v
