-- The effect of each step on a seat's knowledge.
use Rattle.std.specs.Prelude.{◌≡◌, ◌≢◌, ℕ, ◌+◌, ◌-◌, ◌≤◌, List, [], ◌∷◌, ◌++◌, length, true, false, Option, Some}
use Rattle.atomic_table.specs.Table.{Me, Step}
use Rattle.vol_volume.specs.declared.calls.Record.{Record}
use Rattle.vol_receipts.specs.Agrees.{Agrees, place_of, record_of}
use Rattle.vol_receipts.specs.declared.receipts.Receipt.{Receipt}
use Rattle.vol_shared.specs.Lists.{BeginsWith, longer}
use Rattle.vol_shared.specs.Stored.{Stored, nothing_stored, next_number, KeepsAround, Follows, IsUnchanged, IsCut}
use Rattle.vol_shared.specs.declared.lock_rule.Knowledge.{Knowledge}
use Rattle.vol_shared.specs.declared.lock_rule.TableStart.{TableStart}

-- the event for which a volume is given back: nothing, a receipt, or a cut of its journal (this project)
pub data Event : Type 0 where
  nothing : Event
  receipt : Receipt → Event
  cut : Event

-- a seat that represents this number of sessions of a volume just opened (this project)
abbrev pub fresh : ℕ → Stored → Knowledge
fresh parts opened = record {
  parts = parts;
  holds = false;
  opened = opened;
  found = opened;
  history = opened.journal;
  places = [];
  cuts = [];
  receipts = [];
}

-- the first seat represents all sessions (this project)
abbrev pub first_knowledge : TableStart → Knowledge
first_knowledge key = fresh key.sessions key.stock

-- a seat that represents no session (this project)
abbrev pub nobody : Knowledge
nobody = fresh 0 nothing_stored

-- the rest of a seat from which one session was split off (this project)
abbrev pub kept_part : Knowledge → Knowledge
kept_part v = record v { parts = v.parts - 1 }

-- the seat of the session that was split off (this project)
abbrev pub given_part : Knowledge → Knowledge
given_part v = fresh 1 v.opened

-- two seats joined (this project)
abbrev pub as_one : Knowledge → Knowledge → Knowledge
as_one v w = record {
  parts = v.parts + w.parts;
  holds = false;
  opened = v.opened;
  found = v.found;
  history = longer v.history w.history;
  places = w.places ++ v.places;
  cuts = w.cuts ++ v.cuts;
  receipts = w.receipts ++ v.receipts;
}

-- a seat after it took the volume; its history has all records of the volume, including records that were cut (this project)
abbrev pub took : Knowledge → Stored → List Record → Knowledge
took v found history = record v { holds = true; found = found; history = history }

-- a seat after it gave the volume back (this project)
abbrev pub gave : Knowledge → Stored → Event → Knowledge
gave v given nothing = record v { holds = false; found = given }
gave v given (receipt r) = record v {
  holds = false;
  found = given;
  history = v.history ++ record_of r.asked r.outcome;
  places = v.places ++ place_of r.at r.outcome;
  receipts = v.receipts ++ r ∷ [];
}
gave v given cut = record v { holds = false; found = given; cuts = v.cuts ++ given.origin.first ∷ [] }

-- the volume that a seat finds continues the opened one and extends the records that the seat knew, has a record for each of the seat's places, and
-- is published in the same log (this project)
pub record FindsVolume (v : Knowledge) (gone : List Record) (found : Stored) : Type 0 where
  pub follows : Follows v.opened gone found
  pub goes_on : BeginsWith (gone ++ found.journal) v.history
  pub counted : length v.places ≤ next_number found
  pub book : found.book ≡ v.opened.book

-- the volume was taken, and the slot now contains `left` (this project)
abbrev pub Took : Me (Option Stored) Knowledge → Me (Option Stored) Knowledge → Stored → Option Stored → Type 0
Took before after found left =
    (gone : List Record) × FindsVolume before.0 gone found × (after ≡ (took before.0 found (gone ++ found.journal), (0, left) ∷ []))

-- the word was 0 and the volume was taken, or it was not 0 and nothing changed (this project)
abbrev pub Tries : Step (Option Stored) → Me (Option Stored) Knowledge → ℕ → Me (Option Stored) Knowledge → Type 0
Tries st before found after =
    (found ≡ 0 → (stored : Stored) × Took before after stored (Some stored)) × (found ≢ 0 → after ≡ before)

-- a call or query was answered on a volume: the receipt agrees with its journal, to which an accepted call added its record; after any other outcome
-- the journal and the image are unchanged; the bytes that no call changes and the log are unchanged (this project)
pub record IsAnswered (found given : Stored) (r : Receipt) : Type 0 where
  pub origin : given.origin ≡ found.origin
  pub journal : given.journal ≡ found.journal ++ record_of r.asked r.outcome
  pub image : record_of r.asked r.outcome ≡ [] → given.image ≡ found.image
  pub around : KeepsAround found given
  pub at : r.at ≡ next_number found
  pub agrees : Agrees given.origin given.journal r
  pub book : given.book ≡ found.book

-- the ways to give back a volume: with the same journal, with at most one more record, or with its journal cut (this project)
abbrev pub MayGive : Stored → Stored → Event → Type 0
MayGive found given nothing = IsUnchanged found given
MayGive found given (receipt r) = IsAnswered found given r
MayGive found given cut = IsCut found given

-- the volume was given back, with this event (this project)
abbrev pub Gives : Event → Step (Option Stored) → Me (Option Stored) Knowledge → ℕ → Me (Option Stored) Knowledge → Type 0
Gives event st before found after =
    (given : Stored) → before.1 ≡ (0, Some given) ∷ [] → after ≡ (gave before.0 given event, [])
