-- The results of a script's lines, and their effect on its session.
use Rattle.std.specs.Prelude.{◌≡◌, ℕ, ◌≤◌, Bool, List, [], ◌∷◌, ◌++◌, true, false}
use Rattle.vol_receipts.specs.Agrees.{place_of, next_of}
use Rattle.vol_receipts.specs.declared.receipts.Asked.TheVariants as asked
use Rattle.vol_shared.specs.Sessions.{Known}
use Rattle.vol_scripts.specs.declared.played.Played.{Played}
use Rattle.vol_scripts.specs.declared.played.Played.TheVariants as played
use Rattle.vol_scripts.specs.declared.steps.Script.{Script}
use Rattle.vol_scripts.specs.declared.steps.Script.TheVariants as kinds
use Rattle.vol_scripts.specs.declared.steps.ScriptStep.{ScriptStep}
use Rattle.vol_scripts.specs.declared.steps.ScriptStep.TheVariants as steps
use Rattle.vol_volume.specs.Answer.{takes_memory}
use Rattle.vol_volume.specs.declared.queries.Query.{Query}

-- a possible result of a step, given the least number that its receipt or its cut may have: a call or query has a receipt for itself, unless memory
-- runs out, which for a query is possible only if its reply takes memory; a cut always succeeds (this project)
abbrev pub CameOf : ScriptStep → ℕ → Played → Type 0
CameOf (steps.Change call) next (played.Told receipt) = (receipt.asked ≡ asked.Change call) × (next ≤ receipt.at)
CameOf (steps.Question query) next (played.Told receipt) = (receipt.asked ≡ asked.Question query) × (next ≤ receipt.at)
CameOf steps.Cut next (played.Told receipt) = ⊥
CameOf (steps.Change call) next (played.Cut first) = ⊥
CameOf (steps.Question query) next (played.Cut first) = ⊥
CameOf steps.Cut next (played.Cut first) = next ≤ first
CameOf (steps.Change call) next played.NoMemory = Unit {0}
CameOf (steps.Question query) next played.NoMemory = takes_memory query ≡ true
CameOf steps.Cut next played.NoMemory = ⊥
CameOf step next played.NotEntered = ⊥
CameOf step next played.View = ⊥

-- a possible result of a view's query, given the least number that its receipt may have: a receipt for the query, which has no record; or no receipt,
-- if the reply takes memory and memory runs out, or if the published version couldn't be read (this project)
abbrev pub CameOfQuery : Query → ℕ → Played → Type 0
CameOfQuery query next (played.Told receipt) = (receipt.asked ≡ asked.Question query) × (next ≤ receipt.at) × (place_of receipt.at receipt.outcome ≡ [])
CameOfQuery query next (played.Cut first) = ⊥
CameOfQuery query next played.NoMemory = takes_memory query ≡ true
CameOfQuery query next played.NotEntered = Unit {0}
CameOfQuery query next played.View = ⊥

-- the least number that the next receipt or cut may have (this project)
abbrev pub next_after : ℕ → Played → ℕ
next_after next (played.Told receipt) = next_of receipt.at receipt.outcome
next_after next (played.Cut first) = first
next_after next played.NoMemory = next
next_after next played.NotEntered = next
next_after next played.View = next

-- possible results of lines, one after another, given the possible results of each line (this project)
abbrev pub CameInTurn : {A : Type 0} → (A → ℕ → Played → Type 0) → List A → ℕ → List Played → Type 0
CameInTurn came_of [] next [] = Unit {0}
CameInTurn came_of [] next (came ∷ others) = ⊥
CameInTurn came_of (line ∷ lines) next [] = ⊥
CameInTurn came_of (line ∷ lines) next (came ∷ others) = came_of line next came × CameInTurn came_of lines (next_after next came) others

-- possible results of a script for a view: the first result marks it as one (this project)
abbrev pub CameOfView : List Query → ℕ → List Played → Type 0
CameOfView queries next (played.View ∷ others) = CameInTurn CameOfQuery queries next others
CameOfView queries next _ = ⊥

-- true if the first result marks the script as one for a view (this project)
abbrev pub is_seen : List Played → Bool
is_seen (played.View ∷ others) = true
is_seen _ = false

-- possible results of a script's lines (this project)
abbrev pub CameOfScript : Script → ℕ → List Played → Type 0
CameOfScript (kinds.Session steps) next came = CameInTurn CameOf steps next came
CameOfScript (kinds.View queries) next came = CameOfView queries next came

-- the numbers of the records that the calls of a script made, in order (this project)
abbrev pub places_made : List Played → List ℕ
places_made [] = []
places_made (played.Told receipt ∷ others) = place_of receipt.at receipt.outcome ++ places_made others
places_made (played.Cut first ∷ others) = places_made others
places_made (played.NoMemory ∷ others) = places_made others
places_made (played.NotEntered ∷ others) = places_made others
places_made (played.View ∷ others) = places_made others

-- the numbers that the cuts of a script returned, in order (this project)
abbrev pub cuts_made : List Played → List ℕ
cuts_made [] = []
cuts_made (played.Told receipt ∷ others) = cuts_made others
cuts_made (played.Cut first ∷ others) = first ∷ cuts_made others
cuts_made (played.NoMemory ∷ others) = cuts_made others
cuts_made (played.NotEntered ∷ others) = cuts_made others
cuts_made (played.View ∷ others) = cuts_made others

-- a session after a step (this project)
abbrev pub known_after : Known → Played → Known
known_after known (played.Told receipt) = record {
  of = known.of;
  next = next_of receipt.at receipt.outcome;
  places = known.places ++ place_of receipt.at receipt.outcome;
  cuts = known.cuts;
  receipts = known.receipts ++ receipt ∷ [];
}
known_after known (played.Cut first) = record {
  of = known.of;
  next = first;
  places = known.places;
  cuts = known.cuts ++ first ∷ [];
  receipts = known.receipts;
}
known_after known played.NoMemory = known
known_after known played.NotEntered = known
known_after known played.View = known

-- a session after some steps (this project)
abbrev pub known_after_all : Known → List Played → Known
known_after_all known [] = known
known_after_all known (came ∷ others) = known_after_all (known_after known came) others
