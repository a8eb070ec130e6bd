-- The results of a view's queries.
use Rattle.std.proofs.Common.{◌≡◌, ℕ, ◌≤◌, ◌-◌, List, [], ◌∷◌, true, refl, subst, arith}
use Rattle.vol_views.specs.declared.history.LogEntry.{LogEntry}
use Rattle.vol_views.specs.Logs.{history_of, origin_in}
use Rattle.vol_receipts.specs.Agrees.{AgreesAfter, next_of, place_of}
use Rattle.vol_receipts.specs.declared.receipts.Asked.{Asked}
use Rattle.vol_receipts.specs.declared.receipts.Asked.TheVariants.{Question}
use Rattle.vol_receipts.specs.declared.receipts.Origin.{Origin}
use Rattle.vol_receipts.specs.declared.receipts.Outcome.{Outcome}
use Rattle.vol_receipts.specs.declared.receipts.Outcome.TheVariants.{Accepted, Refused, Answered}
use Rattle.vol_receipts.specs.declared.receipts.Receipt.{Receipt}
use Rattle.vol_scripts.specs.declared.played.Played.{Played}
use Rattle.vol_scripts.specs.declared.played.Played.TheVariants as played
use Rattle.vol_views.specs.Views.{AgreesIn}
use Rattle.vol_volume.specs.declared.calls.Record.{Record}
use Rattle.vol_volume.specs.declared.queries.Query.{Query}
use Rattle.vol_play.specs.Steps.{CameInTurn, CameOfQuery, CameOfView, is_seen, cuts_made, next_after, places_made}

-- the receipt of a query has no record
question_after : (origin : Origin) (journal : List Record) (count : ℕ) (query : Query) (at : ℕ) (outcome : Outcome)
    → AgreesAfter origin journal count (Question query) outcome → place_of at outcome ≡ []
question_after origin journal count query at (Accepted done) agrees = absurd agrees.1
question_after origin journal count query at (Refused refusal) agrees = refl
question_after origin journal count query at (Answered reply) agrees = refl

pub question_place : (log : List LogEntry) (receipt : Receipt) (query : Query) → receipt.asked ≡ Question query → AgreesIn log receipt
    → place_of receipt.at receipt.outcome ≡ []
question_place log receipt query is agrees =
    let count = receipt.at - (origin_in log).first in
    question_after (origin_in log) (history_of log) count query receipt.at receipt.outcome
    (subst (λ (asked : Asked). AgreesAfter (origin_in log) (history_of log) count asked receipt.outcome) is agrees.1)

-- if a receipt has no record, the next receipt may have the same number
pub question_next : (at : ℕ) (outcome : Outcome) → place_of at outcome ≡ [] → next_of at outcome ≡ at
question_next at (Accepted done) none = absurd (let e = none in cc)
question_next at (Refused refusal) none = refl
question_next at (Answered reply) none = refl

-- a possible result for a least number is also possible for a smaller one
query_less : (query : Query) (less next : ℕ) (came : Played) → less ≤ next → CameOfQuery query next came → CameOfQuery query less came
query_less query less next (played.Told receipt) below one = (one.0, let least = one.1 in omega arith, one.2)
query_less query less next (played.Cut first) below one = absurd one
query_less query less next played.NoMemory below one = one
query_less query less next played.NotEntered below one = tt
query_less query less next played.View below one = absurd one

after_less : (less next : ℕ) (came : Played) → less ≤ next → next_after less came ≤ next_after next came
after_less less next (played.Told receipt) below = omega arith
after_less less next (played.Cut first) below = omega arith
after_less less next played.NoMemory below = below
after_less less next played.NotEntered below = below
after_less less next played.View below = below

pub in_turn_less : (queries : List Query) (less next : ℕ) (came : List Played) → less ≤ next
    → CameInTurn CameOfQuery queries next came → CameInTurn CameOfQuery queries less came
in_turn_less [] less next [] below all = tt
in_turn_less [] less next (c ∷ cs) below all = absurd all
in_turn_less (q ∷ qs) less next [] below all = absurd all
in_turn_less (q ∷ qs) less next (c ∷ cs) below all =
    (query_less q less next c below all.0, in_turn_less qs (next_after less c) (next_after next c) cs (after_less less next c below) all.1)

-- the queries of a view make no records
pub queries_places : (queries : List Query) (next : ℕ) (came : List Played) → CameInTurn CameOfQuery queries next came → places_made came ≡ []
queries_places [] next [] all = refl
queries_places [] next (c ∷ cs) all = absurd all
queries_places (q ∷ qs) next [] all = absurd all
queries_places (q ∷ qs) next (played.Told receipt ∷ cs) all = rw (all.0.2, queries_places qs _ cs all.1) refl
queries_places (q ∷ qs) next (played.Cut first ∷ cs) all = absurd all.0
queries_places (q ∷ qs) next (played.NoMemory ∷ cs) all = queries_places qs _ cs all.1
queries_places (q ∷ qs) next (played.NotEntered ∷ cs) all = queries_places qs _ cs all.1
queries_places (q ∷ qs) next (played.View ∷ cs) all = absurd all.0

-- the queries of a view make no cuts
pub queries_cuts : (queries : List Query) (next : ℕ) (came : List Played) → CameInTurn CameOfQuery queries next came → cuts_made came ≡ []
queries_cuts [] next [] all = refl
queries_cuts [] next (c ∷ cs) all = absurd all
queries_cuts (q ∷ qs) next [] all = absurd all
queries_cuts (q ∷ qs) next (played.Told receipt ∷ cs) all = queries_cuts qs _ cs all.1
queries_cuts (q ∷ qs) next (played.Cut first ∷ cs) all = absurd all.0
queries_cuts (q ∷ qs) next (played.NoMemory ∷ cs) all = queries_cuts qs _ cs all.1
queries_cuts (q ∷ qs) next (played.NotEntered ∷ cs) all = queries_cuts qs _ cs all.1
queries_cuts (q ∷ qs) next (played.View ∷ cs) all = absurd all.0

pub view_places : (queries : List Query) (next : ℕ) (came : List Played) → CameOfView queries next came → places_made came ≡ []
view_places queries next [] all = absurd all
view_places queries next (played.Told receipt ∷ others) all = absurd all
view_places queries next (played.Cut first ∷ others) all = absurd all
view_places queries next (played.NoMemory ∷ others) all = absurd all
view_places queries next (played.NotEntered ∷ others) all = absurd all
view_places queries next (played.View ∷ others) all = queries_places queries next others all

pub view_cuts : (queries : List Query) (next : ℕ) (came : List Played) → CameOfView queries next came → cuts_made came ≡ []
view_cuts queries next [] all = absurd all
view_cuts queries next (played.Told receipt ∷ others) all = absurd all
view_cuts queries next (played.Cut first ∷ others) all = absurd all
view_cuts queries next (played.NoMemory ∷ others) all = absurd all
view_cuts queries next (played.NotEntered ∷ others) all = absurd all
view_cuts queries next (played.View ∷ others) all = queries_cuts queries next others all

-- the results of a script for a view begin with the mark of a view
pub view_seen : (queries : List Query) (next : ℕ) (came : List Played) → CameOfView queries next came → is_seen came ≡ true
view_seen queries next [] all = absurd all
view_seen queries next (played.Told receipt ∷ others) all = absurd all
view_seen queries next (played.Cut first ∷ others) all = absurd all
view_seen queries next (played.NoMemory ∷ others) all = absurd all
view_seen queries next (played.NotEntered ∷ others) all = absurd all
view_seen queries next (played.View ∷ others) all = refl
