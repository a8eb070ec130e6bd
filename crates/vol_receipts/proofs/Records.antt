-- Replaying records.
use Rattle.std.proofs.Common.{◌≡◌, ℕ, zero, suc, ◌+◌, ◌-◌, List, [], ◌∷◌, ◌++◌, length, take, refl, ap, sym, subst, ◌∙◌, arith}
use Rattle.std.specs.Prelude.{Some}
use Rattle.std.specs.List.{slice_get}
use Rattle.std.proofs.lemmas.List.{take_more}
use Rattle.std.proofs.lemmas.Option.{get_or_from_slice_get, slice_get_within}
use Rattle.std.proofs.Math.Seq.{take-length}
use Rattle.vol_dir.specs.Tree.{State}
use Rattle.vol_volume.specs.Journal.{after, IsLegal, MayFollow}
use Rattle.vol_volume.specs.Step.{step}
use Rattle.vol_volume.specs.Volume.{Mounted, reads_as, IsConsistent, Accepts}
use Rattle.vol_volume.specs.declared.calls.Call.{Call}
use Rattle.vol_volume.specs.declared.calls.Done.{Done}
use Rattle.vol_volume.specs.declared.calls.Record.{Record}
use Rattle.vol_receipts.specs.Agrees.{origin_of, start, state_after, IsAnswer, AgreesAfter, Agrees}
use Rattle.vol_receipts.specs.Replay.{HasFirst}
use Rattle.vol_receipts.specs.declared.receipts.Asked.{Asked}
use Rattle.vol_receipts.specs.declared.receipts.Asked.TheVariants.{Change}
use Rattle.vol_receipts.specs.declared.receipts.Outcome.{Outcome}
use Rattle.vol_receipts.specs.declared.receipts.Outcome.TheVariants.{Accepted}

-- a volume with the first `count` records of another reads as the state after these records
pub reads_first : (volume again : Mounted) (count : ℕ) → IsConsistent again → HasFirst volume again count
    → reads_as again.edition again.image ≡ state_after (origin_of volume) volume.journal count
reads_first volume again count keeps has =
    keeps.reads ∙ (λ j. after (reads_as (has.edition j) (has.base j)) (has.journal j))

-- a volume reads as the state after all records of its journal
pub reads_all : (volume : Mounted) → IsConsistent volume
    → state_after (origin_of volume) volume.journal (length volume.journal) ≡ reads_as volume.edition volume.image
reads_all volume keeps = ap (after (start (origin_of volume))) (take-length volume.journal) ∙ sym keeps.reads

-- each record of a legal journal may come next after the records before it
pub legal_at : (state : State) (journal : List Record) (k : ℕ) (entry : Record) → IsLegal state journal → slice_get journal k ≡ Some entry
    → MayFollow (after state (take k journal)) entry
legal_at state [] k entry legal at = absurd cc
legal_at state (next ∷ rest) zero entry legal at = let same : next ≡ entry = cc in subst (MayFollow state) same legal.0
legal_at state (next ∷ rest) (suc k) entry legal at = legal_at (step state next.call next.done) rest k entry legal.1 at

-- the element appended to a list is at the index of its old length
last : {X : Type 0} (xs : List X) (x : X) → slice_get (xs ++ x ∷ []) (length xs) ≡ Some x
last [] x = refl
last (y ∷ xs) x = last xs x

-- the record of an accepted call is in the journal at its number
pub get_accepted : (old new : Mounted) (call asked : Call) (done : Done) (at : ℕ) → at ≡ old.first + length old.journal → asked ≡ call
    → Accepts old new call done
    → slice_get new.journal (at - new.first) ≡ Some (record { call = asked; done = done })
get_accepted old new call asked done at next same accepts =
    let place : at - new.first ≡ length old.journal = omega (arith, accepts.first) in
    let entry : Record = record { call = call; done = done } in
    ap (slice_get new.journal) place ∙ ap (λ records. slice_get records (length old.journal)) accepts.journal
    ∙ last old.journal entry
    ∙ ap (λ c. Some (record { call = c; done = done })) (sym same)

-- a volume with the first `k` records of another may replay record `k`
pub may_follow : (volume made : Mounted) (k : ℕ) (entry : Record) → IsConsistent volume → IsConsistent made → HasFirst volume made k
    → slice_get volume.journal k ≡ Some entry
    → MayFollow (reads_as made.edition made.image) entry
may_follow volume made k entry whole part has at =
    subst (λ state. MayFollow state entry) (sym (reads_first volume made k part has))
    (legal_at (start (origin_of volume)) volume.journal k entry whole.legal at)

-- after replaying record `k`, a volume has the first `k` + 1 records
pub has_more : (volume old new : Mounted) (k : ℕ) (entry : Record) → HasFirst volume old k → slice_get volume.journal k ≡ Some entry
    → Accepts old new entry.call entry.done
    → HasFirst volume new (k + 1)
has_more volume old new k entry has at accepts = record {
  edition = accepts.edition ∙ has.edition;
  base = accepts.base ∙ has.base;
  journal = accepts.journal ∙ ap (λ records. records ++ entry ∷ []) has.journal
      ∙ ap (λ next. take k volume.journal ++ next ∷ []) (sym (get_or_from_slice_get volume.journal k entry entry at))
      ∙ sym (take_more volume.journal k entry (slice_get_within volume.journal k entry at));
}

-- an outcome that is right in the present state of a volume agrees with its whole journal
pub agrees_last : (volume : Mounted) (asked : Asked) (outcome : Outcome) → IsConsistent volume
    → IsAnswer (reads_as volume.edition volume.image) asked outcome
    → AgreesAfter (origin_of volume) volume.journal (length volume.journal) asked outcome
agrees_last volume (Change call) (Accepted done) keeps answer = absurd answer
agrees_last volume asked outcome keeps answer =
    (omega arith, subst (λ state. IsAnswer state asked outcome) (sym (reads_all volume keeps)) answer)

-- the receipt of an outcome that is right in the present state of a volume agrees with its journal
pub agrees_told : (volume : Mounted) (at : ℕ) (asked : Asked) (outcome : Outcome) → IsConsistent volume
    → at ≡ volume.first + length volume.journal
    → IsAnswer (reads_as volume.edition volume.image) asked outcome
    → Agrees (origin_of volume) volume.journal (record { at = at; asked = asked; outcome = outcome })
agrees_told volume at asked outcome keeps next answer =
    let count : length volume.journal ≡ at - volume.first = omega arith in (
      omega arith,
      subst (λ k. AgreesAfter (origin_of volume) volume.journal k asked outcome) count (agrees_last volume asked outcome keeps answer),
    )
