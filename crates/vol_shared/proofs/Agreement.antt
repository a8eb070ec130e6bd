-- A receipt that agrees with a journal also agrees with the cut records followed by the journal.
use Rattle.std.proofs.Common.{◌≡◌, ℕ, ◌+◌, ◌-◌, List, [], ◌++◌, length, take, ap, sym, subst, ◌∙◌, arith, length-append}
use Rattle.std.proofs.Math.Seq.{take-append-add}
use Rattle.count_table.specs.Sums.{total, below}
use Rattle.count_table.proofs.Totals.{total_nil, total_cons, below_more}
use Rattle.vol_volume.specs.Journal.{after}
use Rattle.vol_volume.specs.declared.calls.Record.{Record}
use Rattle.vol_volume.proofs.Journals.{after-append}
use Rattle.vol_receipts.proofs.Agreement.{get_behind}
use Rattle.vol_receipts.specs.Agrees.{start, state_after, IsAnswer, AgreesAfter, Agrees, place_of, record_of}
use Rattle.vol_receipts.specs.declared.receipts.Asked.{Asked}
use Rattle.vol_receipts.specs.declared.receipts.Asked.TheVariants.{Change, Question}
use Rattle.vol_receipts.specs.declared.receipts.Outcome.{Outcome}
use Rattle.vol_receipts.specs.declared.receipts.Outcome.TheVariants.{Accepted, Refused, Answered}
use Rattle.vol_receipts.specs.declared.receipts.Receipt.{Receipt}
use Rattle.vol_shared.specs.Stored.{Stored, Follows}

module _ (opened : Stored) (gone : List Record) (found : Stored) (follows : Follows opened gone found) (journal : List Record) where
  -- the state after `m` records of the journal is the state after the cut records and these `m` records, from the opened volume's start
  states : (k m : ℕ) → k ≡ length gone + m → state_after found.origin journal m ≡ state_after opened.origin (gone ++ journal) k
  states k m split =
      sym (ap (λ n. after (start opened.origin) (take n (gone ++ journal))) split
      ∙ (ap (after (start opened.origin)) (take-append-add gone journal m)
      ∙ (after-append (start opened.origin) gone (take m journal)
      ∙ ap (λ s. after s (take m journal)) (sym follows.starts))))

  after_back : (k m : ℕ) (asked : Asked) (outcome : Outcome) → k ≡ length gone + m
      → AgreesAfter found.origin journal m asked outcome → AgreesAfter opened.origin (gone ++ journal) k asked outcome
  after_back k m (Change call) (Accepted done) split agrees = get_behind gone journal k m split ∙ agrees
  after_back k m asked outcome split agrees =
      let l = agrees.0 in
      (omega (arith, length-append gone journal), subst (λ s. IsAnswer s asked outcome) (states k m split) agrees.1)

  pub agrees_back : (receipt : Receipt) → Agrees found.origin journal receipt → Agrees opened.origin (gone ++ journal) receipt
  agrees_back receipt agrees =
      let f = follows.first in
      let a = agrees.0 in (
        omega arith,
        after_back (receipt.at - opened.origin.first) (receipt.at - found.origin.first) receipt.asked receipt.outcome (omega arith) agrees.1,
      )

-- the numbers below a receipt's number, together with its own if its call was accepted, are the numbers below the next record's number
pub place_goes_on : (weight : ℕ → ℕ) (at : ℕ) (state : ℕ) (asked : Asked) (outcome : Outcome) (journal : List Record) → (o : _) × AgreesAfter o journal state asked outcome
    → total weight (place_of at outcome) + below weight at ≡ below weight (at + length (record_of asked outcome))
place_goes_on weight at state (Change call) (Accepted done) journal agrees =
    let c = total_cons weight at [] in let n = total_nil weight in let b = below_more weight at in omega arith
place_goes_on weight at state (Change call) (Refused refusal) journal agrees = let n = total_nil weight in let z : at + 0 ≡ at = omega arith in let b = ap (below weight) z in omega arith
place_goes_on weight at state (Change call) (Answered reply) journal agrees = let n = total_nil weight in let z : at + 0 ≡ at = omega arith in let b = ap (below weight) z in omega arith
place_goes_on weight at state (Question query) (Accepted done) journal agrees = absurd agrees.1.1
place_goes_on weight at state (Question query) (Refused refusal) journal agrees = let n = total_nil weight in let z : at + 0 ≡ at = omega arith in let b = ap (below weight) z in omega arith
place_goes_on weight at state (Question query) (Answered reply) journal agrees = let n = total_nil weight in let z : at + 0 ≡ at = omega arith in let b = ap (below weight) z in omega arith
