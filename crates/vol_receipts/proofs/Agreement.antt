-- A receipt that agrees with a journal still agrees when the journal grows, and when it is cut below the receipt.
use Rattle.std.proofs.Common.{◌≡◌, ℕ, zero, suc, ◌+◌, ◌-◌, ◌≤◌, List, [], ◌∷◌, ◌++◌, length, take, ap, sym, subst, ◌∙◌, arith, length-append}
use Rattle.std.specs.Prelude.{Some}
use Rattle.std.specs.List.{slice_get}
use Rattle.std.proofs.lemmas.List.{take-append-le}
use Rattle.std.proofs.Math.Seq.{take-append-add}
use Rattle.vol_volume.specs.Journal.{after}
use Rattle.vol_volume.specs.declared.calls.Record.{Record}
use Rattle.vol_volume.proofs.Journals.{after-append}
use Rattle.vol_receipts.specs.Agrees.{start, state_after, IsAnswer, AgreesAfter, Agrees}
use Rattle.vol_receipts.specs.declared.receipts.Asked.{Asked}
use Rattle.vol_receipts.specs.declared.receipts.Asked.TheVariants.{Change}
use Rattle.vol_receipts.specs.declared.receipts.Outcome.{Outcome}
use Rattle.vol_receipts.specs.declared.receipts.Outcome.TheVariants.{Accepted}
use Rattle.vol_receipts.specs.declared.receipts.Origin.{Origin}
use Rattle.vol_receipts.specs.declared.receipts.Receipt.{Receipt}

-- an element of the first list is at the same index in both together
pub get_before : {X : Type 0} (xs ys : List X) (k : ℕ) (x : X) → slice_get xs k ≡ Some x → slice_get (xs ++ ys) k ≡ Some x
get_before [] ys k x is = cc
get_before (y ∷ xs) ys zero x is = is
get_before (y ∷ xs) ys (suc k) x is = get_before xs ys k x is

-- an element of the second list is at the same index plus the length of the first in both together
pub get_behind : {X : Type 0} (xs ys : List X) (k m : ℕ) → k ≡ length xs + m → slice_get (xs ++ ys) k ≡ slice_get ys m
get_behind [] ys k m at = let same : k ≡ m = omega arith in ap (slice_get ys) same
get_behind (x ∷ xs) ys zero m at = absurd (omega arith)
get_behind (x ∷ xs) ys (suc k) m at = get_behind xs ys k m (omega arith)

-- an outcome that agrees after `k` records of one journal also agrees after `m` records of another, if the same record is next and the states there
-- are equal
agrees_where : (old new : Origin) (was is : List Record) (k m : ℕ) (asked : Asked) (outcome : Outcome)
    → ((entry : Record) → slice_get was k ≡ Some entry → slice_get is m ≡ Some entry)
    → (k ≤ length was → m ≤ length is)
    → (k ≤ length was → state_after old was k ≡ state_after new is m)
    → AgreesAfter old was k asked outcome → AgreesAfter new is m asked outcome
agrees_where old new was is k m (Change call) (Accepted done) records within states agrees = records _ agrees
agrees_where old new was is k m asked outcome records within states agrees =
    (within agrees.0, subst (λ s. IsAnswer s asked outcome) (states agrees.0) agrees.1)

-- a receipt that agrees with a journal also agrees with it after more records are added
pub agrees_grows : (origin : Origin) (journal more : List Record) (receipt : Receipt)
    → Agrees origin journal receipt → Agrees origin (journal ++ more) receipt
agrees_grows origin journal more receipt agrees =
    let k : ℕ = receipt.at - origin.first in (
      agrees.0,
      agrees_where origin origin journal (journal ++ more) k k receipt.asked receipt.outcome
          (λ entry is. get_before journal more k entry is)
          (λ within. omega (arith, length-append journal more))
          (λ within. ap (after (start origin)) (sym (take-append-le k journal more within)))
          agrees.1,
    )

-- a receipt still agrees after records before its number are cut, if the journal's new start is the state after them
pub agrees_after_cut : (old new : Origin) (gone journal : List Record) (receipt : Receipt) → new.first ≡ old.first + length gone
    → start new ≡ after (start old) gone
    → new.first ≤ receipt.at
    → Agrees old (gone ++ journal) receipt
    → Agrees new journal receipt
agrees_after_cut old new gone journal receipt first starts there agrees =
    let k : ℕ = receipt.at - old.first in
    let m : ℕ = receipt.at - new.first in
    let split : k ≡ length gone + m = omega arith in (
      there,
      agrees_where old new (gone ++ journal) journal k m receipt.asked receipt.outcome
          (λ entry is. sym (get_behind gone journal k m split) ∙ is)
          (λ within. omega (arith, length-append gone journal))
          (λ within. ap (λ n. after (start old) (take n (gone ++ journal))) split
          ∙ ap (after (start old)) (take-append-add gone journal m)
          ∙ after-append (start old) gone (take m journal)
          ∙ ap (λ s. after s (take m journal)) (sym starts))
          agrees.1,
    )
