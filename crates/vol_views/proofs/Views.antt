-- Logs that extend one another, and receipts that agree with each of them.
use Rattle.std.proofs.Common.{◌≡◌, ◌≢◌, ◌⊎◌, ℕ, ◌-◌, ◌≤◌, List, [], ◌∷◌, ◌++◌, length, All, refl, ap, sym, subst, ⊎_elim, arith, length-append}
use Rattle.std.proofs.lemmas.List.Elements.{All-append, All-cons, All-nil}
use Rattle.std.proofs.Math.Seq.{take-length}
use mathlib.Core.List.{IsPrefix}
use Rattle.vol_volume.specs.Journal.{after}
use Rattle.vol_volume.specs.declared.calls.Record.{Record}
use Rattle.vol_receipts.specs.Agrees.{start, IsAnswer, AgreesAfter, Agrees}
use Rattle.vol_receipts.specs.declared.receipts.Asked.{Asked}
use Rattle.vol_receipts.specs.declared.receipts.Asked.TheVariants.{Change}
use Rattle.vol_receipts.specs.declared.receipts.Outcome.{Outcome}
use Rattle.vol_receipts.specs.declared.receipts.Outcome.TheVariants.{Accepted}
use Rattle.vol_receipts.specs.declared.receipts.Origin.{Origin}
use Rattle.vol_receipts.specs.declared.receipts.Receipt.{Receipt}
use Rattle.vol_receipts.proofs.Agreement.{agrees_grows}
use Rattle.vol_views.specs.declared.history.LogEntry.{LogEntry}
use Rattle.vol_views.specs.declared.history.LogEntry.TheVariants.{Opened, Made}
use Rattle.vol_views.proofs.Beginnings.{prefix_self, prefix_whole}
use Rattle.vol_views.specs.Logs.{history_of, origin_in, number_of}
use Rattle.vol_views.proofs.Logs.{history_append}
use Rattle.vol_views.specs.Views.{GoesOn, AgreesIn}

-- if log `b` extends log `a`, the number of its next record isn't smaller
pub number_on : (a b : List LogEntry) → GoesOn a b → number_of a ≤ number_of b
number_on a b on =
    let first = ap (λ (o : Origin). o.first) on.origin in
    let longer = ap length on.records.1 in
    omega (arith, first, longer, length-append (history_of a) on.records.0)

-- entries after the first don't change the origin of a log
origin_append : (a b : List LogEntry) → a ≢ [] → origin_in (a ++ b) ≡ origin_in a
origin_append [] b some = absurd (some refl)
origin_append (Opened origin journal ∷ a) b some = refl
origin_append (Made entry ∷ a) b some = refl

-- a log extends itself
pub goes_on_itself : (a : List LogEntry) → GoesOn a a
goes_on_itself a = record { origin = refl; records = prefix_self (history_of a) }

-- a log extends each of its non-empty prefixes
pub goes_on_beginning : (a b : List LogEntry) → a ≢ [] → IsPrefix a b → GoesOn a b
goes_on_beginning a b some begins =
    subst (λ (l : List LogEntry). GoesOn a l) begins.1
    (record { origin = origin_append a begins.0 some; records = (history_of begins.0, sym (history_append a begins.0)) })

-- if one of two logs is a prefix of the other, the one whose next record has the greater number extends the other
pub goes_on : (a b : List LogEntry) → a ≢ [] → b ≢ [] → IsPrefix a b ⊎ IsPrefix b a → number_of a ≤ number_of b → GoesOn a b
goes_on a b some-a some-b either later =
    ⊎_elim (λ (p : IsPrefix a b). goes_on_beginning a b some-a p) (λ (p : IsPrefix b a). back (goes_on_beginning b a some-b p)) either
  where
    back : GoesOn b a → GoesOn a b
    back g =
        let first = ap (λ (o : Origin). o.first) g.origin in
        let whole : history_of b ≡ history_of a = prefix_whole (history_of b) (history_of a) g.records (omega (arith, first, later)) in
        record {
          origin = sym g.origin;
          records = subst (λ (l : List Record). IsPrefix (history_of a) l) (sym whole) (prefix_self (history_of a));
        }

-- a receipt that agrees with log `a` agrees with every log that extends `a`
pub agree_on : (a b : List LogEntry) → GoesOn a b → (receipt : Receipt) → AgreesIn a receipt → AgreesIn b receipt
agree_on a b on receipt agrees =
    subst (λ (o : Origin). Agrees o (history_of b) receipt) (sym on.origin)
    (subst (λ (l : List Record). Agrees (origin_in a) l receipt) on.records.1
    (agrees_grows (origin_in a) (history_of a) on.records.0 receipt agrees))

-- if all receipts agree with log `a`, they agree with every log that extends `a`
pub all_agree_on : (a b : List LogEntry) (receipts : List Receipt) → GoesOn a b → All (AgreesIn a) receipts → All (AgreesIn b) receipts
all_agree_on a b receipts on all k d lt = agree_on a b on _ (all k d lt)

-- if all receipts of a list and one more agree with a log, so does the longer list
pub all_agree_more : (log : List LogEntry) (receipts : List Receipt) (receipt : Receipt) → All (AgreesIn log) receipts → AgreesIn log receipt
    → All (AgreesIn log) (receipts ++ receipt ∷ [])
all_agree_more log receipts receipt all agrees =
    All-append (AgreesIn log) receipts (receipt ∷ []) all (All-cons (AgreesIn log) receipt [] agrees (All-nil (AgreesIn log)))

-- an answer in the state after all records of a journal agrees with the journal
answers_last : (origin : Origin) (journal : List Record) (asked : Asked) (outcome : Outcome) → IsAnswer (after (start origin) journal) asked outcome
    → AgreesAfter origin journal (length journal) asked outcome
answers_last origin journal (Change call) (Accepted done) answer = absurd answer
answers_last origin journal asked outcome answer =
    (omega arith, subst (λ (l : List Record). IsAnswer (after (start origin) l) asked outcome) (sym (take-length journal)) answer)

-- the receipt of an answer in a log's state agrees with the log
pub agrees_here : (log : List LogEntry) (at : ℕ) (asked : Asked) (outcome : Outcome) → at ≡ number_of log
    → IsAnswer (after (start (origin_in log)) (history_of log)) asked outcome
    → AgreesIn log (record { at = at; asked = asked; outcome = outcome })
agrees_here log at asked outcome number answer =
    let count : length (history_of log) ≡ at - (origin_in log).first = omega (arith, number) in (
      omega (arith, number),
      subst (λ k. AgreesAfter (origin_in log) (history_of log) k asked outcome) count (answers_last (origin_in log) (history_of log) asked outcome answer),
    )
