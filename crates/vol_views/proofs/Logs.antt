-- Records and numbers of logs.
use Rattle.std.proofs.Common.{◌≡◌, ◌+◌, List, [], ◌∷◌, ◌++◌, length, refl, ap, sym, ◌∙◌, arith, append_assoc, length-append}
use Rattle.std.proofs.lemmas.List.{append-nil}
use Rattle.vol_dir.specs.Tree.{State}
use Rattle.vol_volume.specs.Journal.{after, MayFollow}
use Rattle.vol_volume.specs.Step.{step}
use Rattle.vol_volume.specs.Volume.{Mounted}
use Rattle.vol_volume.specs.declared.calls.Record.{Record}
use Rattle.vol_receipts.specs.Agrees.{origin_of, start}
use Rattle.vol_views.specs.LogRule.{first_log}
use Rattle.vol_views.specs.declared.history.LogEntry.{LogEntry}
use Rattle.vol_views.specs.declared.history.LogEntry.TheVariants.{Opened, Made}
use Rattle.vol_views.specs.States.{state_of}
use Rattle.vol_views.proofs.States.{state_first, state_more, applied_next}
use Rattle.vol_views.specs.Logs.{history_of, origin_in, number_of}

-- the records of two logs, one after the other, are the records of the first followed by the records of the second
pub history_append : (a b : List LogEntry) → history_of (a ++ b) ≡ history_of a ++ history_of b
history_append [] b = refl
history_append (Opened origin journal ∷ a) b = ap (λ w. journal ++ w) (history_append a b) ∙ sym (append_assoc journal (history_of a) (history_of b))
history_append (Made entry ∷ a) b = ap (λ w. entry ∷ w) (history_append a b)

-- an entry of an accepted call adds its record to the log's records
pub history_more : (log : List LogEntry) (entry : Record) → history_of (log ++ Made entry ∷ []) ≡ history_of log ++ entry ∷ []
history_more log entry = history_append log (Made entry ∷ [])

-- an entry of an accepted call doesn't change the log's origin
pub origin_more : (log : List LogEntry) (entry : Record) → origin_in (log ++ Made entry ∷ []) ≡ origin_in log
origin_more [] entry = refl
origin_more (Opened origin journal ∷ log) entry = refl
origin_more (Made first ∷ log) entry = refl

-- an entry of an accepted call raises the number of the next record by one
pub number_more : (log : List LogEntry) (entry : Record) → number_of (log ++ Made entry ∷ []) ≡ number_of log + 1
number_more log entry =
    let start_same = ap (λ o. o.first) (origin_more log entry) in
    let longer = ap length (history_more log entry) ∙ length-append (history_of log) (entry ∷ []) in
    omega (arith, start_same, longer)

-- the state after a journal with one more record is one step after the state of the journal
pub after_more : (state : State) (journal : List Record) (entry : Record) → after state (journal ++ entry ∷ []) ≡ step (after state journal) entry.call entry.done
after_more state [] entry = refl
after_more state (first ∷ journal) entry = after_more (step state first.call first.done) journal entry

-- if a log's state is the state after its records, this is still true after one more record that may come next
pub reads_more : (log : List LogEntry) (entry : Record) → state_of log ≡ after (start (origin_in log)) (history_of log) → MayFollow (state_of log) entry
    → state_of (log ++ Made entry ∷ []) ≡ after (start (origin_in (log ++ Made entry ∷ []))) (history_of (log ++ Made entry ∷ []))
reads_more log entry reads may =
    state_more log (Made entry)
    ∙ (applied_next (state_of log) entry may
    ∙ (ap (λ s. step s entry.call entry.done) reads
    ∙ (sym (after_more (start (origin_in log)) (history_of log) entry)
    ∙ rw (origin_more log entry, history_more log entry) refl)))

-- the log of a volume when it is opened has the number of the volume's next record
pub number_first : (volume : Mounted) → number_of (first_log volume) ≡ volume.first + length volume.journal
number_first volume = ap (λ w. volume.first + length w) (append-nil volume.journal)

pub reads_first : (volume : Mounted) → state_of (first_log volume) ≡ after (start (origin_in (first_log volume))) (history_of (first_log volume))
reads_first volume =
    state_first (origin_of volume) volume.journal ∙ ap (λ w. after (start (origin_of volume)) w) (sym (append-nil volume.journal))
