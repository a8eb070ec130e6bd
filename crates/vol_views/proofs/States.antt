-- The states that logs make.
use Rattle.std.proofs.Common.{◌≡◌, true, false, if◌then◌else◌, List, [], ◌∷◌, ◌++◌, refl, ap, sym, None, Some, Option, is_none, arith}
use Rattle.std.proofs.lemmas.Bool.{true≢false, and_parts}
use Rattle.std.proofs.lemmas.Bool.Decides.{nat_tests}
use Rattle.vol_layout.specs.declared.edition.Edition.TheVariants as editions
use Rattle.vol_dir.specs.Tree.{State}
use Rattle.vol_dir.specs.declared.refusal.Refusal.{Refusal}
use Rattle.vol_volume.specs.Journal.{after, MayAnswer, MayFollow}
use Rattle.vol_volume.specs.Step.{step}
use Rattle.vol_volume.specs.Verdict.{verdict}
use Rattle.vol_volume.specs.declared.calls.Call.{Call}
use Rattle.vol_volume.specs.declared.calls.Call.TheVariants.{Create, Mkdir, Link, Unlink, Rmdir, Write, Truncate, Chmod, Chown, Times, Mknod}
use Rattle.vol_volume.specs.declared.calls.Done.{Done}
use Rattle.vol_volume.specs.declared.calls.Done.TheVariants.{Made, Wrote, Plain}
use Rattle.vol_volume.specs.declared.calls.Record.{Record}
use Rattle.vol_receipts.specs.Agrees.{start}
use Rattle.vol_receipts.specs.declared.receipts.Origin.{Origin}
use Rattle.vol_views.specs.declared.history.LogEntry.{LogEntry}
use Rattle.vol_views.specs.declared.history.LogEntry.TheVariants as entries
use Rattle.vol_views.specs.States.{is_answer, is_next, applied, taken, taken_all, state_of}

taken_more : (state : State) (log : List LogEntry) (entry : LogEntry) → taken_all state (log ++ entry ∷ []) ≡ taken (taken_all state log) entry
taken_more state [] entry = refl
taken_more state (first ∷ log) entry = taken_more (taken state first) log entry

-- a log with one more entry makes the state after this entry
pub state_more : (log : List LogEntry) (entry : LogEntry) → state_of (log ++ entry ∷ []) ≡ taken (state_of log) entry
unfolding state_of
state_more log entry = taken_more (start (record { edition = editions.V6; bytes = []; first = 0 })) log entry

-- the log of an opened volume makes the state after its journal
pub state_first : (origin : Origin) (journal : List Record) → state_of (entries.Opened origin journal ∷ []) ≡ after (start origin) journal
unfolding state_of
state_first origin journal = refl

-- a result that passes `is_answer` is one that the call may have
pub answer_is : (state : State) (call : Call) (done : Done) → is_answer state call done ≡ true → MayAnswer state call done
answer_is state (Create cred now path perm) (Made i) e = e
answer_is state (Create cred now path perm) (Wrote n) e = true≢false (sym e)
answer_is state (Create cred now path perm) Plain e = true≢false (sym e)
answer_is state (Mkdir cred now path perm) (Made i) e = e
answer_is state (Mkdir cred now path perm) (Wrote n) e = true≢false (sym e)
answer_is state (Mkdir cred now path perm) Plain e = true≢false (sym e)
answer_is state (Write cred now path offset bytes) (Made i) e = true≢false (sym e)
answer_is state (Write cred now path offset bytes) (Wrote n) e = grind (arith, nat_tests, e)
answer_is state (Write cred now path offset bytes) Plain e = true≢false (sym e)
answer_is state (Link cred now source target) (Made i) e = true≢false (sym e)
answer_is state (Link cred now source target) (Wrote n) e = true≢false (sym e)
answer_is state (Link cred now source target) Plain e = tt
answer_is state (Unlink cred now path) (Made i) e = true≢false (sym e)
answer_is state (Unlink cred now path) (Wrote n) e = true≢false (sym e)
answer_is state (Unlink cred now path) Plain e = tt
answer_is state (Rmdir cred now path) (Made i) e = true≢false (sym e)
answer_is state (Rmdir cred now path) (Wrote n) e = true≢false (sym e)
answer_is state (Rmdir cred now path) Plain e = tt
answer_is state (Truncate cred now path size) (Made i) e = true≢false (sym e)
answer_is state (Truncate cred now path size) (Wrote n) e = true≢false (sym e)
answer_is state (Truncate cred now path size) Plain e = tt
answer_is state (Chmod cred now path perm) (Made i) e = true≢false (sym e)
answer_is state (Chmod cred now path perm) (Wrote n) e = true≢false (sym e)
answer_is state (Chmod cred now path perm) Plain e = tt
answer_is state (Chown cred now path uid gid) (Made i) e = true≢false (sym e)
answer_is state (Chown cred now path uid gid) (Wrote n) e = true≢false (sym e)
answer_is state (Chown cred now path uid gid) Plain e = tt
answer_is state (Times cred now path atime mtime) (Made i) e = true≢false (sym e)
answer_is state (Times cred now path atime mtime) (Wrote n) e = true≢false (sym e)
answer_is state (Times cred now path atime mtime) Plain e = tt
answer_is state (Mknod cred now path perm device) (Made i) e = e
answer_is state (Mknod cred now path perm device) (Wrote n) e = true≢false (sym e)
answer_is state (Mknod cred now path perm device) Plain e = true≢false (sym e)

pub is_answered : (state : State) (call : Call) (done : Done) → MayAnswer state call done → is_answer state call done ≡ true
is_answered state (Create cred now path perm) (Made i) h = h
is_answered state (Create cred now path perm) (Wrote n) h = absurd h
is_answered state (Create cred now path perm) Plain h = absurd h
is_answered state (Mkdir cred now path perm) (Made i) h = h
is_answered state (Mkdir cred now path perm) (Wrote n) h = absurd h
is_answered state (Mkdir cred now path perm) Plain h = absurd h
is_answered state (Write cred now path offset bytes) (Made i) h = absurd h
is_answered state (Write cred now path offset bytes) (Wrote n) h = grind (arith, nat_tests, h)
is_answered state (Write cred now path offset bytes) Plain h = absurd h
is_answered state (Link cred now source target) (Made i) h = absurd h
is_answered state (Link cred now source target) (Wrote n) h = absurd h
is_answered state (Link cred now source target) Plain h = refl
is_answered state (Unlink cred now path) (Made i) h = absurd h
is_answered state (Unlink cred now path) (Wrote n) h = absurd h
is_answered state (Unlink cred now path) Plain h = refl
is_answered state (Rmdir cred now path) (Made i) h = absurd h
is_answered state (Rmdir cred now path) (Wrote n) h = absurd h
is_answered state (Rmdir cred now path) Plain h = refl
is_answered state (Truncate cred now path size) (Made i) h = absurd h
is_answered state (Truncate cred now path size) (Wrote n) h = absurd h
is_answered state (Truncate cred now path size) Plain h = refl
is_answered state (Chmod cred now path perm) (Made i) h = absurd h
is_answered state (Chmod cred now path perm) (Wrote n) h = absurd h
is_answered state (Chmod cred now path perm) Plain h = refl
is_answered state (Chown cred now path uid gid) (Made i) h = absurd h
is_answered state (Chown cred now path uid gid) (Wrote n) h = absurd h
is_answered state (Chown cred now path uid gid) Plain h = refl
is_answered state (Times cred now path atime mtime) (Made i) h = absurd h
is_answered state (Times cred now path atime mtime) (Wrote n) h = absurd h
is_answered state (Times cred now path atime mtime) Plain h = refl
is_answered state (Mknod cred now path perm device) (Made i) h = h
is_answered state (Mknod cred now path perm device) (Wrote n) h = absurd h
is_answered state (Mknod cred now path perm device) Plain h = absurd h

none_is : (refusal : Option Refusal) → is_none refusal ≡ true → refusal ≡ None
none_is None e = refl
none_is (Some r) e = absurd (true≢false (sym e))

-- a record that passes `is_next` may come next
pub next_is : (state : State) (entry : Record) → is_next state entry ≡ true → MayFollow state entry
unfolding is_next
next_is state entry e =
    let parts = and_parts (is_none (verdict state entry.call)) _ e in
    record { accepted = none_is (verdict state entry.call) parts.0; answered = answer_is state entry.call entry.done parts.1 }

pub is_next_by : (state : State) (entry : Record) → MayFollow state entry → is_next state entry ≡ true
unfolding is_next
is_next_by state entry may = rw (may.accepted) (is_answered state entry.call entry.done may.answered)

-- applying a record that may come next makes its step
pub applied_next : (state : State) (entry : Record) → MayFollow state entry → applied state entry ≡ step state entry.call entry.done
unfolding applied
applied_next state entry may = ap (λ b. if b then step state entry.call entry.done else state) (is_next_by state entry may)

-- applying a record that may not come next changes nothing
pub applied_else : (state : State) (entry : Record) → (MayFollow state entry → ⊥) → applied state entry ≡ state
unfolding applied
applied_else state entry not =
    elim (is_next state entry) as (λ b. is_next state entry ≡ b → (if b then step state entry.call entry.done else state) ≡ state) [
      | true ↦ λ e. absurd (not (next_is state entry e))
      | false ↦ λ e. refl
    ] refl
