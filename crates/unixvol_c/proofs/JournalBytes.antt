-- Counting the bytes of a journal.
use Rattle.std.proofs.Common.{◌≡◌, ℕ, ◌+◌, ◌^◌, ◌≤◌, ◌∷◌, ◌++◌, [], length, Option, None, Some, IfSome, IfNone, ap, sym, ◌∙◌, arith}
use Rattle.std.proofs.lemmas.List.{length-append}
use Rattle.std.proofs.lemmas.List.Sums.{sum_by-append}
use Rattle.vol_volume.specs.Volume.{Mounted, Accepts}
use Rattle.vol_volume.specs.declared.calls.Call.{Call}
use Rattle.vol_volume.specs.declared.calls.Done.{Done}
use Rattle.vol_volume.specs.declared.calls.Record.{Record}
use Rattle.unixvol_c.specs.Opened.{CanCut, HasGrowth, IsCounted, call_bytes, journal_bytes}

-- an accepted call adds the bytes of its record to the bytes of the journal
more_bytes : (old new : Mounted) (call : Call) (done : Done) → Accepts old new call done
    → journal_bytes new.journal ≡ journal_bytes old.journal + call_bytes call
more_bytes old new call done accepts =
    let entry : Record = record { call = call; done = done } in
    let sums : journal_bytes (old.journal ++ entry ∷ []) ≡ journal_bytes old.journal + journal_bytes (entry ∷ []) =
    sum_by-append (λ (r : Record). call_bytes r.call) old.journal (entry ∷ []) in
    ap journal_bytes accepts.journal ∙ sums ∙ ap (λ n. journal_bytes old.journal + n) (omega arith)

-- if the journal can be cut after a call, it could be cut before
could_cut : (old new : Mounted) (call : Call) (done : Done) → Accepts old new call done → CanCut new → CanCut old
could_cut old new call done accepts can =
    let entry : Record = record { call = call; done = done } in
    let len : length new.journal ≡ length old.journal + 1 = ap length accepts.journal ∙ length-append old.journal (entry ∷ []) in
    let first = accepts.first in
    omega arith

-- after an accepted call, the count of the journal is the old count and the bytes of the call's record
pub growth_after : (old new : Mounted) (call : Call) (done : Done) (growth : ℕ) (grown : Option ℕ) → IsCounted old growth → Accepts old new call done
    → IfSome grown (λ sum. sum ≡ growth + call_bytes call) → IfNone grown (2 ^ 64 ≤ growth + call_bytes call) → HasGrowth new grown
growth_after old new call done growth (Some sum) counted accepts some none =
    λ can. some ∙ ap (λ n. n + call_bytes call) (counted.counted (could_cut old new call done accepts can)) ∙ sym (more_bytes old new call done accepts)
growth_after old new call done growth None counted accepts some none =
    λ can. let before : growth ≡ journal_bytes old.journal = counted.counted (could_cut old new call done accepts can) in
    let after : journal_bytes new.journal ≡ journal_bytes old.journal + call_bytes call = more_bytes old new call done accepts in
    omega arith
