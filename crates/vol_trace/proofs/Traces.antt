-- Replaying records one after another.
use Rattle.std.proofs.Common.{◌≡◌, ◌∙◌, ℕ, ◌+◌, true, List, [], ◌∷◌, ◌++◌, Result, Ok, Err, ◌≤◌, ap, drop, length, refl, subst, sym}
use Rattle.std.specs.Prelude.{OnOk}
use Rattle.std.proofs.lemmas.List.{append-nil, append_assoc, drop_all}
use Rattle.vol_dir.specs.Tree.{state}
use Rattle.vol_volume.specs.Journal.{IsLegal}
use Rattle.vol_volume.specs.Volume.{Performs}
use Rattle.vol_volume.specs.declared.calls.Record.{Record}
use Rattle.vol_layout.specs.declared.geometry.Geometry.{Geometry}
use Rattle.vol_scripts.specs.Journal.{call_text}
use Rattle.vol_trace.specs.Indent.{indented}
use Rattle.vol_trace.specs.Replay.{IsReplay}
use Rattle.vol_trace.specs.Trace.{AppendsRecord, IsChanges, IsTraceFrom}
use Rattle.vol_trace.specs.declared.replay.Replay.{Replay}

-- a replay has made the first k of some records, and the text is what they changed: with the text of the rest it is that of all of them
pub record Traces (first : Replay) (records : List Record) (k : ℕ) (replay : Replay) (text : List ℕ) : Type 0 where
  pub ready : IsReplay replay
  pub sizes : replay.geometry ≡ first.geometry
  pub legal : IsLegal (state first.geometry replay.image) (drop k records)
  pub goes_on : (rest : List ℕ) → IsTraceFrom first.geometry replay.image (drop k records) rest → IsTraceFrom first.geometry first.image records (text ++ rest)

-- no record was made yet
pub starts : (first : Replay) (records : List Record) → IsReplay first → IsLegal (state first.geometry first.image) records → Traces first records 0 first []
starts first records is legal = record {
  ready = is;
  sizes = refl;
  legal = legal;
  goes_on = λ rest traced. traced;
}

-- if a record was made, the rest of a trace goes on from the image after it
longer : (g : Geometry) (old new : List ℕ) (records more : List Record) (entry : Record) (before after start : List ℕ) (all : List Record)
    → records ≡ entry ∷ more
    → ((rest : List ℕ) → IsTraceFrom g old records rest → IsTraceFrom g start all (before ++ rest))
    → Performs g old new entry.call entry.done → AppendsRecord g old new entry before after
    → (rest : List ℕ) → IsTraceFrom g new more rest → IsTraceFrom g start all (after ++ rest)
longer g old new records more entry before after start all are goes_on performed (text, is, appended) rest traced =
    let whole : IsTraceFrom g old records (text ++ rest) =
    subst (λ entries. IsTraceFrom g old entries (text ++ rest)) (sym are) (new, performed, (text, is, (rest, traced, refl)))
    in
    subst (IsTraceFrom g start all) (sym (append_assoc before text rest) ∙ ap (λ t. t ++ rest) (sym appended)) (goes_on (text ++ rest) whole)

-- the records after one that was made may follow
later : (g : Geometry) (old new : List ℕ) (records more : List Record) (entry : Record) → records ≡ entry ∷ more → IsLegal (state g old) records
    → Performs g old new entry.call entry.done → IsLegal (state g new) more
later g old new records more entry are legal performed =
    subst (λ s. IsLegal s more) (sym performed.changes.makes) (subst (IsLegal (state g old)) are legal).1

-- one record more was made
pub goes : (first old new : Replay) (records : List Record) (k : ℕ) (entry : Record) (before after : List ℕ)
    → drop k records ≡ entry ∷ drop (k + 1) records → Traces first records k old before → IsReplay new → new.geometry ≡ old.geometry
    → Performs old.geometry old.image new.image entry.call entry.done → AppendsRecord old.geometry old.image new.image entry before after
    → Traces first records (k + 1) new after
goes first old new records k entry before after are traces is sizes performed appended =
    let performs : Performs first.geometry old.image new.image entry.call entry.done =
    subst (λ g. Performs g old.image new.image entry.call entry.done) traces.sizes performed
    in
    let appends : AppendsRecord first.geometry old.image new.image entry before after =
    subst (λ g. AppendsRecord g old.image new.image entry before after) traces.sizes appended
    in
    record {
      ready = is;
      sizes = sizes ∙ traces.sizes;
      legal = later first.geometry old.image new.image (drop k records) (drop (k + 1) records) entry are traces.legal performs;
      goes_on =
          longer first.geometry old.image new.image (drop k records) (drop (k + 1) records) entry before after first.image records are traces.goes_on performs
          appends;
    }

-- all records were made
pub ends : (first replay : Replay) (records : List Record) (k : ℕ) (text : List ℕ) → length records ≤ k → Traces first records k replay text
    → IsTraceFrom first.geometry first.image records text
ends first replay records k text end traces =
    let none : IsTraceFrom first.geometry replay.image (drop k records) [] =
    subst (λ entries. IsTraceFrom first.geometry replay.image entries []) (sym (drop_all k records end)) refl
    in
    subst (IsTraceFrom first.geometry first.image records) (append-nil text) (traces.goes_on [] none)

-- the line of a call and the indented lines of what differs are the text of a record, if the image after it was remembered
pub appends : {E : Type 0} (result : Result (Unit {0}) E) (g h : Geometry) (before old new made : List ℕ) (entry : Record) (start called text changes : List ℕ)
    → OnOk result (made ≡ new) → h ≡ g → before ≡ old → IsChanges h before new changes → called ≡ start ++ call_text entry.call
    → text ≡ called ++ indented true changes → OnOk result (AppendsRecord g old made entry start text)
appends (Ok done) g h before old new made entry start called text changes image_is g_is before_is is called_is text_is = (
  call_text entry.call ++ indented true changes,
  (
    changes,
    subst (λ image. IsChanges g old image changes) (sym image_is)
        (subst (λ image. IsChanges g image new changes) before_is (subst (λ k. IsChanges k before new changes) g_is is)),
    refl,
  ),
  text_is ∙ ap (λ t. t ++ indented true changes) called_is ∙ append_assoc start (call_text entry.call) (indented true changes),
)
appends (Err error) g h before old new made entry start called text changes image_is g_is before_is is called_is text_is = tt
