-- Journals in parts, and the invariant of volumes after accepted calls.
use Rattle.std.proofs.Common.{◌≡◌, ◌↔◌, ℕ, List, [], ◌∷◌, ◌++◌, refl, ap, sym, ◌∙◌, subst, Result, Ok, Err}
use Rattle.vol_layout.specs.Geometry.{geometry_of}
use Rattle.vol_dir.specs.Tree.{State, state}
use Rattle.vol_change.specs.Edits.{after_write}
use Rattle.vol_volume.specs.Step.{step, on_node}
use Rattle.vol_volume.specs.Journal.{after, MayFollow, IsLegal}
use Rattle.vol_volume.specs.Volume.{Mounted, reads_as, IsConsistent, Performs, Accepts}
use Rattle.vol_dir.specs.declared.refusal.Refusal.{Refusal}
use Rattle.vol_layout.specs.declared.edition.Edition.{Edition}
use Rattle.vol_volume.specs.declared.calls.Call.{Call}
use Rattle.vol_volume.specs.declared.calls.Done.{Done}
use Rattle.vol_volume.specs.declared.calls.Record.{Record}

-- a write of no bytes doesn't change the state, wherever the walk of its path leads
pub write_nothing : (state : State) (now offset : ℕ) (walked : Result ℕ Refusal) → on_node state walked (after_write state now offset []) ≡ state
write_nothing state now offset (Ok i) = refl
write_nothing state now offset (Err refusal) = refl

-- replaying a joined journal is replaying its first part and then its second
pub after-append : (state : State) (front rest : List Record) → after state (front ++ rest) ≡ after (after state front) rest
after-append state [] rest = refl
after-append state (entry ∷ front) rest = after-append (step state entry.call entry.done) front rest

-- a journal is legal if its first part is legal, and its second part is legal after the first
pub legal-append : (state : State) (front rest : List Record) → IsLegal state front → IsLegal (after state front) rest → IsLegal state (front ++ rest)
legal-append state [] rest first second = second
legal-append state (entry ∷ front) rest first second =
    (first.0, legal-append (step state entry.call entry.done) front rest first.1 second)

-- if a journal is legal, its first part is legal, and its second part is legal after the first
pub legal-parts : (state : State) (front rest : List Record) → IsLegal state (front ++ rest) → IsLegal state front × IsLegal (after state front) rest
legal-parts state [] rest legal = (tt, legal)
legal-parts state (entry ∷ front) rest legal =
    let parts : IsLegal (step state entry.call entry.done) front × IsLegal (after (step state entry.call entry.done) front) rest =
    legal-parts (step state entry.call entry.done) front rest legal.1
    in ((legal.0, parts.0), parts.1)

-- a journal is legal if and only if its first part is legal, and its second part is legal after the first
pub legal-in-parts : (state : State) (front rest : List Record)
    → IsLegal state (front ++ rest) ↔ (IsLegal state front × IsLegal (after state front) rest)
legal-in-parts state front rest = (legal-parts state front rest, λ both. legal-append state front rest both.0 both.1)

-- after a performed call, the image reads as the state after the step, with the geometry that its super-block has now
pub reads_made : (edition : Edition) (old new : List ℕ) (call : Call) (done : Done) → Performs (geometry_of edition old) old new call done
    → reads_as edition new ≡ step (reads_as edition old) call done
reads_made edition old new call done performed = ap (λ g. state g new) (sym performed.changes.ready.sizes) ∙ performed.changes.makes

-- an accepted call keeps a volume consistent; `now` is the state after replaying the journal before the call
keep_same : (now : State) (old : Mounted) (new : List ℕ) (call : Call) (done : Done) → IsConsistent old
    → now ≡ reads_as old.edition old.image
    → MayFollow now (record { call = call; done = done })
    → now ≡ after (reads_as old.edition old.base) old.journal
    → Performs (geometry_of old.edition old.image) old.image new call done
    → IsConsistent (record {
      edition = old.edition;
      image = new;
      base = old.base;
      journal = old.journal ++ record { call = call; done = done } ∷ [];
      first = old.first;
    })
keep_same now old new call done was reads follows made performed = record {
  image_sound = performed.changes.ready.sound;
  base_sound = was.base_sound;
  len = was.len ∙ sym performed.changes.around.len;
  legal = legal-append _ old.journal (record { call = call; done = done } ∷ []) was.legal
      (subst (λ at. IsLegal at (record { call = call; done = done } ∷ [])) made (follows, tt));
  reads = reads_made old.edition old.image new call done performed ∙ ap (λ at. step at call done) (sym reads ∙ made)
      ∙ sym (after-append (reads_as old.edition old.base) old.journal (record { call = call; done = done } ∷ []));
}

-- an accepted call keeps the invariant of every volume
pub kept_consistent : (old new : Mounted) (call : Call) (done : Done) → IsConsistent old → Accepts old new call done → IsConsistent new
kept_consistent old new call done was accepts =
    let same : IsConsistent (record {
      edition = old.edition;
      image = new.image;
      base = old.base;
      journal = old.journal ++ record { call = call; done = done } ∷ [];
      first = old.first;
    }) =
    keep_same (reads_as old.edition old.image) old new.image call done was refl
    (record { accepted = accepts.accepted; answered = accepts.performed.answered }) was.reads accepts.performed
    in
    let fields : new ≡ record {
      edition = old.edition;
      image = new.image;
      base = old.base;
      journal = old.journal ++ record { call = call; done = done } ∷ [];
      first = old.first;
    } =
    λ j. record { edition = accepts.edition j; image = new.image; base = accepts.base j; journal = accepts.journal j; first = accepts.first j }
    in subst IsConsistent (sym fields) same
