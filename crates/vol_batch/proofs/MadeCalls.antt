-- Calls that are made on a volume, one after another.
use Rattle.std.proofs.Common.{◌≡◌, ℕ, List, [], ◌∷◌, ◌++◌, inl, inr, refl, sym, ap, ◌∙◌, subst, append_assoc}
use Rattle.std.specs.Prelude.{reverse, map}
use Rattle.std.proofs.lemmas.List.{append-nil, reverse-append, reverse-reverse}
use Rattle.vol_layout.specs.Geometry.{geometry_of}
use Rattle.vol_judge.specs.Sound.{IsSound}
use Rattle.vol_change.specs.Whole.{StaysAround}
use Rattle.vol_change.proofs.WholeLaws.{around_then, geometry_kept}
use Rattle.vol_volume.specs.Journal.{Refuses, IsLegal, after}
use Rattle.vol_volume.specs.Volume.{Mounted, IsConsistent, Accepts, mounted, reads_as}
use Rattle.vol_batch.specs.Batch.{AreMade, AreStopped, MakesCalls}
use Rattle.vol_dir.specs.declared.refusal.Refusal.{Refusal}
use Rattle.vol_layout.specs.declared.edition.Edition.{Edition}
use Rattle.vol_volume.specs.declared.calls.Call.{Call}
use Rattle.vol_volume.specs.declared.calls.Done.{Done}
use Rattle.vol_volume.specs.declared.calls.Record.{Record}

-- making the calls that are left, from here, has the same result as making all calls from the start
pub record GoesOn (start : Mounted) (all : List Call) (now : Mounted) (left : List Call) : Type 0 where
  pub made : (new : Mounted) → AreMade now (reverse left) new → AreMade start all new
  pub stopped : (new : Mounted) (refusal : Refusal) (call : Call) → AreStopped now (reverse left) new refusal call → AreStopped start all new refusal call

pub on_start : (start : Mounted) (all left : List Call) → left ≡ reverse all → GoesOn start all start left
on_start start all left is =
    let same : reverse left ≡ all = ap reverse is ∙ reverse-reverse all in
    record {
      made = λ new made. subst (λ calls. AreMade start calls new) same made;
      stopped = λ new refusal call stopped. subst (λ calls. AreStopped start calls new refusal call) same stopped;
    }

-- the last of the calls left, which are reversed, is the next one
taken : (left rest : List Call) (call : Call) → left ≡ rest ++ call ∷ [] → call ∷ reverse rest ≡ reverse left
taken left rest call is = sym (ap reverse is ∙ reverse-append rest (call ∷ []))

-- after one more accepted call, the result is still that of all calls
pub on_call : (start : Mounted) (all : List Call) (now next : Mounted) (left rest : List Call) (call : Call) (done : Done) → GoesOn start all now left
    → left ≡ rest ++ call ∷ [] → Accepts now next call done → GoesOn start all next rest
unfolding AreMade AreStopped
on_call start all now next left rest call done on is accepts = record {
  made = λ new made. on.made new (subst (λ calls. AreMade now calls new) (taken left rest call is) (next, done, accepts, made));
  stopped = λ new refusal same stopped.
      on.stopped new refusal same (subst (λ calls. AreStopped now calls new refusal same) (taken left rest call is) (inr (next, done, accepts, stopped)));
}

-- a refused call is the result of all calls
pub on_refused : (start : Mounted) (all : List Call) (now new : Mounted) (left rest : List Call) (call same : Call) (refusal : Refusal) → GoesOn start all now left
    → left ≡ rest ++ call ∷ [] → same ≡ call → Refuses (reads_as now.edition now.image) call refusal → new ≡ now → AreStopped start all new refusal same
unfolding AreStopped
on_refused start all now new left rest call same refusal on is back refuses kept =
    on.stopped new refusal same (subst (λ calls. AreStopped now calls new refusal same) (taken left rest call is) (inl (back, refuses, kept)))

-- if no call is left, all calls are made
pub on_end : (start : Mounted) (all : List Call) (now : Mounted) (left : List Call) → GoesOn start all now left → left ≡ [] → AreMade start all now
unfolding AreMade
on_end start all now left on none = on.made now (subst (λ (calls : List Call). AreMade now (reverse calls) now) (sym none) refl)

-- the parts of a volume that accepted calls don't change, and the records that they append to its journal
pub record Keeps (old new : Mounted) (calls : List Call) : Type 0 where
  pub edition : new.edition ≡ old.edition
  pub base : new.base ≡ old.base
  pub more : List Record
  pub journal : new.journal ≡ old.journal ++ more
  pub asked : map (λ (entry : Record). entry.call) more ≡ calls
  pub around : StaysAround (geometry_of old.edition old.image) old.image new.image

-- no calls change nothing
keeps_all : (old : Mounted) → Keeps old old []
keeps_all old = record {
  edition = refl;
  base = refl;
  more = [];
  journal = sym (append-nil old.journal);
  asked = refl;
  around = record { len = refl; before = λ k h. refl; flags = λ k from to. refl; rest = λ k from to. refl; behind = λ k from. refl };
}

-- one accepted call and then others append their records
keeps_then : (old mid new : Mounted) (call : Call) (calls : List Call) (done : Done) → Accepts old mid call done → Keeps mid new calls
    → Keeps old new (call ∷ calls)
keeps_then old mid new call calls done accepts rest =
    let first : StaysAround (geometry_of old.edition old.image) old.image mid.image = accepts.performed.changes.around in
    let second : StaysAround (geometry_of old.edition mid.image) mid.image new.image =
    subst (λ edition. StaysAround (geometry_of edition mid.image) mid.image new.image) accepts.edition rest.around in
    record {
      edition = rest.edition ∙ accepts.edition;
      base = rest.base ∙ accepts.base;
      more = record { call = call; done = done } ∷ rest.more;
      journal = rest.journal
          ∙ (ap (λ front. front ++ rest.more) accepts.journal ∙ append_assoc old.journal (record { call = call; done = done } ∷ []) rest.more);
      asked = ap (λ calls. call ∷ calls) rest.asked;
      around = around_then (geometry_of old.edition old.image) old.image mid.image new.image first
          (subst (λ g. StaysAround g mid.image new.image) (geometry_kept (geometry_of old.edition old.image) old.image mid.image first) second);
    }

pub keeps : (old new : Mounted) (calls : List Call) → AreMade old calls new → Keeps old new calls
unfolding AreMade
keeps old new [] made = subst (λ volume. Keeps old volume []) (sym made) (keeps_all old)
keeps old new (call ∷ calls) made = keeps_then old made.0 new call calls made.1 made.2 (keeps made.0 new calls made.3)

-- the facts about an image after the records of a journal
abbrev Reads : Edition → List ℕ → List Record → List ℕ → Type 0
Reads edition base journal image =
    IsLegal (reads_as edition base) journal × (reads_as edition image ≡ after (reads_as edition base) journal) × IsSound edition image

-- the image of a consistent volume is the one after its journal, with the volume's parts given as variables
reads_by : (volume : Mounted) (edition : Edition) (base : List ℕ) (journal : List Record) → IsConsistent volume → volume.edition ≡ edition
    → volume.base ≡ base → volume.journal ≡ journal → Reads edition base journal volume.image
reads_by volume edition base journal consistent same_edition same_base same_journal =
    subst (λ journal. Reads edition base journal volume.image) same_journal
    (subst (λ base. Reads edition base volume.journal volume.image) same_base
    (subst (λ edition. Reads edition volume.base volume.journal volume.image) same_edition
    (consistent.legal, consistent.reads, consistent.image_sound)))

-- the bytes of a volume that accepted all calls are the result of making them
pub made_calls : (edition : Edition) (image bytes : List ℕ) (calls : List Call) (volume : Mounted) → IsSound edition image
    → AreMade (mounted edition image) calls volume → IsConsistent volume → bytes ≡ volume.image → MakesCalls edition image calls bytes
made_calls edition image bytes calls volume sound made consistent is =
    let kept = keeps (mounted edition image) volume calls made in
    let reads = reads_by volume edition image kept.more consistent kept.edition kept.base kept.journal in
    subst (MakesCalls edition image calls) (sym is) (record {
      mounts = sound;
      journal = kept.more;
      asked = kept.asked;
      legal = reads.0;
      reads = reads.1;
      sound = reads.2;
      around = kept.around;
      volume = volume;
      made = made;
      left = refl;
    })
