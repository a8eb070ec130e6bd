-- A volume after a call is performed and recorded.
use Rattle.std.proofs.Common.{◌≡◌, ℕ, ◌∙◌, sym, subst, refl, List, [], ◌∷◌, ◌++◌, None, Some, Option, unwrap_or, Result, Ok, Err, IfErr}
use Rattle.vol_layout.specs.Geometry.{geometry_of}
use Rattle.vol_layout.specs.declared.edition.Edition.{Edition}
use Rattle.vol_layout.specs.declared.geometry.Geometry.{Geometry}
use Rattle.vol_dir.specs.Tree.{state, shapes, tree, free_count}
use Rattle.vol_change.specs.Ready.{free_in}
use Rattle.vol_volume.specs.Journal.{Refuses}
use Rattle.vol_volume.specs.Perform.{IsPerformed}
use Rattle.vol_volume.specs.Verdict.{verdict}
use Rattle.vol_volume.specs.Volume.{Mounted, reads_as, IsConsistent, Performs, Accepts}
use Rattle.vol_volume.proofs.Journals.{kept_consistent}
use Rattle.vol_volume.proofs.Refusals.{refused_so}
use Rattle.vol_dir.specs.declared.refusal.Refusal.{Refusal}
use Rattle.vol_dir.specs.declared.refusal.Refusal.TheVariants as refusals
use Rattle.vol_volume.specs.declared.calls.Call.{Call}
use Rattle.vol_volume.specs.declared.calls.Done.{Done}
use Rattle.vol_volume.specs.declared.calls.Record.{Record}

-- a mounted volume from its fields
abbrev pub volume_of : Edition → List ℕ → List ℕ → List Record → ℕ → Mounted
volume_of edition image base journal first = record { edition = edition; image = image; base = base; journal = journal; first = first }

module _ (geometry : Geometry) (old new base : List ℕ) (journal : List Record) (first : ℕ) (call : Call) (done : Done) (free : ℕ)
    (sizes : geometry ≡ geometry_of geometry.edition old) (accepted : verdict (state geometry old) call ≡ None)
    (performed : IsPerformed geometry old new call done free) where
  -- an accepted and performed call, appended to the journal, is `Accepts`
  pub accepts : Accepts (volume_of geometry.edition old base journal first)
      (volume_of geometry.edition new base (journal ++ record { call = call; done = done } ∷ []) first) call done
  accepts = record {
    accepted = subst (λ g. verdict (state g old) call ≡ None) sizes accepted;
    performed = subst (λ g. Performs g old new call done) sizes performed.performed;
    edition = refl;
    base = refl;
    journal = refl;
    first = refl;
  }

  -- the volume is still consistent
  pub consistent : IsConsistent (volume_of geometry.edition old base journal first)
      → IsConsistent (volume_of geometry.edition new base (journal ++ record { call = call; done = done } ∷ []) first)
  consistent was = kept_consistent _ _ call done was accepts

-- the two definitions of the number of free blocks agree
pub counted : (geometry : Geometry) (image : List ℕ) → free_in (state geometry image) ≡ free_count geometry (shapes geometry image)
unfolding tree
counted geometry image = refl

-- the number of free blocks after a performed call
counts_new : (geometry : Geometry) (old new : List ℕ) (call : Call) (done : Done) (free : ℕ) → IsPerformed geometry old new call done free
    → free ≡ free_count geometry (shapes geometry new)
counts_new geometry old new call done free performed = performed.counted ∙ counted geometry new

-- after a performed call, the invariant of the volume's parts holds
pub fields_kept : (geometry : Geometry) (old new base : List ℕ) (journal longer : List Record) (first : ℕ) (call : Call) (done : Done) (free : ℕ)
    → geometry ≡ geometry_of geometry.edition old → verdict (state geometry old) call ≡ None → IsPerformed geometry old new call done free
    → longer ≡ journal ++ record { call = call; done = done } ∷ [] → IsConsistent (volume_of geometry.edition old base journal first)
    → (geometry ≡ geometry_of geometry.edition new) × IsConsistent (volume_of geometry.edition new base longer first)
    × (free ≡ free_count geometry (shapes geometry new))
fields_kept geometry old new base journal longer first call done free sizes accepted performed appended was = (
  performed.performed.changes.ready.sizes,
  subst (λ records. IsConsistent (volume_of geometry.edition new base records first)) (sym appended)
      (consistent geometry old new base journal first call done free sizes accepted performed was),
  counts_new geometry old new call done free performed,
)

-- a refusal by the verdict is a refusal by the state that the image reads as
pub refused : (geometry : Geometry) (image : List ℕ) (call : Call) (refusal : Refusal) → geometry ≡ geometry_of geometry.edition image
    → verdict (state geometry image) call ≡ Some refusal → Refuses (reads_as geometry.edition image) call refusal
refused geometry image call refusal sizes says =
    refused_so (reads_as geometry.edition image) call refusal (subst (λ g. verdict (state g image) call ≡ Some refusal) sizes says)

-- if there is no room for the record, the call is refused with its verdict, or with NoMemory if no check fails
refused_by : (geometry : Geometry) (image : List ℕ) (call : Call) (refusal : Refusal) (verdict_is : Option Refusal) → geometry ≡ geometry_of geometry.edition image
    → verdict (state geometry image) call ≡ verdict_is → refusal ≡ unwrap_or verdict_is refusals.NoMemory
    → Refuses (reads_as geometry.edition image) call refusal
refused_by geometry image call refusal None sizes says is =
    subst (Refuses (reads_as geometry.edition image) call) (sym is) (subst (λ g. verdict (state g image) call ≡ None) sizes says)
refused_by geometry image call refusal (Some first) sizes says is =
    subst (Refuses (reads_as geometry.edition image) call) (sym is) (refused geometry image call first sizes says)

pub refused_full : (geometry : Geometry) (image : List ℕ) (call : Call) (refusal : Refusal) → geometry ≡ geometry_of geometry.edition image
    → refusal ≡ unwrap_or (verdict (state geometry image) call) refusals.NoMemory → Refuses (reads_as geometry.edition image) call refusal
refused_full geometry image call refusal sizes is = refused_by geometry image call refusal (verdict (state geometry image) call) sizes refl is

-- a call handed back with its verdict is refused with it
pub answer_refuses : (geometry : Geometry) (image : List ℕ) (call : Call) → geometry ≡ geometry_of geometry.edition image → (answer : Result Done (Refusal × Call))
    → IfErr answer (λ back. verdict (state geometry image) call ≡ Some back.0) → IfErr answer (λ back. Refuses (reads_as geometry.edition image) call back.0)
answer_refuses geometry image call sizes (Ok done) says = tt
answer_refuses geometry image call sizes (Err back) says = refused geometry image call back.0 sizes says
