-- Facts about all versions.
use Rattle.std.proofs.Common.{◌≡◌, ◌↔◌, ℕ, Bool, true, false, List, [], ◌∷◌, ◌++◌, refl, ap, sym, ◌∙◌, IsTrue}
use Rattle.std.proofs.lemmas.Bool.{true≢false}
use Rattle.vol_layout.specs.Geometry.{geometry_of}
use Rattle.vol_layout.specs.declared.geometry.Geometry.{Geometry}
use Rattle.vol_dir.specs.Tree.{state, free_count, shapes}
use Rattle.vol_judge.specs.Sound.{IsSound}
use Rattle.vol_volume.specs.Journal.{MayFollow}
use Rattle.vol_volume.specs.Step.{step}
use Rattle.vol_volume.specs.Volume.{Mounted, IsConsistent, Performs}
use Rattle.vol_volume.specs.declared.calls.Record.{Record}
use Rattle.vol_receipts.specs.Agrees.{origin_of}
use Rattle.vol_views.specs.LogRule.{first_log}
use Rattle.vol_views.specs.declared.history.LogEntry.{LogEntry}
use Rattle.vol_views.specs.declared.history.LogEntry.TheVariants.{Made}
use Rattle.vol_views.specs.States.{state_of}
use Rattle.vol_views.proofs.States.{state_first, state_more, applied_next, applied_else}

-- the version made from a volume is a sound image with the right geometry and free count, and reads as the state of the first log
pub made_of : (volume : Mounted) (geometry : Geometry) (image : List ℕ) (free : ℕ) (log : List LogEntry) → IsConsistent volume
    → geometry ≡ geometry_of volume.edition volume.image → image ≡ volume.image
    → free ≡ free_count (geometry_of volume.edition volume.image) (shapes (geometry_of volume.edition volume.image) volume.image)
    → log ≡ first_log volume
    → IsSound geometry.edition image × (geometry ≡ geometry_of geometry.edition image) × (free ≡ free_count geometry (shapes geometry image))
    × (state geometry image ≡ state_of log)
made_of volume geometry image free log consistent sizes same count begun =
    rw (sizes, same, count, begun)
    (consistent.image_sound, refl, refl, consistent.reads ∙ sym (state_first (origin_of volume) volume.journal))

-- after a record is applied, the image reads as the state of the log with this record
pub applied_reads : (geometry : Geometry) (old new : List ℕ) (log : List LogEntry) (entry : Record) (is_next : Bool)
    → state geometry old ≡ state_of log → IsTrue is_next ↔ MayFollow (state geometry old) entry
    → (is_next ≡ true → Performs geometry old new entry.call entry.done) → (is_next ≡ false → new ≡ old)
    → state geometry new ≡ state_of (log ++ Made entry ∷ [])
applied_reads geometry old new log entry true reads is performed same =
    let may : MayFollow (state_of log) entry = rw (← reads) (is.0 refl) in
    (performed refl).changes.makes
    ∙ (ap (λ s. step s entry.call entry.done) reads ∙ (sym (applied_next (state_of log) entry may) ∙ sym (state_more log (Made entry))))
applied_reads geometry old new log entry false reads is performed same =
    let not : MayFollow (state_of log) entry → ⊥ = λ may. true≢false (sym (is.1 (rw reads may))) in
    ap (state geometry) (same refl) ∙ (reads ∙ (sym (applied_else (state_of log) entry not) ∙ sym (state_more log (Made entry))))
