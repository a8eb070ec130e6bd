-- The results and the faults of commands that change a volume.
use Rattle.std.specs.Prelude.{◌≡◌, ◌⊎◌, ℕ, List, [], ◌∷◌, map}
use Rattle.vol_layout.specs.Geometry.{geometry_of}
use Rattle.vol_dir.specs.Tree.{State}
use Rattle.vol_judge.specs.Sound.{IsSound}
use Rattle.vol_change.specs.Whole.{StaysAround}
use Rattle.vol_volume.specs.Journal.{Refuses, MayFollow, IsLegal, after}
use Rattle.vol_volume.specs.Step.{step}
use Rattle.vol_volume.specs.Volume.{Performs, reads_as}
use Rattle.command_faults.specs.Faults.{IsCause}
use Rattle.vol_dir.specs.declared.refusal.Refusal.{Refusal}
use Rattle.vol_layout.specs.declared.edition.Edition.{Edition}
use Rattle.vol_layout.specs.declared.geometry.Geometry.{Geometry}
use Rattle.vol_volume.specs.declared.calls.Call.{Call}
use Rattle.vol_volume.specs.declared.calls.Done.{Done}
use Rattle.vol_volume.specs.declared.calls.Record.{Record}
use Rattle.command_faults.specs.declared.fault.Fault.{Fault}

-- recorded calls, performed on an image one after another, result in these bytes (this project)
abbrev pub AreLeft : Geometry → List ℕ → List Record → List ℕ → Type 0
AreLeft geometry image [] bytes = bytes ≡ image
AreLeft geometry image (entry ∷ entries) bytes =
    (between : List ℕ) × Performs geometry image between entry.call entry.done × AreLeft geometry between entries bytes

-- the bytes are a sound image, the result of performing these calls one after another on a sound image; only bytes that calls change differ (this
-- project)
pub record Makes (edition : Edition) (image : List ℕ) (calls : List Call) (bytes : List ℕ) : Type 0 where
  pub mounted : IsSound edition image
  pub journal : List Record
  pub asked : map (λ (entry : Record). entry.call) journal ≡ calls
  pub legal : IsLegal (reads_as edition image) journal
  pub reads : reads_as edition bytes ≡ after (reads_as edition image) journal
  pub sound : IsSound edition bytes
  pub around : StaysAround (geometry_of edition image) image bytes
  pub left : AreLeft (geometry_of edition image) image journal bytes

-- calls are made one after another, and the first one that isn't accepted is refused with this refusal (this project)
abbrev pub AreRefused : State → List Call → Refusal → Type 0
AreRefused state [] refusal = ⊥
AreRefused state (call ∷ calls) refusal = Refuses state call refusal
    ⊎ ((done : Done) × MayFollow state (record { call = call; done = done }) × AreRefused (step state call done) calls refusal)

-- a reason not to make calls: out of memory, the first rule that the image breaks, or the refusal of one of them (this project)
abbrev pub IsReason : Edition → List ℕ → List Call → Fault → Type 0
IsReason edition image calls fault = IsCause edition image (AreRefused (reads_as edition image) calls) fault
