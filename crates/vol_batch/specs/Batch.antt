-- Several calls on a volume, one after another.
use Rattle.std.specs.Prelude.{◌≡◌, ◌⊎◌, ℕ, List, [], ◌∷◌, map}
use Rattle.vol_layout.specs.Geometry.{geometry_of}
use Rattle.vol_layout.specs.declared.edition.Edition.{Edition}
use Rattle.vol_dir.specs.declared.refusal.Refusal.{Refusal}
use Rattle.vol_judge.specs.Sound.{IsSound}
use Rattle.vol_change.specs.Whole.{StaysAround}
use Rattle.vol_volume.specs.Journal.{Refuses, IsLegal, after}
use Rattle.vol_volume.specs.Volume.{Mounted, Accepts, mounted, reads_as}
use Rattle.vol_volume.specs.declared.calls.Call.{Call}
use Rattle.vol_volume.specs.declared.calls.Done.{Done}
use Rattle.vol_volume.specs.declared.calls.Record.{Record}

-- a volume accepts all calls in order, and becomes another one (this project)
unfoldable pub AreMade : Mounted → List Call → Mounted → Type 0
AreMade old [] new = new ≡ old
AreMade old (call ∷ calls) new = (between : Mounted) × (done : Done) × Accepts old between call done × AreMade between calls new

-- a volume accepts the first of the calls in order, and then refuses this one, which changes nothing (this project)
unfoldable pub AreStopped : Mounted → List Call → Mounted → Refusal → Call → Type 0
AreStopped old [] new refusal stopped = ⊥
AreStopped old (call ∷ calls) new refusal stopped =
    ((stopped ≡ call) × Refuses (reads_as old.edition old.image) call refusal × (new ≡ old))
    ⊎ ((between : Mounted) × (done : Done) × Accepts old between call done × AreStopped between calls new refusal stopped)

-- the bytes are a sound image that reads as the tree of the old image, which is sound, after the calls, all accepted in order; only bytes that the
-- calls change are changed (this project)
pub record MakesCalls (edition : Edition) (image : List ℕ) (calls : List Call) (bytes : List ℕ) : Type 0 where
  pub mounts : IsSound edition image
  pub journal : List Record
  pub asked : map (λ (entry : Record). entry.call) journal ≡ calls
  pub legal : IsLegal (reads_as edition image) journal
  pub reads : reads_as edition bytes ≡ after (reads_as edition image) journal
  pub sound : IsSound edition bytes
  pub around : StaysAround (geometry_of edition image) image bytes
  pub volume : Mounted
  pub made : AreMade (mounted edition image) calls volume
  pub left : volume.image ≡ bytes
