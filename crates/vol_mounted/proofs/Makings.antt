-- Calls don't change the number of an image's bytes.
use Rattle.std.proofs.Common.{◌≡◌, ◌∙◌, sym, ap, ℕ, List, [], ◌∷◌, length, inl, inr}
use Rattle.vol_dir.specs.declared.refusal.Refusal.{Refusal}
use Rattle.vol_volume.specs.Volume.{Mounted, IsConsistent}
use Rattle.vol_volume.specs.declared.calls.Call.{Call}
use Rattle.vol_batch.specs.Batch.{AreMade, AreStopped}

made_base : (old new : Mounted) (calls : List Call) → AreMade old calls new → new.base ≡ old.base
unfolding AreMade
made_base old new [] made = ap (λ (volume : Mounted). volume.base) made
made_base old new (call ∷ calls) (between, done, accepted, made) = made_base between new calls made ∙ accepted.base

stopped_base : (old new : Mounted) (calls : List Call) (refusal : Refusal) (stopped : Call) → AreStopped old calls new refusal stopped → new.base ≡ old.base
unfolding AreStopped
stopped_base old new [] refusal stopped none = absurd none
stopped_base old new (call ∷ calls) refusal stopped (inl (is, refused, same)) = ap (λ (volume : Mounted). volume.base) same
stopped_base old new (call ∷ calls) refusal stopped (inr (between, done, accepted, made)) = stopped_base between new calls refusal stopped made ∙ accepted.base

-- if all calls were made, the image has the same number of bytes
pub made_size : (old new : Mounted) (calls : List Call) → AreMade old calls new → IsConsistent old → IsConsistent new
    → length new.image ≡ length old.image
made_size old new calls made was is = sym is.len ∙ (ap (λ (bytes : List ℕ). length bytes) (made_base old new calls made) ∙ was.len)

-- if the calls before a refused one were made, the image has the same number of bytes
pub stopped_size : (old new : Mounted) (calls : List Call) (refusal : Refusal) (stopped : Call) → AreStopped old calls new refusal stopped
    → IsConsistent old → IsConsistent new → length new.image ≡ length old.image
stopped_size old new calls refusal stopped made was is =
    sym is.len ∙ (ap (λ (bytes : List ℕ). length bytes) (stopped_base old new calls refusal stopped made) ∙ was.len)
