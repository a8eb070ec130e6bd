-- The bytes that no call changes.
use Rattle.std.proofs.Common.{◌≡◌, ℕ, List, refl, subst, sym}
use Rattle.vol_layout.specs.Geometry.{geometry_of}
use Rattle.vol_change.specs.Whole.{StaysAround}
use Rattle.vol_change.proofs.WholeLaws.{around_then, geometry_kept}
use Rattle.vol_volume.specs.Volume.{Mounted, Accepts}
use Rattle.vol_layout.specs.declared.edition.Edition.{Edition}
use Rattle.vol_layout.specs.declared.geometry.Geometry.{Geometry}
use Rattle.vol_volume.specs.declared.calls.Call.{Call}
use Rattle.vol_volume.specs.declared.calls.Done.{Done}

-- if no byte changes, the bytes that no call changes are unchanged
pub around_same : (edition : Edition) (old new : List ℕ) → new ≡ old → StaysAround (geometry_of edition old) old new
around_same edition old new same =
    subst (λ (bytes : List ℕ). StaysAround (geometry_of edition old) old bytes) (sym same)
    (record { len = refl; before = λ k h. refl; flags = λ k from to. refl; rest = λ k from to. refl; behind = λ k h. refl })

-- an accepted call leaves the bytes that no call changes unchanged
pub around_call : (old new : Mounted) (call : Call) (done : Done) → Accepts old new call done
    → StaysAround (geometry_of old.edition old.image) old.image new.image
around_call old new call done accepts = accepts.performed.changes.around

-- if each of two changes in a row leaves the bytes that no call changes unchanged, so do both together
pub around_both : (edition : Edition) (one two three : List ℕ) → StaysAround (geometry_of edition one) one two
    → StaysAround (geometry_of edition two) two three → StaysAround (geometry_of edition one) one three
around_both edition one two three first second =
    around_then (geometry_of edition one) one two three first
    (subst (λ (g : Geometry). StaysAround g two three) (geometry_kept (geometry_of edition one) one two first) second)
