-- The first checks of a call with two paths: of the user and group numbers, and for zero bytes in both paths.
use Rattle.std.proofs.Common.{◌≡◌, ℕ, Bool, true, false, ◌||◌, if◌then◌else◌, List, [], ◌∷◌, Option, None, Some, refl, sym}
use Rattle.vol_layout.specs.Ids.{is_bad_id}
use Rattle.vol_layout.specs.declared.geometry.Geometry.{Geometry}
use Rattle.vol_dir.specs.Tree.{tree}
use Rattle.vol_dir.specs.Walk.{has_zero}
use Rattle.vol_dir.specs.declared.cred.Cred.{Cred}
use Rattle.vol_dir.specs.declared.refusal.Refusal.{Refusal}
use Rattle.vol_dir.specs.declared.refusal.Refusal.TheVariants as refusals
use Rattle.vol_volume.specs.Verdict.{then_others}
use Rattle.vol_volume.proofs.AnsweredQueries.{asked_first}

refused_by : (bad source target : Bool) (others : Option Refusal) (refusal : Refusal) → Some refusal ≡ asked_first bad source None
    → asked_first bad (source || (target || false)) others ≡ Some refusal
refused_by true source target others refusal is = sym is
refused_by false true target others refusal is = sym is
refused_by false false target others refusal is = cc

zero_by : (bad source target : Bool) (others : Option Refusal) → None ≡ asked_first bad source None → target ≡ true
    → asked_first bad (source || (target || false)) others ≡ Some refusals.Invalid
zero_by true source target others none is = cc
zero_by false true target others none is = cc
zero_by false false true others none is = refl
zero_by false false false others none is = cc

left_by : (bad source target : Bool) (others : Option Refusal) → None ≡ asked_first bad source None → target ≡ false
    → asked_first bad (source || (target || false)) others ≡ others
left_by true source target others none is = cc
left_by false true target others none is = cc
left_by false false true others none is = cc
left_by false false false others none is = refl

module _ (geometry : Geometry) (image : List ℕ) (cred : Cred) (source target : List ℕ) (others : Option Refusal) where
  -- a bad number or a zero byte in the source path is refused first
  pub source_refused : (refusal : Refusal)
      → Some refusal ≡ (if is_bad_id geometry.edition cred.uid cred.gid then Some refusals.BadId else if has_zero source then Some refusals.Invalid else None)
      → then_others (tree geometry image) cred (source ∷ target ∷ []) others ≡ Some refusal
  unfolding tree
  source_refused refusal is =
      refused_by (is_bad_id geometry.edition cred.uid cred.gid) (has_zero source) (has_zero target) others refusal is

  -- a zero byte in the target path is refused next
  pub target_refused :
      None ≡ (if is_bad_id geometry.edition cred.uid cred.gid then Some refusals.BadId else if has_zero source then Some refusals.Invalid else None)
      → has_zero target ≡ true → then_others (tree geometry image) cred (source ∷ target ∷ []) others ≡ Some refusals.Invalid
  unfolding tree
  target_refused none is = zero_by (is_bad_id geometry.edition cred.uid cred.gid) (has_zero source) (has_zero target) others none is

  -- if the first checks pass, the other checks decide
  pub rest_asked :
      None ≡ (if is_bad_id geometry.edition cred.uid cred.gid then Some refusals.BadId else if has_zero source then Some refusals.Invalid else None)
      → has_zero target ≡ false → then_others (tree geometry image) cred (source ∷ target ∷ []) others ≡ others
  unfolding tree
  rest_asked none is = left_by (is_bad_id geometry.edition cred.uid cred.gid) (has_zero source) (has_zero target) others none is
