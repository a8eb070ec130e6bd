use Rattle.std.proofs.Common.{List, ℕ, subst}
use Rattle.vol_fields.specs.Differences.{IsDiffText}
use Rattle.vol_fields.specs.declared.role.Role.{Role}
use Rattle.vol_fields.proofs.DiffLaws.{equal_is_silent, silent_is_equal}
use Rattle.vol_fields.proofs.laws.differences_tell_nothing_if_equal.Goals as goal

pub returns : goal.returns
returns c g h table roles old new all text made = (
  (λ same alike. equal_is_silent g h roles new all text
      (subst (λ (t : List Role). IsDiffText g t new h roles new all text) alike
      (subst (λ (image : List ℕ). IsDiffText g table image h roles new all text) same made))),
  silent_is_equal g h table roles old new all text made,
)
