use Rattle.std.proofs.Common.{List, ℕ, subst}
use Rattle.vol_fields.specs.declared.role.Role.{Role}
use Rattle.field_json.specs.Changes.{AreDifferences}
use Rattle.field_json.proofs.DifferenceLaws.{equal_have_none, itemless_are_equal}
use Rattle.field_json.proofs.laws.equal_images_have_no_item.Goals as goal

pub returns : goal.returns
returns c g h table roles old new all datas made = (
  (λ same alike. equal_have_none g h roles new all datas
      (subst (λ (t : List Role). AreDifferences g t new h roles new all datas) alike
      (subst (λ (image : List ℕ). AreDifferences g table image h roles new all datas) same made))),
  itemless_are_equal g h table roles old new all datas made,
)
