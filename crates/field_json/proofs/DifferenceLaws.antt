-- The differences of equal images have no item, and those of others have some.
use Rattle.std.proofs.Common.{◌≡◌, ◌∙◌, ap, sym, ℕ, Bool, List, [], map}
use Rattle.serde_json.specs.Data.{Data}
use Rattle.vol_layout.specs.declared.geometry.Geometry.{Geometry}
use Rattle.vol_fields.specs.declared.role.Role.{Role}
use Rattle.vol_fields.proofs.DiffLaws.{map_empty, no_differences, none_is_equal}
use Rattle.field_json.specs.Changes.{AreDifferences, difference_data}

-- images without items are equal
pub itemless_are_equal : (g h : Geometry) (table roles : List Role) (old new : List ℕ) (all : Bool) (datas : List Data)
    → AreDifferences g table old h roles new all datas → datas ≡ [] → old ≡ new
itemless_are_equal g h table roles old new all datas made none =
    none_is_equal h table roles old new all made.0 made.1 (map_empty (difference_data g table old roles new) made.0 (sym made.2 ∙ none))

-- equal images have no item
pub equal_have_none : (g h : Geometry) (table : List Role) (image : List ℕ) (all : Bool) (datas : List Data)
    → AreDifferences g table image h table image all datas → datas ≡ []
equal_have_none g h table image all datas made =
    made.2 ∙ ap (map (difference_data g table image table image)) (no_differences h table image all made.0 made.1)
