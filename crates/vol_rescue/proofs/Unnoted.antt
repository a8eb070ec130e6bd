-- Without the damaged files there are no notes.
use Rattle.std.proofs.Common.{◌≡◌, ℕ, Bool, false, List, [], ◌∷◌}
use Rattle.vol_layout.specs.declared.geometry.Geometry.{Geometry}
use Rattle.vol_rescue.specs.Notes.{HasNotes}

pub no_notes : (g : Geometry) (image : List ℕ) (lost : List Bool) (notes : List (List ℕ)) → HasNotes g image lost false notes → notes ≡ []
no_notes g image [] notes none = none
no_notes g image (mark ∷ lost) notes none = none
