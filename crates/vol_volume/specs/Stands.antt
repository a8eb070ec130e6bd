-- Assumptions about an image for checking a call and answering a query.
use Rattle.std.specs.Prelude.{ℕ, List}
use Rattle.vol_layout.specs.Geometry.{Fits}
use Rattle.vol_file.specs.Rules.{Rules3To7}
use Rattle.vol_dir.specs.Entries.{HasEntries}
use Rattle.vol_layout.specs.declared.geometry.Geometry.{Geometry}

-- the geometry fits the image, and its files and entries are sound (rules 3 to 7 and 9)
pub record Rules3To7And9 (geometry : Geometry) (image : List ℕ) : Type 0 where
  pub fits : Fits geometry image
  pub files : Rules3To7 geometry image
  pub entries : HasEntries geometry image
