-- The field that has a byte of an image.
use Rattle.std.specs.Prelude.{ℕ, List}
use Rattle.vol_layout.specs.declared.edition.Edition.{Edition}
use Rattle.vol_layout.specs.declared.geometry.Geometry.{Geometry}
use Rattle.vol_fields.specs.declared.field.Field.{Field}
use Rattle.vol_fields.specs.declared.runs.Spot.{Spot}
use Rattle.vol_fields.specs.declared.role.Role.{Role}
use Rattle.vol_fields.specs.Runs.{spot_at}
use Rattle.vol_fields.specs.Tables.{parts, part_runs, inner_runs, role_at}

-- the part of an image that has byte n (manual section 5, file system)
abbrev pub part_at : Geometry → ℕ → ℕ → Spot
part_at g len n = spot_at (parts g len) 0 n

-- the field of a part that has byte n; a slot of a directory is one such field (manual section 5, file system)
abbrev pub outer_in : Edition → Role → Spot → ℕ → Spot
outer_in edition role part n = spot_at (part_runs edition role part.name part.bytes) part.start n

-- the field of such a field that has byte n (manual section 5, directories)
abbrev pub inner_in : Spot → ℕ → Spot
inner_in outer n = spot_at (inner_runs outer.name outer.index outer.bytes) outer.start n

-- the field that has byte n of an image with this number of bytes, given the role of each block (manual section 5, file system)
unfoldable pub field_at : Geometry → List Role → ℕ → ℕ → Field
field_at g table len n =
    let part = part_at g len n in record { part = part; spot = inner_in (outer_in g.edition (role_at table part.index) part n) n }
