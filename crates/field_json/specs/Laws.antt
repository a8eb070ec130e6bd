-- The laws of the fields of an image as JSON.
use Rattle.std.specs.Prelude.{◌≡◌, ℕ, ◌≤◌, Bool, List, [], codes, length, map, slice_range, Option, Some}
use Rattle.std.specs.List.{flat_map}
use Rattle.hex.specs.Hex.{encode_lower}
use Rattle.serde_json.specs.Data.{Data, string}
use Rattle.serde_json.specs.Find.{get}
use Rattle.vol_layout.specs.Geometry.{Fits}
use Rattle.vol_layout.specs.declared.geometry.Geometry.{Geometry}
use Rattle.vol_fields.specs.Rows.{AreRows}
use Rattle.vol_fields.specs.declared.role.Role.{Role}
use Rattle.vol_fields.specs.declared.rows.Row.{Row}
use Rattle.field_json.specs.Changes.{AreDifferences}
use Rattle.field_json.specs.Rows.{row_data}

-- a text; nothing else has one (this project)
abbrev pub text_of : Option Data → List ℕ
text_of (Some (string text)) = text
text_of other = []

-- the digits of an object's bytes (this project)
abbrev pub hex_of : Data → List ℕ
hex_of d = text_of (get (codes "hex") d)

-- the digits of the objects of the rows of a dump, in order, are those of the bytes of the image from `from` up to `to` (this project's law)
abbrev pub ObjectsHaveBytes : Type 0
ObjectsHaveBytes = (g : Geometry) (image : List ℕ) (table : List Role) (from to : ℕ) (rows : List Row) → Fits g image → to ≤ length image
    → AreRows g table image to from to rows → flat_map hex_of (map (row_data g table image) rows) ≡ encode_lower (slice_range image from to)

-- there is no item if and only if the images are equal byte for byte; equal images have equal sizes and roles (this project's law)
abbrev pub HasNoItemIfEqual : Type 0
HasNoItemIfEqual = (g h : Geometry) (table roles : List Role) (old new : List ℕ) (all : Bool) (datas : List Data)
    → AreDifferences g table old h roles new all datas → (old ≡ new → table ≡ roles → datas ≡ []) × (datas ≡ [] → old ≡ new)
