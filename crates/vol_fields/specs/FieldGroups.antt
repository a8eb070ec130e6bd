-- Fields of one array among those that differ between two images.
use Rattle.std.specs.Prelude.{ℕ, ◌+◌, ◌==◌, ◌&&◌, Bool, false, List, length, map, Option, Some, slice_get}
use Rattle.std.specs.List.{range_with_len}
use Rattle.std.specs.Str.{bytes_eq}
use Rattle.vol_fields.specs.Values.{is_array, label}
use Rattle.vol_fields.specs.declared.field.Field.{Field}
use Rattle.vol_fields.specs.declared.names.Name.{Name}
use Rattle.vol_fields.specs.declared.runs.Spot.{Spot}

-- true if two fields or parts have one name (this project)
abbrev pub is_same_name : Name → Name → Bool
is_same_name name other = bytes_eq (label name) (label other)

-- true if two fields or parts have one name, index and place (this project)
abbrev pub is_same_spot : Spot → Spot → Bool
is_same_spot spot other =
    is_same_name spot.name other.name && ((spot.index == other.index) && ((spot.start == other.start) && (spot.bytes == other.bytes)))

-- true if two fields are the same one (this project)
abbrev pub is_same_field : Field → Field → Bool
is_same_field field other = is_same_spot field.part other.part && is_same_spot field.spot other.spot

-- true if two fields are in one array (this project)
abbrev pub is_one_array : Field → Field → Bool
is_one_array field other =
    is_array field.spot.name && (is_same_name field.spot.name other.spot.name && (field.part.start == other.part.start))

-- the same for two fields that may not be there (this project)
abbrev pub are_one_array : Option Field → Option Field → Bool
are_one_array (Some field) (Some other) = is_one_array field other
are_one_array field other = false

-- true if the field at place k + 1 of a list is in one array with the field at place k (this project)
abbrev pub is_field_joined : List Field → ℕ → Bool
is_field_joined fields k = are_one_array (slice_get fields k) (slice_get fields (k + 1))

-- the same for each place of a list (this project)
unfoldable pub field_joins : List Field → List Bool
field_joins fields = map (is_field_joined fields) (range_with_len 0 (length fields))
