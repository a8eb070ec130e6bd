-- No number of a field is a fraction.
use Rattle.std.proofs.Common.{◌≡◌, ℕ, ◌/◌, ◌==◌, Bool, true, false, if◌then◌else◌, List, [], ◌∷◌, length, map, Option, None, Some, refl}
use Rattle.escaped_text.specs.Escape.{escaped}
use Rattle.serde_json.specs.Data.{Data, null, string}
use Rattle.serde_json.specs.View.{items_of}
use Rattle.serde_json.specs.Written.{has_float, items_have_float}
use Rattle.vol_layout.specs.declared.geometry.Geometry.{Geometry}
use Rattle.vol_fields.specs.DiffLines.{field_bytes, former_text, is_kept}
use Rattle.vol_fields.specs.Fields.{field_at}
use Rattle.vol_fields.specs.Lines.{first_bytes, row_number}
use Rattle.vol_fields.specs.Tables.{role_at}
use Rattle.vol_fields.specs.Values.{number_in, value_kind}
use Rattle.vol_fields.specs.declared.differences.Difference.{Difference}
use Rattle.vol_fields.specs.declared.differences.Difference.TheVariants as kinds
use Rattle.vol_fields.specs.declared.field.Field.{Field}
use Rattle.vol_fields.specs.declared.names.Name.{Name}
use Rattle.vol_fields.specs.declared.names.Name.TheVariants as names
use Rattle.vol_fields.specs.declared.names.ValueKind.{ValueKind}
use Rattle.vol_fields.specs.declared.names.ValueKind.TheVariants as values
use Rattle.vol_fields.specs.declared.role.Role.{Role}
use Rattle.vol_fields.specs.declared.role.Role.TheVariants as roles
use Rattle.vol_fields.specs.declared.rows.Row.{Row}
use Rattle.field_json.specs.Changes.{array_data, block_data, bytes_data, change_data, difference_data, field_data, places_data}
use Rattle.field_json.specs.Meanings.{meaning_of, words_data}
use Rattle.field_json.specs.Roles.{role_data}
use Rattle.field_json.specs.Rows.{dump_data, row_data}
use Rattle.field_json.specs.Values.{ino_data, number_data, numbers_data, value_data}

-- if neither of two values has a fraction, the chosen one has none
either_whole : (b : Bool) (x y : Data) → has_float x ≡ false → has_float y ≡ false → has_float (if b then x else y) ≡ false
either_whole true x y first second = first
either_whole false x y first second = second

-- the role of a block has no fraction
role_whole : (role : Role) → has_float (role_data role) ≡ false
unfolding role_data
role_whole roles.System = refl
role_whole (roles.Slots i logical size) = refl
role_whole (roles.Bytes i logical size) = refl
role_whole (roles.Entries i level logical) = refl
role_whole roles.Chain = refl
role_whole roles.Free = refl
role_whole roles.Lost = refl
role_whole roles.Twice = refl
role_whole roles.Outside = refl

-- words have no fraction
words_whole : (words : List ℕ) → has_float (words_data words) ≡ false
unfolding words_data
words_whole words = either_whole (length words == 0) null (string (escaped words)) refl refl

-- the number of a field is no fraction
number_whole : (kind : ValueKind) (n : ℕ) → has_float (number_data kind n) ≡ false
number_whole values.Number n = refl
number_whole values.Mode n = refl
number_whole values.Moment n = refl
number_whole values.Inode n = refl
number_whole values.Block n = refl
number_whole values.Name n = refl
number_whole values.Bytes n = refl

numbers_whole : (kind : ValueKind) (number : Option ℕ) → has_float (numbers_data kind number) ≡ false
numbers_whole kind None = refl
numbers_whole kind (Some n) = number_whole kind n

-- the value of a field is no fraction
value_whole : (kind : ValueKind) (bytes : List ℕ) → has_float (value_data kind bytes) ≡ false
unfolding value_data
value_whole values.Number bytes = numbers_whole values.Number (number_in bytes)
value_whole values.Mode bytes = numbers_whole values.Mode (number_in bytes)
value_whole values.Moment bytes = numbers_whole values.Moment (number_in bytes)
value_whole values.Inode bytes = numbers_whole values.Inode (number_in bytes)
value_whole values.Block bytes = numbers_whole values.Block (number_in bytes)
value_whole values.Name bytes = refl
value_whole values.Bytes bytes = refl

-- the i-number of a part is no fraction
ino_whole : (name : Name) (index : ℕ) → has_float (ino_data name index) ≡ false
unfolding ino_data
ino_whole names.Node index = refl
ino_whole name index = refl

-- a row of a dump has no fraction
row_whole : (g : Geometry) (table : List Role) (image : List ℕ) (row : Row) → has_float (row_data g table image row) ≡ false
unfolding row_data
row_whole g table image row =
    let kind = value_kind row.field.spot.name in
    rw (
      ino_whole row.field.part.name row.field.part.index,
      words_whole (meaning_of g table image row.field.part kind (row_number image row)),
      value_whole kind (first_bytes image row),
    ) refl

rows_whole : (g : Geometry) (table : List Role) (image : List ℕ) (rows : List Row) → items_have_float (items_of (map (row_data g table image) rows)) ≡ false
rows_whole g table image [] = refl
rows_whole g table image (row ∷ rows) = rw (row_whole g table image row) (rows_whole g table image rows)

-- a dump has no fraction
pub dump_whole : (g : Geometry) (table : List Role) (image : List ℕ) (from : ℕ) (rows : List Row) → has_float (dump_data g table image from rows) ≡ false
dump_whole g table image from rows = rw (role_whole (role_at table (from / 512)), rows_whole g table image rows) refl

-- blocks whose roles changed have no fraction
block_whole : (old new : List Role) (first count : ℕ) → has_float (block_data old new first count) ≡ false
unfolding block_data
block_whole old new first count = rw (role_whole (role_at old first), role_whole (role_at new first)) refl

-- bytes that differ have no fraction
bytes_whole : (old : List ℕ) (table : List Role) (new : List ℕ) (field : Field) → has_float (bytes_data old table new field) ≡ false
unfolding bytes_data places_data
bytes_whole old table new field = rw (ino_whole field.part.name field.part.index, role_whole (role_at table (field.spot.start / 512))) refl

-- a value that differs has no fraction
change_whole : (g : Geometry) (was : List Role) (old : List ℕ) (is : List Role) (new : List ℕ) (kind : ValueKind) (field : Field)
    → has_float (change_data g was old is new kind field) ≡ false
unfolding change_data
change_whole g was old is new kind field =
    let block = field.spot.start / 512 in
    let former = field_at g was (length old) field.spot.start in
    let kept = is_kept (role_at was block) (role_at is block) former field in
    rw (
      ino_whole field.part.name field.part.index,
      value_whole kind (field_bytes new field),
      either_whole kept (value_data kind (field_bytes old former)) null (value_whole kind (field_bytes old former)) refl,
      role_whole (role_at is block),
      either_whole kept null (string (former_text (role_at was block) (role_at is block) former.spot.name)) refl refl,
    ) refl

-- a field that differs has no fraction
field_whole : (g : Geometry) (was : List Role) (old : List ℕ) (is : List Role) (new : List ℕ) (kind : ValueKind) (field : Field)
    → has_float (field_data g was old is new kind field) ≡ false
field_whole g was old is new values.Bytes field = bytes_whole old is new field
field_whole g was old is new values.Number field = change_whole g was old is new values.Number field
field_whole g was old is new values.Mode field = change_whole g was old is new values.Mode field
field_whole g was old is new values.Moment field = change_whole g was old is new values.Moment field
field_whole g was old is new values.Inode field = change_whole g was old is new values.Inode field
field_whole g was old is new values.Block field = change_whole g was old is new values.Block field
field_whole g was old is new values.Name field = change_whole g was old is new values.Name field

-- fields of an array that differ have no fraction
array_whole : (table : List Role) (first last : Field) (count : ℕ) → has_float (array_data table first last count) ≡ false
unfolding array_data
array_whole table first last count = rw (ino_whole first.part.name first.part.index, role_whole (role_at table (first.spot.start / 512))) refl

-- a difference has no fraction
pub difference_whole : (g : Geometry) (was : List Role) (old : List ℕ) (is : List Role) (new : List ℕ) (difference : Difference)
    → has_float (difference_data g was old is new difference) ≡ false
difference_whole g was old is new (kinds.Lengths from to) = refl
difference_whole g was old is new (kinds.Roles first last count) = block_whole was is first count
difference_whole g was old is new (kinds.Field field) = field_whole g was old is new (value_kind field.spot.name) field
difference_whole g was old is new (kinds.Fields first last count) = array_whole is first last count
