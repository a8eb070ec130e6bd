-- The values of fields as JSON.
use Rattle.std.specs.Prelude.{ℕ, ◌%◌, List, Option, Some, None}
use Rattle.escaped_text.specs.Escape.{escaped}
use Rattle.serde_json.specs.Data.{Data, null, string}
use Rattle.vol_fields.specs.Values.{number_in, shown_name}
use Rattle.vol_fields.specs.declared.names.Name.{Name}
use Rattle.vol_fields.specs.declared.names.Name.TheVariants as names
use Rattle.vol_fields.specs.declared.names.ValueKind.{ValueKind}
use Rattle.vol_fields.specs.declared.names.ValueKind.TheVariants as values
use Rattle.vol_listing.specs.Json.{count, octal}

-- a number that a field of this kind has; a mode as text in octal digits (this project)
abbrev pub number_data : ValueKind → ℕ → Data
number_data values.Mode n = octal (n % 65536)
number_data kind n = count n

-- the number that a field of this kind has, or null if it has none (this project)
abbrev pub numbers_data : ValueKind → Option ℕ → Data
numbers_data kind None = null
numbers_data kind (Some n) = number_data kind n

-- the value of a field with these bytes: a number, or a name as text; null if it has none (this project)
unfoldable pub value_data : ValueKind → List ℕ → Data
value_data values.Name bytes = string (escaped (shown_name bytes))
value_data values.Bytes bytes = null
value_data kind bytes = numbers_data kind (number_in bytes)

-- the i-number of a part that is an i-node, else null (this project)
unfoldable pub ino_data : Name → ℕ → Data
ino_data names.Node index = count index
ino_data name index = null
