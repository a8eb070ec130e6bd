-- The rows of a dump as JSON.
use Rattle.std.specs.Prelude.{ℕ, ◌/◌, ◌%◌, max, List, ◌++◌, codes, map}
use Rattle.hex.specs.Hex.{encode_lower}
use Rattle.serde_json.specs.Data.{Data, array, member, no_members, object, string}
use Rattle.serde_json.specs.View.{items_of}
use Rattle.serde_json.specs.Written.{compact_text}
use Rattle.vol_layout.specs.declared.geometry.Geometry.{Geometry}
use Rattle.vol_fields.specs.Lines.{first_bytes, row_number}
use Rattle.vol_fields.specs.Rows.{bytes_of}
use Rattle.vol_fields.specs.Tables.{role_at}
use Rattle.vol_fields.specs.Values.{label, value_kind}
use Rattle.vol_fields.specs.declared.role.Role.{Role}
use Rattle.vol_fields.specs.declared.rows.Row.{Row}
use Rattle.vol_listing.specs.Json.{count}
use Rattle.field_json.specs.Meanings.{meaning_of, words_data}
use Rattle.field_json.specs.Roles.{role_data}
use Rattle.field_json.specs.Values.{ino_data, value_data}

-- the number of fields of a row, which has at least a part of one (this project)
abbrev pub field_count : Row → ℕ
field_count row = max (row.bytes / max row.field.spot.bytes 1) 1

-- a row: the number of its fields, their name, all its bytes, the index of the first field, the i-number of its i-node, what the first field's value
-- means, the place in the block, and the value (this project)
unfoldable pub row_data : Geometry → List Role → List ℕ → Row → Data
row_data g table image row =
    object (member (codes "count") (count (field_count row))
    (member (codes "field") (string (label row.field.spot.name))
    (member (codes "hex") (string (encode_lower (bytes_of image row)))
    (member (codes "index") (count row.field.spot.index)
    (member (codes "ino") (ino_data row.field.part.name row.field.part.index)
    (member (codes "meaning") (words_data (meaning_of g table image row.field.part (value_kind row.field.spot.name) (row_number image row)))
    (member (codes "offset") (count (row.start % 512))
    (member (codes "value") (value_data (value_kind row.field.spot.name) (first_bytes image row)) no_members))))))))

-- rows of the bytes from byte `from` on, with the block that has this byte, and its role (this project)
abbrev pub dump_data : Geometry → List Role → List ℕ → ℕ → List Row → Data
dump_data g table image from rows =
    object (member (codes "block") (count (from / 512))
    (member (codes "format") (count 1)
    (member (codes "role") (role_data (role_at table (from / 512)))
    (member (codes "rows") (array (items_of (map (row_data g table image) rows))) no_members))))

-- rows as JSON, on one line (RFC 8259)
abbrev pub rows_json : Geometry → List Role → List ℕ → ℕ → List Row → List ℕ
rows_json g table image from rows = compact_text (dump_data g table image from rows) ++ codes "\n"
