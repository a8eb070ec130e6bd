-- The lines of a dump.
use Rattle.std.specs.Prelude.{ℕ, ◌+◌, ◌-◌, ◌*◌, ◌/◌, ◌%◌, ◌==◌, max, min, nat_lt, not, ◌||◌, if◌then◌else◌, List, [], ◌∷◌, ◌++◌, length, codes, decimal, replicate, slice_range, Option}
use Rattle.std.specs.List.{flat_map}
use Rattle.vol_layout.specs.declared.geometry.Geometry.{Geometry}
use Rattle.vol_fields.specs.Rows.{bytes_of}
use Rattle.vol_fields.specs.Tables.{role_at}
use Rattle.vol_fields.specs.Values.{is_array, is_in_slot, label, number_in, role_text, value_kind, value_text}
use Rattle.vol_fields.specs.declared.lines.Radix.{Radix}
use Rattle.vol_fields.specs.declared.lines.Radix.TheVariants as radixes
use Rattle.vol_fields.specs.declared.names.Name.{Name}
use Rattle.vol_fields.specs.declared.names.Name.TheVariants as names
use Rattle.vol_fields.specs.declared.role.Role.{Role}
use Rattle.vol_fields.specs.declared.role.Role.TheVariants as roles
use Rattle.vol_fields.specs.declared.rows.Row.{Row}
use Rattle.vol_fields.specs.declared.runs.Spot.{Spot}

-- a digit of a number in hexadecimal digits (od)
abbrev pub hex_digit : ℕ → ℕ
hex_digit d = if nat_lt d 10 then 48 + d else 87 + d

-- a byte in digits: two hexadecimal or three octal ones (od)
abbrev pub byte_digits : Radix → ℕ → List ℕ
byte_digits radixes.Hex c = hex_digit (c / 16) ∷ hex_digit (c % 16) ∷ []
byte_digits radixes.Octal c = (48 + c / 64) ∷ (48 + c / 8 % 8) ∷ (48 + c % 8) ∷ []

-- bytes in digits, with a space before each (od)
unfoldable pub all_digits : Radix → List ℕ → List ℕ
all_digits radix bytes = flat_map (λ c. 32 ∷ byte_digits radix c) bytes

-- the number of columns of a byte: its digits and a space (this project)
abbrev pub unit : Radix → ℕ
unit radixes.Hex = 3
unit radixes.Octal = 4

-- this many zero bytes, with a space before them (this project)
abbrev pub zeros_text : Radix → ℕ → List ℕ
zeros_text radix count = (32 ∷ byte_digits radix 0) ++ (codes " .. (" ++ (decimal count ++ codes " bytes)"))

-- the bytes of a row: if these are more than 16 or of several fields, all are zero and only one is written (this project)
abbrev pub stored_text : Radix → List ℕ → Row → List ℕ
stored_text radix image row =
    if nat_lt 16 row.bytes || nat_lt row.field.spot.bytes row.bytes then zeros_text radix row.bytes else all_digits radix (bytes_of image row)

-- the number of bytes for which the lines of a part have columns (this project)
abbrev pub places : Name → Role → ℕ
places names.Super role = 6
places names.Node role = 6
places names.Data (roles.Slots ino logical size) = 14
places names.Data (roles.Entries ino level logical) = 6
places names.Data roles.Chain = 6
places name role = 16

-- the name of `count` fields that follow one another, the first with this index (filsys.h; ino.h; fblk.h; this project)
abbrev pub fields_name : Name → ℕ → ℕ → List ℕ
fields_name name index count =
    if is_in_slot name then codes "slot " ++ (decimal index ++ (codes " " ++ label name))
    else if not (is_array name) then label name
    else if nat_lt count 2 then label name ++ (codes "[" ++ (decimal index ++ codes "]"))
    else label name ++ (codes "[" ++ (decimal index ++ (codes ".." ++ (decimal (index + (count - 1)) ++ codes "]"))))

-- the number of fields of a row (this project)
abbrev pub field_count : Row → ℕ
field_count row = row.bytes / max row.field.spot.bytes 1

-- the name of the fields of a row (this project)
abbrev pub row_name : Row → List ℕ
row_name row = fields_name row.field.spot.name row.field.spot.index (field_count row)

-- a text with spaces after it, up to a width (this project)
abbrev pub left : ℕ → List ℕ → List ℕ
left width text = text ++ replicate (width - length text) 32

-- a text with spaces before it, up to a width (this project)
abbrev pub right : ℕ → List ℕ → List ℕ
right width text = replicate (width - length text) 32 ++ text

-- a name, and a value if there is one (this project)
abbrev pub named_value : List ℕ → List ℕ → List ℕ
named_value name value = if length value == 0 then name else left 16 name ++ (codes "  " ++ value)

-- the bytes of the first field of a row (this project)
abbrev pub first_bytes : List ℕ → Row → List ℕ
first_bytes image row = slice_range image row.start (row.start + min row.bytes row.field.spot.bytes)

-- the number that the first field of a row has, if it is one of 1 to 4 bytes (this project)
abbrev pub row_number : List ℕ → Row → Option ℕ
row_number image row = number_in (first_bytes image row)

-- the value of the first field of a row, and what it means (this project)
abbrev pub row_value : Geometry → List Role → List ℕ → Row → List ℕ
row_value g table image row = value_text g table image row.field.part (value_kind row.field.spot.name) (first_bytes image row)

-- the bytes of a row in their columns (this project)
abbrev pub row_columns : List Role → List ℕ → Radix → Row → List ℕ
row_columns table image radix row =
    left (unit radix * places row.field.part.name (role_at table row.field.part.index)) (stored_text radix image row)

-- the line of a row without its end: the place of its first byte in the block, its bytes, its name, and its value if it has one (this project)
abbrev pub line_text : Geometry → List Role → List ℕ → Radix → Row → List ℕ
line_text g table image radix row =
    right 5 (decimal (row.start % 512))
    ++ (row_columns table image radix row ++ (codes "  " ++ named_value (row_name row) (row_value g table image row)))

-- the heading of a part: its block and role, or its i-number and place (this project)
abbrev pub heading : List Role → Name → Spot → List ℕ
heading table names.Boot part = codes "block 0: boot block"
heading table names.Super part = codes "block 1: super-block"
heading table names.Node part =
    codes "i-node " ++ (decimal part.index ++ (codes ": block " ++ (decimal (part.start / 512) ++ (codes ", byte " ++ decimal (part.start % 512)))))
heading table names.Data part = codes "block " ++ (decimal part.index ++ (codes ": " ++ role_text (role_at table part.index)))
heading table name part = codes "after the last block"

-- the line of the heading of a row's part, if the row begins the part (this project)
abbrev pub heading_line : List Role → Row → List ℕ
heading_line table row = if row.start == row.field.part.start then heading table row.field.part.name row.field.part ++ codes "\n" else []

-- a row: the heading of its part if it begins that, and its line without its end (this project)
unfoldable pub row_text : Geometry → List Role → List ℕ → Radix → Row → List ℕ
row_text g table image radix row = heading_line table row ++ line_text g table image radix row
