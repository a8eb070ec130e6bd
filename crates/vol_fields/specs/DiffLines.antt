-- The lines of the differences between two images.
use Rattle.std.specs.Prelude.{ℕ, ◌+◌, ◌-◌, ◌/◌, ◌==◌, min, not, ◌&&◌, Bool, if◌then◌else◌, List, [], ◌++◌, codes, decimal, length, slice_index, slice_range, Option, Some, None}
use Rattle.std.specs.List.{filter, range_with_len}
use Rattle.escaped_text.specs.Escape.{escaped}
use Rattle.vol_layout.specs.declared.geometry.Geometry.{Geometry}
use Rattle.vol_inspect.specs.Texts.{octal_text}
use Rattle.vol_fields.specs.FieldGroups.{is_same_field}
use Rattle.vol_fields.specs.Fields.{field_at}
use Rattle.vol_fields.specs.Lines.{fields_name}
use Rattle.vol_fields.specs.RoleChanges.{is_moved}
use Rattle.vol_fields.specs.Tables.{role_at}
use Rattle.vol_fields.specs.Values.{label, number_in, role_text, shown_name, value_kind}
use Rattle.vol_fields.specs.declared.differences.Difference.{Difference}
use Rattle.vol_fields.specs.declared.differences.Difference.TheVariants as kinds
use Rattle.vol_fields.specs.declared.field.Field.{Field}
use Rattle.vol_fields.specs.declared.names.Name.{Name}
use Rattle.vol_fields.specs.declared.names.Name.TheVariants as names
use Rattle.vol_fields.specs.declared.names.ValueKind.{ValueKind}
use Rattle.vol_fields.specs.declared.names.ValueKind.TheVariants as values
use Rattle.vol_fields.specs.declared.role.Role.{Role}
use Rattle.vol_fields.specs.declared.role.Role.TheVariants as roles
use Rattle.vol_fields.specs.declared.runs.Spot.{Spot}

-- the line of two lengths (this project)
abbrev pub length_line : ℕ → ℕ → List ℕ
length_line old new = codes "image: " ++ (decimal old ++ (codes " -> " ++ (decimal new ++ codes " bytes\n")))

-- the blocks from `first` to `last` (this project)
abbrev pub blocks_text : ℕ → ℕ → List ℕ
blocks_text first last =
    if first == last then codes "block " ++ decimal first else codes "blocks " ++ (decimal first ++ (codes " to " ++ decimal last))

-- the line of blocks whose roles changed alike, with the roles of the first of them (this project)
unfoldable pub block_line : List Role → List Role → ℕ → ℕ → List ℕ
block_line old new first last =
    blocks_text first last ++ (codes ": " ++ (role_text (role_at old first) ++ (codes " -> " ++ (role_text (role_at new first) ++ codes "\n"))))

-- a block with this role, as a part of an image (this project)
abbrev pub block_text : ℕ → Role → List ℕ
block_text b (roles.Slots ino logical size) = if logical == 0 then codes "directory " ++ decimal ino else role_text (roles.Slots ino logical size)
block_text b (roles.Bytes ino logical size) = role_text (roles.Bytes ino logical size)
block_text b (roles.Entries ino level logical) = role_text (roles.Entries ino level logical)
block_text b roles.Chain = codes "chain block " ++ decimal b
block_text b roles.Free = codes "free block " ++ decimal b
block_text b roles.Lost = codes "lost block " ++ decimal b
block_text b roles.Twice = codes "block " ++ (decimal b ++ codes ", named twice")
block_text b role = codes "block " ++ decimal b

-- a part of an image (this project)
abbrev pub part_text : List Role → Name → Spot → List ℕ
part_text table names.Boot part = codes "boot block"
part_text table names.Super part = codes "super-block"
part_text table names.Node part = codes "i-node " ++ decimal part.index
part_text table names.Data part = block_text part.index (role_at table part.index)
part_text table name part = codes "after the last block"

-- the name of a field with this index, after its part; a field that is all of a part has none (this project)
abbrev pub after_part : Name → ℕ → List ℕ
after_part names.Boot index = []
after_part names.Data index = []
after_part names.Past index = []
after_part names.Bytes index = []
after_part name index = codes " " ++ fields_name name index 1

-- a field, after its part (this project)
abbrev pub named_part : List Role → Field → List ℕ
named_part table field = part_text table field.part.name field.part ++ after_part field.spot.name field.spot.index

-- a mode in octal digits (ls -l; this project)
abbrev pub mode_text : ℕ → List ℕ
mode_text n = if n == 0 then codes "0" else octal_text n

-- a number that a field of this kind has; a mode in octal digits (this project)
abbrev pub plain_number : ValueKind → ℕ → List ℕ
plain_number values.Mode n = mode_text n
plain_number kind n = decimal n

-- the number that a field of this kind has, if it has one (this project)
abbrev pub plain_numbers : ValueKind → Option ℕ → List ℕ
plain_numbers kind None = []
plain_numbers kind (Some n) = plain_number kind n

-- the value of a field with these bytes: a number, or a name in quotation marks (this project)
abbrev pub plain_value : ValueKind → List ℕ → List ℕ
plain_value values.Name bytes = codes "\"" ++ (escaped (shown_name bytes) ++ codes "\"")
plain_value kind bytes = plain_numbers kind (number_in bytes)

-- the bytes of a field in an image (this project)
abbrev pub field_bytes : List ℕ → Field → List ℕ
field_bytes image field = slice_range image field.spot.start (field.spot.start + field.spot.bytes)

-- what a field was in an image with another field at its first byte: the role of the block if that differs, otherwise the name of the other field
-- (this project)
abbrev pub former_text : Role → Role → Name → List ℕ
former_text old new name = if is_moved 0 old new then label name else role_text old

-- true if a field of the new image is one of the old image too, in a block of the same role (this project)
abbrev pub is_kept : Role → Role → Field → Field → Bool
is_kept old new former field = is_same_field former field && is_moved 0 old new

-- the value of a field in the old image; what the field was, if the old image has another one there (this project)
abbrev pub old_value : Geometry → List Role → List ℕ → List Role → Field → List ℕ
old_value g table image new field =
    let block = field.spot.start / 512 in
    let former = field_at g table (length image) field.spot.start in
    if is_kept (role_at table block) (role_at new block) former field then plain_value (value_kind field.spot.name) (field_bytes image former) ++ codes " -> "
    else codes "(was " ++ (former_text (role_at table block) (role_at new block) former.spot.name ++ codes ") -> ")

-- the bytes from `from` up to `to` that differ (this project)
unfoldable pub changed_bytes : List ℕ → List ℕ → ℕ → ℕ → List ℕ
changed_bytes old new from to = filter (λ n. not (slice_index old n == slice_index new n)) (range_with_len from (to - from))

-- how many bytes differ, and the places of the first and the last of them (this project)
abbrev pub count_text : ℕ → ℕ → ℕ → List ℕ
count_text count first last =
    if count == 1 then codes ": 1 byte differs, " ++ decimal first
    else codes ": " ++ (decimal count ++ (codes " bytes differ, " ++ (decimal first ++ (codes " to " ++ decimal last))))

-- how many of the bytes of a part that begins at byte `start` differ, and the places of the first and the last of these in the part (this project)
abbrev pub places_text : ℕ → List ℕ → List ℕ
places_text start changed =
    count_text (length changed) (slice_index changed 0 - start) (slice_index changed (length changed - 1) - start)

-- the bytes of a field that differ, as far as both images have them (this project)
abbrev pub bytes_text : List ℕ → List ℕ → Field → List ℕ
bytes_text old new field =
    places_text field.part.start (changed_bytes old new field.spot.start (min (field.spot.start + field.spot.bytes) (length old)))

-- how a field of this kind differs: both values; of bytes without a value, which of them (this project)
abbrev pub change_text : Geometry → List Role → List ℕ → List Role → List ℕ → ValueKind → Field → List ℕ
change_text g table old roles new values.Bytes field = bytes_text old new field
change_text g table old roles new kind field =
    codes " " ++ (old_value g table old roles field ++ plain_value kind (field_bytes new field))

-- the line of a field of the new image whose bytes differ (this project)
unfoldable pub field_line : Geometry → List Role → List ℕ → List Role → List ℕ → Field → List ℕ
field_line g table old roles new field =
    named_part roles field ++ (change_text g table old roles new (value_kind field.spot.name) field ++ codes "\n")

-- the line of `count` fields of an array of the new image that differ, from the first to the last of them (this project)
unfoldable pub array_line : List Role → Field → Field → ℕ → List ℕ
array_line roles first last count =
    part_text roles first.part.name first.part ++ (codes " " ++ (label first.spot.name ++ (codes "[" ++ (decimal first.spot.index ++ (codes ".."
    ++ (decimal last.spot.index ++ (codes "]: " ++ (decimal count ++ codes " differ\n"))))))))

-- the line of a difference (this project)
abbrev pub difference_line : Geometry → List Role → List ℕ → List Role → List ℕ → Difference → List ℕ
difference_line g table old roles new (kinds.Lengths was is) = length_line was is
difference_line g table old roles new (kinds.Roles first last count) = block_line table roles first last
difference_line g table old roles new (kinds.Field field) = field_line g table old roles new field
difference_line g table old roles new (kinds.Fields first last count) = array_line roles first last count
