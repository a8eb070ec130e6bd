-- What differs between two images, as JSON.
use Rattle.std.specs.Prelude.{◌≡◌, ℕ, ◌+◌, ◌-◌, ◌/◌, ◌%◌, min, Bool, if◌then◌else◌, List, codes, length, map, slice_index}
use Rattle.std.specs.List.{flat_map}
use Rattle.serde_json.specs.Data.{Data, member, no_members, null, object, string}
use Rattle.vol_layout.specs.declared.geometry.Geometry.{Geometry}
use Rattle.vol_fields.specs.DiffLines.{changed_bytes, field_bytes, former_text, is_kept}
use Rattle.vol_fields.specs.Differences.{ListsDifferences}
use Rattle.vol_fields.specs.Fields.{field_at}
use Rattle.vol_fields.specs.Tables.{role_at}
use Rattle.vol_fields.specs.Values.{label, value_kind}
use Rattle.vol_fields.specs.declared.differences.Difference.{Difference}
use Rattle.vol_fields.specs.declared.differences.Difference.TheVariants as kinds
use Rattle.vol_fields.specs.declared.field.Field.{Field}
use Rattle.vol_fields.specs.declared.names.Name.{Name}
use Rattle.vol_fields.specs.declared.names.ValueKind.{ValueKind}
use Rattle.vol_fields.specs.declared.names.ValueKind.TheVariants as values
use Rattle.vol_fields.specs.declared.role.Role.{Role}
use Rattle.vol_listing.specs.Json.{count}
use Rattle.field_json.specs.Items.{item_text}
use Rattle.field_json.specs.Roles.{role_data}
use Rattle.field_json.specs.Values.{ino_data, value_data}

-- two lengths (this project)
abbrev pub length_data : ℕ → ℕ → Data
length_data old new =
    object (member (codes "line") (string (codes "length")) (member (codes "new") (count new) (member (codes "old") (count old) no_members)))

-- `count` blocks from block `first` on whose roles changed alike, with the roles of the first of them (this project)
unfoldable pub block_data : List Role → List Role → ℕ → ℕ → Data
block_data old new first number =
    object (member (codes "block") (count first)
    (member (codes "count") (count number)
    (member (codes "line") (string (codes "role"))
    (member (codes "new") (role_data (role_at new first))
    (member (codes "old") (role_data (role_at old first)) no_members)))))

-- the value of a field with these bytes in the old image; null if that has another field there (this project)
abbrev pub old_data : Bool → ValueKind → List ℕ → Data
old_data kept kind bytes = if kept then value_data kind bytes else null

-- what a field was; null if the old image has the same field there (this project)
abbrev pub was_data : Bool → Role → Role → Name → Data
was_data kept was is name = if kept then null else string (former_text was is name)

-- the bytes of a field that differ: how many, and the places of the first and the last of them in the part (this project)
unfoldable pub places_data : List Role → Field → List ℕ → Data
places_data roles field changed =
    object (member (codes "block") (count (field.spot.start / 512))
    (member (codes "count") (count (length changed))
    (member (codes "field") (string (label field.spot.name))
    (member (codes "first_byte") (count (slice_index changed 0 - field.part.start))
    (member (codes "ino") (ino_data field.part.name field.part.index)
    (member (codes "last_byte") (count (slice_index changed (length changed - 1) - field.part.start))
    (member (codes "line") (string (codes "bytes"))
    (member (codes "role") (role_data (role_at roles (field.spot.start / 512))) no_members))))))))

-- the bytes of a field that differ, as far as both images have them (this project)
unfoldable pub bytes_data : List ℕ → List Role → List ℕ → Field → Data
bytes_data old roles new field =
    places_data roles field (changed_bytes old new field.spot.start (min (field.spot.start + field.spot.bytes) (length old)))

-- a field of this kind whose value differs: its value in the old image if that has the same field in a block of the same role, else what it was there;
-- its value in the new image; and the new role of its block (this project)
unfoldable pub change_data : Geometry → List Role → List ℕ → List Role → List ℕ → ValueKind → Field → Data
change_data g table old roles new kind field =
    let block = field.spot.start / 512 in
    let former = field_at g table (length old) field.spot.start in
    let kept = is_kept (role_at table block) (role_at roles block) former field in
    object (member (codes "block") (count block)
    (member (codes "field") (string (label field.spot.name))
    (member (codes "index") (count field.spot.index)
    (member (codes "ino") (ino_data field.part.name field.part.index)
    (member (codes "line") (string (codes "field"))
    (member (codes "new") (value_data kind (field_bytes new field))
    (member (codes "offset") (count (field.spot.start % 512))
    (member (codes "old") (old_data kept kind (field_bytes old former))
    (member (codes "role") (role_data (role_at roles block))
    (member (codes "was") (was_data kept (role_at table block) (role_at roles block) former.spot.name) no_members))))))))))

-- a field of this kind that differs (this project)
abbrev pub field_data : Geometry → List Role → List ℕ → List Role → List ℕ → ValueKind → Field → Data
field_data g table old roles new values.Bytes field = bytes_data old roles new field
field_data g table old roles new kind field = change_data g table old roles new kind field

-- this many fields of an array that differ, from the first to the last of them (this project)
unfoldable pub array_data : List Role → Field → Field → ℕ → Data
array_data roles first last number =
    object (member (codes "block") (count (first.spot.start / 512))
    (member (codes "count") (count number)
    (member (codes "field") (string (label first.spot.name))
    (member (codes "index") (count first.spot.index)
    (member (codes "ino") (ino_data first.part.name first.part.index)
    (member (codes "last_index") (count last.spot.index)
    (member (codes "line") (string (codes "fields"))
    (member (codes "offset") (count (first.spot.start % 512))
    (member (codes "role") (role_data (role_at roles (first.spot.start / 512))) no_members)))))))))

-- a difference between two images (this project)
abbrev pub difference_data : Geometry → List Role → List ℕ → List Role → List ℕ → Difference → Data
difference_data g table old roles new (kinds.Lengths was is) = length_data was is
difference_data g table old roles new (kinds.Roles first last number) = block_data table roles first number
difference_data g table old roles new (kinds.Field field) = field_data g table old roles new (value_kind field.spot.name) field
difference_data g table old roles new (kinds.Fields first last number) = array_data roles first last number

-- the data are the differences between two images, an item for each line of their text, in its order (this project)
abbrev pub AreDifferences : Geometry → List Role → List ℕ → Geometry → List Role → List ℕ → Bool → List Data → Type 0
AreDifferences g table old h roles new all datas =
    (found : List Difference) × ListsDifferences table old h roles new all found × (datas ≡ map (difference_data g table old roles new) found)

-- the text is that of the items of the differences between two images, with a comma before each (RFC 8259)
abbrev pub AreDifferenceItems : Geometry → List Role → List ℕ → Geometry → List Role → List ℕ → Bool → List ℕ → Type 0
AreDifferenceItems g table old h roles new all items =
    (datas : List Data) × AreDifferences g table old h roles new all datas × (items ≡ flat_map item_text datas)
