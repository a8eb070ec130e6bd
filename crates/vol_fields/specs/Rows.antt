-- The rows of a dump.
use Rattle.std.specs.Prelude.{◌≡◌, ℕ, zero, suc, ◌+◌, ◌-◌, ◌<◌, ◌≤◌, ◌==◌, min, nat_le, nat_lt, ◌||◌, ◌&&◌, Bool, if◌then◌else◌, List, [], ◌∷◌, length, slice_range, slice_index_or}
use Rattle.std.specs.List.{flat_map, list_all}
use Rattle.vol_layout.specs.Geometry.{Fits}
use Rattle.vol_layout.specs.declared.geometry.Geometry.{Geometry}
use Rattle.vol_fields.specs.Fields.{field_at}
use Rattle.vol_fields.specs.Values.{is_array}
use Rattle.vol_fields.specs.declared.field.Field.{Field}
use Rattle.vol_fields.specs.declared.role.Role.{Role}
use Rattle.vol_fields.specs.declared.rows.Row.{Row}

-- true if all bytes from n up to byte `to` are zero (this project)
abbrev pub is_zero : List ℕ → ℕ → ℕ → Bool
is_zero image n to = list_all (λ c. c == 0) (slice_range image n to)

-- the number of bytes of a row that begins at byte n, if its field ends at byte `end`: at most 16, but all if they are zero (this project)
abbrev pub row_bytes : List ℕ → ℕ → ℕ → ℕ
row_bytes image n end = if nat_le (end - n) 16 || is_zero image n end then end - n else 16

-- the byte at which the row of a field ends at the latest, if the rows end at byte `to` (this project)
abbrev pub row_end : Field → ℕ → ℕ
row_end field to = min (field.spot.start + field.spot.bytes) to

-- the byte after the field that has byte n, or `to` if that is less (this project)
abbrev pub item_end : Geometry → List Role → ℕ → ℕ → ℕ → ℕ
item_end g table len to n = row_end (field_at g table len n) to

-- true if byte n is before `to`, in a field of an array, and the bytes of the field from there on are zero (this project)
abbrev pub is_zero_item : Geometry → List Role → List ℕ → ℕ → ℕ → Bool
is_zero_item g table image to n =
    nat_lt n to && (is_array (field_at g table (length image) n).spot.name && is_zero image n (item_end g table (length image) to n))

-- the byte after the last of at most `count` fields of an array that follow one another from byte n on and are zero (this project)
unfoldable pub array_end : Geometry → List Role → List ℕ → ℕ → ℕ → ℕ → ℕ
array_end g table image to zero n = n
array_end g table image to (suc count) n =
    if is_zero_item g table image to n then array_end g table image to count (item_end g table (length image) to n) else n

-- the number of bytes of the row that begins at byte n of this field, if its rows end at byte `to`: zero fields of an array are one row (this project)
abbrev pub bytes_at : Geometry → List Role → List ℕ → ℕ → Field → ℕ → ℕ
bytes_at g table image to field n =
    if is_array field.spot.name && is_zero image n (row_end field to) then array_end g table image to (to - row_end field to) (row_end field to) - n
    else row_bytes image n (row_end field to)

-- the row that begins at byte n, if the rows end at byte `to` (this project)
unfoldable pub row_at : Geometry → List Role → List ℕ → ℕ → ℕ → Row
row_at g table image to n =
    let field = field_at g table (length image) n in record { field = field; start = n; bytes = bytes_at g table image to field n }

-- rows from byte n up to byte `done` follow one another, if all rows end at byte `to` (this project)
abbrev pub AreRows : Geometry → List Role → List ℕ → ℕ → ℕ → ℕ → List Row → Type 0
AreRows g table image to n done [] = n ≡ done
AreRows g table image to n done (row ∷ more) =
    (n < to) × (row ≡ row_at g table image to n) × AreRows g table image to (n + row.bytes) done more

-- each row begins and ends at or before byte `to` (this project)
abbrev pub AreWithin : ℕ → List Row → Type 0
AreWithin to rows = (k : ℕ) (d : Row) → k < length rows → (slice_index_or rows k d).start + (slice_index_or rows k d).bytes ≤ to

-- the bytes of a row (this project)
abbrev pub bytes_of : List ℕ → Row → List ℕ
bytes_of image row = slice_range image row.start (row.start + row.bytes)

-- the bytes of the rows, in order, are the bytes of the image from `from` up to `to` (this project's law)
abbrev pub RowsHaveBytes : Type 0
RowsHaveBytes = (g : Geometry) (image : List ℕ) (table : List Role) (from to : ℕ) (rows : List Row) → Fits g image → to ≤ length image
    → AreRows g table image to from to rows → flat_map (bytes_of image) rows ≡ slice_range image from to
