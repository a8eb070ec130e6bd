-- The digits of the rows of a dump.
use Rattle.std.proofs.Common.{◌≡◌, ◌∙◌, ap, sym, refl, ℕ, List, [], ◌∷◌, ◌++◌, map}
use Rattle.std.specs.List.{flat_map}
use Rattle.hex.specs.Hex.{encode_lower, encode_with}
use Rattle.vol_layout.specs.declared.geometry.Geometry.{Geometry}
use Rattle.vol_fields.specs.Rows.{bytes_of}
use Rattle.vol_fields.specs.declared.role.Role.{Role}
use Rattle.vol_fields.specs.declared.rows.Row.{Row}
use Rattle.field_json.specs.Laws.{hex_of}
use Rattle.field_json.specs.Rows.{row_data}

-- the digits of two lists of bytes follow one another
digits_append : (xs ys : List ℕ) → encode_lower (xs ++ ys) ≡ encode_lower xs ++ encode_lower ys
unfolding encode_with
digits_append [] ys = refl
digits_append (x ∷ xs) ys = ap (λ rest. encode_lower (x ∷ []) ++ rest) (digits_append xs ys)

-- the digits of the object of a row are those of its bytes
row_digits : (g : Geometry) (table : List Role) (image : List ℕ) (row : Row) → hex_of (row_data g table image row) ≡ encode_lower (bytes_of image row)
unfolding row_data
row_digits g table image row = refl

-- the digits of the objects of rows are those of their bytes
pub rows_digits : (g : Geometry) (table : List Role) (image : List ℕ) (rows : List Row)
    → flat_map hex_of (map (row_data g table image) rows) ≡ encode_lower (flat_map (bytes_of image) rows)
unfolding encode_with
rows_digits g table image [] = refl
rows_digits g table image (row ∷ rows) =
    ap (λ front. front ++ flat_map hex_of (map (row_data g table image) rows)) (row_digits g table image row)
    ∙ (ap (λ rest. encode_lower (bytes_of image row) ++ rest) (rows_digits g table image rows)
    ∙ sym (digits_append (bytes_of image row) (flat_map (bytes_of image) rows)))
