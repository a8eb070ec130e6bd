-- The pieces in which lists of lines are written.
use Rattle.std.proofs.Common.{◌≡◌, ◌∙◌, ap, sym, refl, ℕ, true, false, List, [], ◌∷◌, ◌++◌, codes, append_assoc, arith}
use Rattle.std.specs.Prelude.{decimal}
use Rattle.std.specs.List.{flat_map}
use Rattle.std.proofs.lemmas.Fmt.{decimal_digit}
use Rattle.serde_json.specs.Data.{Data, string}
use Rattle.serde_json.specs.View.{items_of}
use Rattle.serde_json.specs.Written.{compact_text, has_float, items_have_float, items_text}
use Rattle.serde_json.proofs.OnLiterals.{serde_json_on_literals}
use Rattle.field_json.specs.Items.{after_first, around, item_text, lines_data, lines_json}

-- the items after the first, with the bracket after them
items_later : (ds : List Data) → items_text true (items_of ds) ≡ flat_map item_text ds ++ 93 ∷ []
unfolding item_text
items_later [] = refl
items_later (d ∷ ds) =
    ap (λ rest. 44 ∷ (compact_text d ++ rest)) (items_later ds)
    ∙ ap (λ rest. 44 ∷ rest) (sym (append_assoc (compact_text d) (flat_map item_text ds) (93 ∷ [])))

-- the items of a list, with the bracket after them
items_front : (ds : List Data) → items_text false (items_of ds) ≡ after_first (flat_map item_text ds) ++ 93 ∷ []
unfolding item_text
items_front [] = refl
items_front (d ∷ ds) =
    ap (λ rest. compact_text d ++ rest) (items_later ds) ∙ sym (append_assoc (compact_text d) (flat_map item_text ds) (93 ∷ []))

-- the brackets and the newline after the items are the last piece of a report
pub after_items : (items : List ℕ) → items ++ codes "]}\n" ≡ ((items ++ 93 ∷ []) ++ 125 ∷ []) ++ codes "\n"
after_items items = sym (append_assoc (items ++ 93 ∷ []) (125 ∷ []) (codes "\n") ∙ append_assoc items (93 ∷ []) (125 ∷ codes "\n"))

-- the text of an object with a list under this key, from that of the format and of the list on
abbrev pub list_of : List ℕ → List ℕ → List ℕ → List ℕ
list_of key format found =
    123 ∷ (compact_text (string (codes "format")) ++ 58 ∷ (format ++ (44 ∷ (compact_text (string key) ++ 58 ∷ (91 ∷ (found ++ 125 ∷ []))))))

-- such an object is written in two pieces
lines_in_two : (items : List ℕ)
    → codes "{\"format\":1,\"lines\":[" ++ (items ++ codes "]}\n") ≡ list_of (codes "lines") (codes "1") (items ++ 93 ∷ []) ++ codes "\n"
unfolding serde_json_on_literals
lines_in_two items = ap (λ rest. codes "{\"format\":1,\"lines\":[" ++ rest) (after_items items)

-- the pieces in which a list of lines is written are its text
pub around_items : (ds : List Data) → around (flat_map item_text ds) ≡ lines_json ds
around_items ds =
    let items = after_first (flat_map item_text ds) in
    lines_in_two items
    ∙ (ap (λ format. list_of (codes "lines") format (items ++ 93 ∷ []) ++ codes "\n") (sym (decimal_digit 1 (omega arith)))
    ∙ ap (λ found. list_of (codes "lines") (decimal 1) found ++ codes "\n") (sym (items_front ds)))

-- if some values have no fraction, a list of lines with them has none
pub lines_whole : (ds : List Data) → items_have_float (items_of ds) ≡ false → has_float (lines_data ds) ≡ false
lines_whole ds whole = rw whole refl
