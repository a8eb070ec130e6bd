-- The map of a directory, from names to i-numbers, in ascending order of the names' bytes.
use Rattle.std.specs.Prelude.{ℕ, ◌||◌, Bool, not, List, [], ◌∷◌, map, Option, None, Some}
use Rattle.std.specs.Cmp.Lexicographic.{slice_cmp}
use Rattle.std.specs.FinMap.Entries.{find, put, where_key}
use Rattle.std.specs.Ordering.{nat_cmp, eq_by_cmp}
use Rattle.std.specs.Option.{option_map}
use Rattle.std.specs.Str.{bytes_eq}

-- a map from names to i-numbers (manual section 5, directories)
abbrev pub Names : Type 0
Names = List (List ℕ × ℕ)

-- the i-number of a name in a map, or None if the map doesn't have the name (Lions on namei)
abbrev pub get : Names → List ℕ → Option ℕ
get names name = find (slice_cmp nat_cmp) name names

-- a map in which a name is set to i-number i (Lions on wdir)
abbrev pub insert : Names → List ℕ → ℕ → Names
insert names name i = put (slice_cmp nat_cmp) name i names

-- a map from which a name is removed (Lions on unlink)
abbrev pub remove : Names → List ℕ → Names
remove names name = where_key (slice_cmp nat_cmp) (λ other. not (eq_by_cmp (slice_cmp nat_cmp) name other)) names

-- the map of the entries in slots; if a name occurs twice, the first slot counts, as in a search from the first slot (Lions on namei)
abbrev pub names_of : List (Option (List ℕ × ℕ)) → Names
names_of [] = []
names_of (None ∷ slots) = names_of slots
names_of (Some entry ∷ slots) = insert (names_of slots) entry.0 entry.1

-- the name in each slot, or None for an empty slot (manual section 5, directories)
abbrev pub names_in : List (Option (List ℕ × ℕ)) → List (Option (List ℕ))
names_in slots = map (option_map (λ (entry : List ℕ × ℕ). entry.0)) slots

-- the name `.` (manual section 5, directories)
abbrev pub dot : List ℕ
dot = 46 ∷ []

-- the name `..` (manual section 5, directories)
abbrev pub dot_dot : List ℕ
dot_dot = 46 ∷ 46 ∷ []

-- true if a name is `.` or `..` (manual section 5, directories)
abbrev pub is_dots : List ℕ → Bool
is_dots name = bytes_eq name dot || bytes_eq name dot_dot
