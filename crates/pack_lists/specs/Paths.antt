-- Paths in lists.
use Rattle.std.specs.Prelude.{ℕ, ◌==◌, ◌&&◌, Bool, false, not, nat_le, List, [], ◌∷◌, length, codes}
use Rattle.std.specs.List.{list_all, list_any, slice_split}
use Rattle.std.specs.Str.{bytes_eq}

-- true if a name of a path isn't empty and isn't `.` (this project)
abbrev pub is_name : List ℕ → Bool
is_name name = not (length name == 0) && not (bytes_eq name (codes "."))

-- true if each name between slashes is one (this project)
abbrev pub are_names : List ℕ → Bool
are_names names = list_all is_name (slice_split (λ c. c == 47) names)

-- true if bytes begin with a slash, and names follow it, apart by slashes (this project)
abbrev pub is_rooted : List ℕ → Bool
is_rooted [] = false
is_rooted (c ∷ names) = (c == 47) && are_names names

-- true if a word has a byte (this project)
abbrev pub has_byte : ℕ → List ℕ → Bool
has_byte byte word = list_any (λ c. c == byte) word

-- true if a word is a path in a volume: a slash before each name, no NUL, and at most 4,096 bytes (this project)
unfoldable pub is_path : List ℕ → Bool
is_path word = nat_le (length word) 4096 && (not (has_byte 0 word) && is_rooted word)
