-- The option `--explain`, which adds a second line to a fault.
use Rattle.std.specs.Prelude.{◌||◌, ℕ, Bool, false, if◌then◌else◌, List, [], ◌∷◌, codes, drop}
use Rattle.std.specs.Str.{bytes_eq}

-- true if one of the words before a lone `--` is `--explain` (this project)
unfoldable pub has_explain : List (List ℕ) → Bool
has_explain [] = false
has_explain (word ∷ rest) = if bytes_eq word (codes "--") then false else (bytes_eq word (codes "--explain") || has_explain rest)

-- true if the words, the first of which is the program's own name, ask for a second line about a fault (this project)
abbrev pub asks_to_explain : List (List ℕ) → Bool
asks_to_explain words = has_explain (drop 1 words)
