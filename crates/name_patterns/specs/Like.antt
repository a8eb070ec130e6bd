-- The last name of a path, and names that match a pattern.
use Rattle.std.specs.Prelude.{ℕ, ◌==◌, ◌&&◌, ◌||◌, Bool, false, if◌then◌else◌, List, [], ◌∷◌, length}

-- true if `like` accepts some end of a name: the whole name, or the name without any number of its first bytes (glob, manual section 8 of the sixth
-- edition)
unfoldable pub ends_like : (List ℕ → Bool) → List ℕ → Bool
ends_like like [] = like []
ends_like like (c ∷ name) = like (c ∷ name) || ends_like like name

-- true if a byte of a pattern, other than `*`, matches a byte of a name: a `?` matches any byte, and every other byte matches itself (glob)
abbrev pub stands_for : ℕ → ℕ → Bool
stands_for p c = (p == 63) || (p == c)

-- true if `p` matches the first byte of a name and `like` accepts the rest (glob)
abbrev pub begins_like : ℕ → (List ℕ → Bool) → List ℕ → Bool
begins_like p like [] = false
begins_like p like (c ∷ name) = stands_for p c && like name

-- true if a pattern matches a name: a `*` matches any number of bytes, a `?` matches one byte, and every other byte matches itself (glob, manual
-- section 8 of the sixth edition)
unfoldable pub is_like : List ℕ → List ℕ → Bool
is_like [] name = length name == 0
is_like (p ∷ pattern) name = if p == 42 then ends_like (is_like pattern) name else begins_like p (is_like pattern) name

-- the part of `rest` after its last slash, or `name` if it has no slash: the last name of a path if `name` and `rest` are both the path (this
-- project)
unfoldable pub last_name : List ℕ → List ℕ → List ℕ
last_name name [] = name
last_name name (c ∷ rest) = if c == 47 then last_name rest rest else last_name name rest
