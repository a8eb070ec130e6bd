-- Bytes as text that a terminal can show.
use Rattle.std.specs.Prelude.{ℕ, ◌+◌, ◌/◌, ◌%◌, ◌==◌, ◌&&◌, nat_lt, nat_le, if◌then◌else◌, List, [], ◌∷◌}
use Rattle.std.specs.List.{flat_map}

-- a byte as text that a terminal can show: printable ASCII as it is, except a backslash, which is doubled; any other as a backslash and three octal digits (ls -b; this project)
abbrev pub escaped_byte : ℕ → List ℕ
escaped_byte b =
    if b == 92 then 92 ∷ 92 ∷ [] else if nat_le 32 b && nat_lt b 127 then b ∷ [] else 92 ∷ (48 + b / 64) ∷ (48 + b / 8 % 8) ∷ (48 + b % 8) ∷ []

-- bytes as text that a terminal can show (ls -b; this project)
unfoldable pub escaped : List ℕ → List ℕ
escaped bytes = flat_map escaped_byte bytes
