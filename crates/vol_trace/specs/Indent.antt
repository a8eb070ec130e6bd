-- Indented lines.
use Rattle.std.specs.Prelude.{ℕ, ◌==◌, Bool, if◌then◌else◌, List, [], ◌∷◌, ◌++◌}

-- a byte, after two spaces if it begins a line (this project)
abbrev pub indented_byte : Bool → ℕ → List ℕ
indented_byte starts byte = if starts then 32 ∷ 32 ∷ byte ∷ [] else byte ∷ []

-- lines, each indented by two spaces; `starts` is true if the first byte begins a line (this project)
abbrev pub indented : Bool → List ℕ → List ℕ
indented starts [] = []
indented starts (byte ∷ bytes) = indented_byte starts byte ++ indented (byte == 10) bytes
