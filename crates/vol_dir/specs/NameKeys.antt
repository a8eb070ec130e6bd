-- The names of a directory as numbers, in the order of their bytes.
use Rattle.std.specs.Prelude.{ℕ, zero, suc, ◌+◌, ◌*◌, ◌<◌, ◌≤◌, List, [], ◌∷◌, length}

-- a number, followed by n digits in base 256: the bytes of a name, and then zeros (this project)
abbrev pub digits : ℕ → ℕ → List ℕ → ℕ
digits number zero name = number
digits number (suc n) [] = digits (256 * number) n []
digits number (suc n) (c ∷ name) = digits (256 * number + c) n name

-- the number of a name: its bytes as digits in base 256, and zeros up to 14 digits (this project)
unfoldable pub key_of : List ℕ → ℕ
key_of name = digits 0 14 name

-- the bytes of a name are bytes, and none is zero (manual section 5, directories)
abbrev pub HasBytes : List ℕ → Type 0
HasBytes [] = Unit {0}
HasBytes (c ∷ name) = (1 ≤ c) × (c < 256) × HasBytes name

-- a slot can have this name (manual section 5, directories)
pub record IsSlotName (name : List ℕ) : Type 0 where
  pub few : length name ≤ 14
  pub bytes : HasBytes name
