-- The first rule of a list that fails.
use Rattle.std.specs.Prelude.{◌≡◌, ◌⊎◌, ℕ, ◌+◌, List, [], ◌∷◌, Option, None, Some}

-- the result for a list of facts, numbered from n: the number of the first that fails, or None if all hold (this project)
abbrev pub IsFirstBroken : ℕ → List (Type 0) → Option ℕ → Type 0
IsFirstBroken n [] answer = answer ≡ None
IsFirstBroken n (fact ∷ facts) answer = ((answer ≡ Some n) × (fact → ⊥)) ⊎ (fact × IsFirstBroken (n + 1) facts answer)
