-- Prefixes of lists, and greatest elements.
use Rattle.std.specs.Prelude.{◌≡◌, ℕ, List, [], ◌∷◌, ◌++◌, length, max, nat_le, if◌then◌else◌}

-- a list begins with another (this project)
abbrev pub BeginsWith : {A : Type 0} → List A → List A → Type 0
BeginsWith {A} long short = (more : List A) × (long ≡ short ++ more)

-- the longer of two lists (this project)
abbrev pub longer : {A : Type 0} → List A → List A → List A
longer one other = if nat_le (length one) (length other) then other else one

-- the greatest weight in a list, and 0 in an empty one (this project)
unfoldable pub greatest : {A : Type 0} → (A → ℕ) → List A → ℕ
greatest weight [] = 0
greatest weight (x ∷ xs) = max (weight x) (greatest weight xs)

-- the greatest number in a list, and 0 in an empty one (this project)
abbrev pub greatest_of : List ℕ → ℕ
greatest_of numbers = greatest (λ n. n) numbers
