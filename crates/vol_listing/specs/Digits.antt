-- Numbers in decimal digits, right-aligned.
use Rattle.std.specs.Prelude.{ℕ, ◌+◌, ◌/◌, ◌%◌, nat_lt, if◌then◌else◌, List, [], ◌∷◌}

-- the digit of a number at a weight, or a space before the first digit (this project)
abbrev pub digit_at : ℕ → ℕ → ℕ
digit_at weight n = if nat_lt n weight then 32 else 48 + n / weight % 10

-- a number below 100,000, right-aligned in 5 columns (ls -i)
abbrev pub padded_number : ℕ → List ℕ
padded_number n = digit_at 10000 n ∷ digit_at 1000 n ∷ digit_at 100 n ∷ digit_at 10 n ∷ (48 + n % 10) ∷ []
