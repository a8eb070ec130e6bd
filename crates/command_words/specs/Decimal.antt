-- Numbers on the command line.
use Rattle.std.specs.Prelude.{◌≡◌, ℕ, ◌≤◌, List}
use Rattle.std.specs.Str.Parse.{IsNumeral, digits_value}

-- the text is one or more decimal digits and nothing else, and their value is at most `most` (this project)
abbrev pub IsNumberUpTo : ℕ → List ℕ → Type 0
IsNumberUpTo most text = IsNumeral 10 text × (digits_value 10 text ≤ most)

-- the text is one or more decimal digits and nothing else, and their value is a number of threads, 1 to 64 (this project)
abbrev pub IsThreads : List ℕ → Type 0
IsThreads text = IsNumeral 10 text × (1 ≤ digits_value 10 text) × (digits_value 10 text ≤ 64)

-- the text is one or more decimal digits and nothing else, and their value is this number of threads, 1 to 64 (this project)
abbrev pub IsThreadsGiven : List ℕ → ℕ → Type 0
IsThreadsGiven text number = IsThreads text × (number ≡ digits_value 10 text)

-- the text is one or more decimal digits and nothing else, and their value is this number, at most `most` (this project)
abbrev pub IsNumberGiven : ℕ → List ℕ → ℕ → Type 0
IsNumberGiven most text number = IsNumberUpTo most text × (number ≡ digits_value 10 text)
