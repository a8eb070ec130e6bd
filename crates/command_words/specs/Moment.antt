-- Times on the command line.
use Rattle.std.specs.Prelude.{◌≡◌, ◌⊎◌, ◌≤◌, ◌*◌, ◌++◌, ℕ, ℤ, List, Ok, codes, length, pos}
use Rattle.jiff.specs.Words.{parse_timestamp}
use Rattle.command_words.specs.Decimal.{IsNumberGiven, IsNumberUpTo}

-- the nanoseconds since the beginning of 1970 at the beginning of this second (this project)
abbrev pub second_of : ℕ → ℤ
second_of now = pos (now * 1000000000)

-- the text is a date and a time, for this second (RFC 3339, jiff's contract)
abbrev pub IsDateOf : List ℕ → ℕ → Type 0
IsDateOf text now = (parse_timestamp text ≡ Ok (second_of now)) × (now ≤ 4294967295)

-- the text is a date without a time, of at most 22 bytes, and this second is the midnight at its beginning, in UTC (this project)
abbrev pub IsDayOf : List ℕ → ℕ → Type 0
IsDayOf text now = (length text ≤ 22) × IsDateOf (text ++ codes "T00:00:00Z") now

-- the text is a date and a time; or else a date without a time (this project)
abbrev pub IsDateOrDayOf : List ℕ → ℕ → Type 0
IsDateOrDayOf text now = IsDateOf text now ⊎ (((other : ℕ) → IsDateOf text other → ⊥) × IsDayOf text now)

-- the text is this time, in seconds since the beginning of 1970: a 32-bit number, or a date (this project)
abbrev pub IsMomentOf : List ℕ → ℕ → Type 0
IsMomentOf text now = IsNumberGiven 4294967295 text now ⊎ ((IsNumberUpTo 4294967295 text → ⊥) × IsDateOrDayOf text now)
