-- Times as dates and times of day.
use Rattle.std.specs.Prelude.{ℕ, zero, suc, ◌+◌, ◌-◌, ◌/◌, ◌%◌, ◌==◌, ◌&&◌, ◌||◌, Bool, not, nat_lt, if◌then◌else◌, List, [], ◌∷◌, ◌++◌}
use Rattle.vol_listing.specs.declared.dates.Date.{Date}

-- true if a year has a leap day (the Gregorian calendar)
abbrev pub is_leap : ℕ → Bool
is_leap year = (year % 4 == 0) && (not (year % 100 == 0) || (year % 400 == 0))

-- the number of days in a year (the Gregorian calendar)
abbrev pub year_days : ℕ → ℕ
year_days year = if is_leap year then 366 else 365

-- true if a month has 30 days: April, June, September and November (the Gregorian calendar)
abbrev pub is_short : ℕ → Bool
is_short month = (month == 4) || (month == 6) || (month == 9) || (month == 11)

-- the number of days in a month of a year (the Gregorian calendar)
abbrev pub month_days : ℕ → ℕ → ℕ
month_days year month = if month == 2 then (if is_leap year then 29 else 28) else if is_short month then 30 else 31

-- the year of the day that is `days` days after the beginning of `year`, and the number of days of that year before this day; advances by at most
-- `count` years (the Gregorian calendar)
unfoldable pub pass_years : ℕ → ℕ → ℕ → ℕ × ℕ
pass_years zero year days = (year, days)
pass_years (suc count) year days = if nat_lt days (year_days year) then (year, days) else pass_years count (year + 1) (days - year_days year)

-- the month of the day that is `days` days after the beginning of `month`, and the number of days of that month before this day; advances by at most
-- `count` months (the Gregorian calendar)
unfoldable pub pass_months : ℕ → ℕ → ℕ → ℕ → ℕ × ℕ
pass_months zero year month days = (month, days)
pass_months (suc count) year month days =
    if nat_lt days (month_days year month) then (month, days) else pass_months count year (month + 1) (days - month_days year month)

-- the date of the day of a year that has this many days of the year before it (the Gregorian calendar)
abbrev pub date_in : ℕ × ℕ → Date
date_in found = let month = pass_months 11 found.0 1 found.1 in record { year = found.0; month = month.0; day = month.1 + 1 }

-- the date `days` days after the beginning of 1970; 32-bit times end in 2106, 136 years later (the Gregorian calendar)
unfoldable pub date_of : ℕ → Date
date_of days = date_in (pass_years 136 1970 days)

-- the digit of a number at a weight; weight 1 is for the last digit (this project)
abbrev pub digit : ℕ → ℕ → ℕ
digit weight n = 48 + n / weight % 10

-- a date as YYYY-MM-DD (ISO 8601)
unfoldable pub date_text : Date → List ℕ
date_text date =
    digit 1000 date.year ∷ digit 100 date.year ∷ digit 10 date.year ∷ digit 1 date.year ∷ 45
    ∷ digit 10 date.month ∷ digit 1 date.month ∷ 45
    ∷ digit 10 date.day ∷ digit 1 date.day ∷ []

-- a second of a day as HH:MM:SS (ISO 8601)
unfoldable pub clock_text : ℕ → List ℕ
clock_text second =
    digit 10 (second / 3600) ∷ digit 1 (second / 3600) ∷ 58
    ∷ digit 10 (second / 60 % 60) ∷ digit 1 (second / 60 % 60) ∷ 58
    ∷ digit 10 (second % 60) ∷ digit 1 (second % 60) ∷ []

-- a time, in seconds since the beginning of 1970, as YYYY-MM-DD HH:MM:SS in universal time (ISO 8601)
unfoldable pub moment_text : ℕ → List ℕ
moment_text seconds = date_text (date_of (seconds / 86400)) ++ (32 ∷ clock_text (seconds % 86400))
