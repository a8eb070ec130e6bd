-- Advancing by years and months.
use Rattle.std.proofs.Common.{◌≡◌, ℕ, zero, suc, ◌+◌, ◌-◌, ◌<◌, ◌≤◌, refl, ap, arith}
use Rattle.std.proofs.lemmas.Bool.{lt-ltb, le-ltb}
use Rattle.vol_listing.specs.Dates.{year_days, month_days, pass_years, pass_months}

-- if the count is 0, there is no advance
pub years_none : (count year days : ℕ) → count ≡ 0 → pass_years count year days ≡ (year, days)
unfolding pass_years
years_none zero year days none = refl
years_none (suc n) year days none = absurd (omega arith)

-- if the day is in the first year, there is no advance
pub years_within : (count year days : ℕ) → days < year_days year → pass_years count year days ≡ (year, days)
unfolding pass_years
years_within zero year days low = refl
years_within (suc n) year days low = rw (lt-ltb days (year_days year) low) refl

-- if the day is after the first year, one year is passed, and the rest follows
pub years_on : (count year days : ℕ) → 1 ≤ count → year_days year ≤ days
    → pass_years count year days ≡ pass_years (count - 1) (year + 1) (days - year_days year)
unfolding pass_years
years_on zero year days some high = absurd (omega arith)
years_on (suc n) year days some high =
    let less : n ≡ suc n - 1 = omega arith in
    rw (le-ltb days (year_days year) high) (ap (λ m. pass_years m (year + 1) (days - year_days year)) less)

-- if the count is 0, there is no advance
pub months_none : (count year month days : ℕ) → count ≡ 0 → pass_months count year month days ≡ (month, days)
unfolding pass_months
months_none zero year month days none = refl
months_none (suc n) year month days none = absurd (omega arith)

-- if the day is in the first month, there is no advance
pub months_within : (count year month days : ℕ) → days < month_days year month → pass_months count year month days ≡ (month, days)
unfolding pass_months
months_within zero year month days low = refl
months_within (suc n) year month days low = rw (lt-ltb days (month_days year month) low) refl

-- if the day is after the first month, one month is passed, and the rest follows
pub months_on : (count year month days : ℕ) → 1 ≤ count → month_days year month ≤ days
    → pass_months count year month days ≡ pass_months (count - 1) year (month + 1) (days - month_days year month)
unfolding pass_months
months_on zero year month days some high = absurd (omega arith)
months_on (suc n) year month days some high =
    let less : n ≡ suc n - 1 = omega arith in
    rw (le-ltb days (month_days year month) high) (ap (λ m. pass_months m year (month + 1) (days - month_days year month)) less)
