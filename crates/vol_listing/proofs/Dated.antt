-- The date that is found for a day is the one in the calendar.
use Rattle.std.proofs.Common.{◌≡◌, ℕ, zero, suc, ◌+◌, ◌-◌, ◌*◌, ◌/◌, ◌%◌, ◌<◌, ◌≤◌, inl, inr, refl, arith, ℤ, pos}
use Rattle.std.proofs.lemmas.Int.{by_lt_z}
use Rattle.std.proofs.lemmas.Bool.{cases_lt, cases_order, lt-ltb, le-ltb}
use Rattle.jiff_core.specs.Calendar.{IsCivilDate, day_count, days_in_year, days_in_month, days_of_months}
use Rattle.jiff_core.proofs.SignedLemmas.{signed_arith}
use Rattle.jiff_core.proofs.CalendarLemmas.{day_count-next_year, days_in_year_bounds, days_of_months_more, days_of_months_all, days_of_months-zero, day_count-day_of_year, days_from_civil-day_count, day_count-epoch, day_count-lt_year, day_count-lt_month, day_count-day}
use Rattle.vol_listing.specs.Dates.{year_days, month_days, pass_years, pass_months, date_of, moment_text, clock_text}
use Rattle.vol_listing.specs.Laws.{IsDateAfter, DatesAreOfTheCalendar}

-- a year, and the number of its days before a day, for the day with this count
record InYear (count : ℕ) (found : ℕ × ℕ) : Type 0 where
  counted : day_count (pos found.0) 1 1 + found.1 ≡ count
  within : found.1 < days_in_year (pos found.0)
  late : 1970 ≤ found.0
  soon : found.0 ≤ 1970 + 136

-- the year that is found is the one of the day
in_year : (count year days : ℕ) → 1970 ≤ year → year + count ≡ 1970 + 136 → days < 365 * count + 365
    → InYear (day_count (pos year) 1 1 + days) (pass_years count year days)
unfolding pass_years
in_year zero year days late end low =
    record { counted = refl; within = omega (arith, days_in_year_bounds (pos year)); late = late; soon = omega arith }
in_year (suc n) year days late end low =
    elim (cases_lt days (year_days year)) [
      | inl less ↦ rw (lt-ltb days (year_days year) less) (record { counted = refl; within = less; late = late; soon = omega arith })
      | inr more ↦
          let length = days_in_year_bounds (pos year) in
          let next = day_count-next_year (pos year) (pos (year + 1)) (omega (arith, signed_arith)) (omega (arith, signed_arith)) in
          let same : day_count (pos (year + 1)) 1 1 + (days - year_days year) ≡ day_count (pos year) 1 1 + days = omega arith in
          rw (le-ltb days (year_days year) more) (rw same at (in_year n (year + 1) (days - year_days year) (omega arith) (omega arith) (omega arith)))
    ]

-- a month, and the number of its days before a day, for the day with this count in its year
record InMonth (year : ℕ) (count : ℕ) (found : ℕ × ℕ) : Type 0 where
  counted : days_of_months (pos year) (found.0 - 1) + found.1 ≡ count
  within : found.1 < days_in_month (pos year) found.0
  low : 1 ≤ found.0
  high : found.0 ≤ 12

-- the month that is found is the one of the day
in_month : (count year month days : ℕ) → 1 ≤ month → month + count ≡ 12 → days_of_months (pos year) (month - 1) + days < days_in_year (pos year)
    → InMonth year (days_of_months (pos year) (month - 1) + days) (pass_months count year month days)
unfolding pass_months
in_month zero year month days low end less =
    let last : month ≡ 12 = omega arith in
    let more = rw last at (days_of_months_more (pos year) month low) in
    record {
      counted = refl;
      within = rw last (omega (arith, days_of_months_all (pos year), rw last at less, more));
      low = low;
      high = omega arith;
    }
in_month (suc n) year month days low end less =
    elim (cases_lt days (month_days year month)) [
      | inl within ↦ rw (lt-ltb days (month_days year month) within) (record { counted = refl; within = within; low = low; high = omega arith })
      | inr more ↦
          let back : month + 1 - 1 ≡ month = omega arith in
          let same : days_of_months (pos year) (month + 1 - 1) + (days - month_days year month) ≡ days_of_months (pos year) (month - 1) + days =
          rw back (omega (arith, days_of_months_more (pos year) month low)) in
          rw (le-ltb days (month_days year month) more)
          (rw same at (in_month n year (month + 1) (days - month_days year month) (omega arith) (omega arith) (rw same less)))
    ]

-- two dates of one year with the same day count are the same
same_day : (y : ℤ) (m d n e : ℕ) → IsCivilDate y m d → IsCivilDate y n e → day_count y m d ≡ day_count y n e → (m ≡ n) × (d ≡ e)
same_day y m d n e here there same =
    elim (cases_order m n) [
      | inl month ↦ (month, omega (arith, rw (← month) at same, day_count-day y m d e here.2.0 there.2.0))
      | inr (inl less) ↦ absurd (omega (arith, same, day_count-lt_month y m d n e here there.2.0 less))
      | inr (inr more) ↦ absurd (omega (arith, same, day_count-lt_month y n e m d there here.2.0 more))
    ]

-- two dates with the same day count are the same
same_date : (y : ℤ) (m d : ℕ) (z : ℤ) (n e : ℕ) → IsCivilDate y m d → IsCivilDate z n e → day_count y m d ≡ day_count z n e
    → (y ≡ z) × (m ≡ n) × (d ≡ e)
same_date y m d z n e here there same =
    by_lt_z y z (λ less. absurd (omega (arith, same, day_count-lt_year y m d z n e here there.2.0 less)))
    (λ high. by_lt_z z y (λ more. absurd (omega (arith, same, day_count-lt_year z n e y m d there here.2.0 more)))
    (λ low. let year : y ≡ z = omega (arith, signed_arith) in
    let rest = same_day z m d n e (rw year at here) there (rw year at same) in (year, rest.0, rest.1)))

-- the date of a day, up to day 49710, is the one in the calendar
dated : (days : ℕ) → days ≤ 49710 → IsDateAfter days (date_of days)
unfolding date_of
dated days most =
    let found : ℕ × ℕ = pass_years 136 1970 days in
    let year : InYear (day_count (pos 1970) 1 1 + days) found = in_year 136 1970 days (omega arith) (omega arith) (omega arith) in
    let zero_months = days_of_months-zero (pos found.0) in
    let month : InMonth found.0 (days_of_months (pos found.0) 0 + found.1) (pass_months 11 found.0 1 found.1) =
    in_month 11 found.0 1 found.1 (omega arith) (omega arith) (omega (arith, zero_months, year.within)) in
    let m : ℕ = (pass_months 11 found.0 1 found.1).0 in
    let d : ℕ = (pass_months 11 found.0 1 found.1).1 + 1 in
    let count : day_count (pos found.0) m d ≡ 4371953 + days =
    omega (arith, year.counted, month.counted, zero_months, day_count-epoch, day_count-day_of_year (pos found.0) m d (omega arith)) in
    let exists : IsCivilDate (pos found.0) m d =
    ((omega (arith, signed_arith), omega (arith, signed_arith, year.soon)), (month.low, month.high), (omega arith, omega (arith, month.within))) in
    record {
      exists = exists;
      number = omega (arith, signed_arith, days_from_civil-day_count (pos found.0) m d, count);
      only = λ y n e there same. same_date y n e (pos found.0) m d there exists (omega (arith, signed_arith, days_from_civil-day_count y n e, same, count));
    }

-- each time is shown as its date in the calendar and its time of day
pub shown : DatesAreOfTheCalendar
unfolding moment_text clock_text
shown seconds low =
    record {
      days = seconds / 86400;
      hour = seconds % 86400 / 3600;
      minute = seconds % 86400 / 60 % 60;
      second = seconds % 86400 % 60;
      date = date_of (seconds / 86400);
      dated = dated (seconds / 86400) (omega arith);
      hours = omega arith;
      minutes = omega arith;
      rest = omega arith;
      sum = omega arith;
      words = refl;
    }
