-- Statements on the contents of listings.
use Rattle.std.specs.Prelude.{◌≡◌, ℕ, ◌+◌, ◌*◌, ◌<◌, ◌^◌, List, [], ◌∷◌, ◌++◌, ℤ, pos, Ok}
use Rattle.std.specs.List.{flat_map}
use Rattle.jiff_core.specs.Calendar.{IsCivilDate, days_from_civil}
use Rattle.vol_dir.specs.Tree.{Tree}
use Rattle.vol_dir.specs.Walk.{walk}
use Rattle.vol_dir.specs.Access.{user}
use Rattle.vol_change.specs.Nodes.{names_at}
use Rattle.vol_volume.specs.Answer.{answer}
use Rattle.vol_volume.specs.declared.queries.Query.TheVariants as queries
use Rattle.vol_volume.specs.declared.queries.Reply.{Reply}
use Rattle.vol_listing.specs.Dates.{digit, date_text, moment_text}
use Rattle.vol_listing.specs.Lines.{names_text, line_of}
use Rattle.vol_listing.specs.declared.dates.Date.{Date}
use Rattle.vol_listing.specs.declared.lines.Style.{Style}

-- a listing of the directory at a path has a line for each of its names (ls -a)
abbrev pub ListsNames : Type 0
ListsNames = (style : Style) (tree : Tree) (path : List ℕ) (reply : Reply) → answer tree (queries.List user path) ≡ Ok reply
    → (i : ℕ) × (walk tree user path ≡ Ok i) × (names_text style tree path ≡ flat_map (line_of style tree) (names_at tree i))

-- this date, and no other, is `days` days after 1 January 1970 (the Gregorian calendar, as jiff defines it)
pub record IsDateAfter (days : ℕ) (date : Date) : Type 0 where
  pub exists : IsCivilDate (pos date.year) date.month date.day
  pub number : days_from_civil (pos date.year) date.month date.day ≡ pos days
  pub only : (year : ℤ) (month day : ℕ) → IsCivilDate year month day → days_from_civil year month day ≡ pos days
      → (year ≡ pos date.year) × (month ≡ date.month) × (day ≡ date.day)

-- a number of two digits (this project)
abbrev pub pair : ℕ → List ℕ
pair n = digit 10 n ∷ digit 1 n ∷ []

-- a text is a date of the calendar and a time of day, which add up to these seconds since the beginning of 1970 (ISO 8601)
pub record IsShown (seconds : ℕ) (text : List ℕ) : Type 0 where
  pub days : ℕ
  pub hour : ℕ
  pub minute : ℕ
  pub second : ℕ
  pub date : Date
  pub dated : IsDateAfter days date
  pub hours : hour < 24
  pub minutes : minute < 60
  pub rest : second < 60
  pub sum : days * 86400 + hour * 3600 + minute * 60 + second ≡ seconds
  pub words : text ≡ date_text date ++ (32 ∷ (pair hour ++ (58 ∷ (pair minute ++ (58 ∷ pair second)))))

-- each time is shown as its date in the calendar and its time of day (ls -l)
abbrev pub DatesAreOfTheCalendar : Type 0
DatesAreOfTheCalendar = (seconds : ℕ) → seconds < 2 ^ 32 → IsShown seconds (moment_text seconds)
