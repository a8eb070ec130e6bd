-- The ranges of a file's logical blocks that can't be trusted.
use Rattle.std.specs.Prelude.{ℕ, suc, ◌<◌, ◌≤◌, ◌&&◌, Bool, nat_le, nat_lt, List, [], ◌∷◌}
use Rattle.std.specs.List.{list_any}
use Rattle.vol_losses.specs.declared.ranges.LostRange.{LostRange}

-- true if logical block b is in a range (this project)
abbrev pub is_within : ℕ → LostRange → Bool
is_within b range = nat_le range.first b && nat_lt b range.end

-- true if logical block b is in one of the ranges (this project)
abbrev pub is_in : List LostRange → ℕ → Bool
is_in ranges b = list_any (is_within b) ranges

-- the ranges lie within `low..high` and ascend; each has a logical block, and after each there is one more before the next begins, or `high` (this
-- project)
abbrev pub AreApart : ℕ → List LostRange → ℕ → Type 0
AreApart low [] high = low ≤ high
AreApart low (range ∷ ranges) high = (low ≤ range.first) × (range.first < range.end) × AreApart (suc range.end) ranges high
