-- The texts that name the lost bytes of a file.
use Rattle.std.specs.Prelude.{◌≡◌, ℕ, ◌+◌, ◌-◌, ◌*◌, ◌<◌, min, nat_lt, if◌then◌else◌, Bool, List, [], ◌∷◌, ◌++◌, length, map, take, codes, decimal}
use Rattle.std.specs.List.{flat_map, sum}
use Rattle.vol_layout.specs.Body.{body_size}
use Rattle.vol_layout.specs.declared.geometry.Geometry.{Geometry}
use Rattle.vol_losses.specs.Losses.{body_blocks, is_unsure}
use Rattle.vol_losses.specs.Ranges.{is_in, AreApart}
use Rattle.vol_losses.specs.declared.ranges.LostRange.{LostRange}

-- the ranges have exactly the logical blocks within the size of file i that can't be trusted; they ascend and don't touch (this project)
pub record AreLosses (geometry : Geometry) (image : List ℕ) (lost : List Bool) (i : ℕ) (ranges : List LostRange) : Type 0 where
  pub exact : (b : ℕ) → b < body_blocks geometry image i → is_in ranges b ≡ is_unsure geometry image lost i b
  pub apart : AreApart 0 ranges (body_blocks geometry image i + 1)

-- the number of bytes that a file of this size has in a range (this project)
abbrev pub range_bytes : ℕ → LostRange → ℕ
range_bytes size range = min (512 * range.end) size - 512 * range.first

-- the first and the last byte that a file of this size has in a range (this project)
unfoldable pub range_text : ℕ → LostRange → List ℕ
range_text size range = decimal (512 * range.first) ++ (codes "-" ++ decimal (min (512 * range.end) size - 1))

-- one more range (this project)
abbrev pub next_text : ℕ → LostRange → List ℕ
next_text size range = codes ", " ++ range_text size range

-- the ranges of a file of this size, of which eight are named (this project)
abbrev pub ranges_text : ℕ → List LostRange → List ℕ
ranges_text size [] = []
ranges_text size (range ∷ ranges) =
    range_text size range ++ (flat_map (next_text size) (take 7 ranges) ++ (if nat_lt 7 (length ranges) then codes ", .." else []))

-- the number of lost bytes of a file of this size, and the ranges (this project)
unfoldable pub counts_text : ℕ → List LostRange → List ℕ
counts_text size ranges = decimal (sum (map (range_bytes size) ranges)) ++ (codes " of " ++ (decimal size ++ codes " bytes are lost: "))

-- the text that names the lost bytes of file i (this project)
abbrev pub IsLossText : Geometry → List ℕ → List Bool → ℕ → List ℕ → Type 0
IsLossText geometry image lost i text =
    (ranges : List LostRange) × AreLosses geometry image lost i ranges
    × (text ≡ counts_text (body_size geometry image i) ranges ++ ranges_text (body_size geometry image i) ranges)
