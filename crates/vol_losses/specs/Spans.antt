-- The lost bytes of a file.
use Rattle.std.specs.Prelude.{◌≡◌, ℕ, ◌*◌, min, Bool, List, map}
use Rattle.vol_layout.specs.Body.{body_size}
use Rattle.vol_layout.specs.declared.geometry.Geometry.{Geometry}
use Rattle.vol_losses.specs.LossTexts.{AreLosses}
use Rattle.vol_losses.specs.declared.ranges.LostRange.{LostRange}
use Rattle.vol_losses.specs.declared.spans.LostSpan.{LostSpan}

-- the bytes that a file of this size has in a range of logical blocks (this project)
abbrev pub span_in : ℕ → LostRange → LostSpan
span_in size range = record { first = 512 * range.first; end = min (512 * range.end) size }

-- the spans have the bytes of file i in exactly the logical blocks that can't be trusted; they ascend and don't touch (this project)
abbrev pub AreLostSpans : Geometry → List ℕ → List Bool → ℕ → List LostSpan → Type 0
AreLostSpans geometry image lost i spans =
    (ranges : List LostRange) × AreLosses geometry image lost i ranges × (spans ≡ map (span_in (body_size geometry image i)) ranges)
