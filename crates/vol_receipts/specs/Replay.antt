-- Replaying a volume's first records.
use Rattle.std.specs.Prelude.{◌≡◌, ℕ, ◌≤◌, length, take, Option, IfSome}
use Rattle.vol_volume.specs.Volume.{Mounted}

-- `again` starts from the same bytes as `volume` and has exactly its first `count` records (this project)
pub record HasFirst (volume again : Mounted) (count : ℕ) : Type 0 where
  pub edition : again.edition ≡ volume.edition
  pub base : again.base ≡ volume.base
  pub journal : again.journal ≡ take count volume.journal

-- `again` is missing, or has at most `count` records, which are the volume's first (this project)
abbrev pub HasAtMost : Mounted → Option Mounted → ℕ → Type 0
HasAtMost volume again count =
    IfSome again (λ made. HasFirst volume made (length made.journal) × (length made.journal ≤ count))
