-- The first violation of the rule about the data zone.
use Rattle.std.specs.Prelude.{◌≡◌, ℕ, ◌<◌, ◌≤◌, not, List, Option, Some}
use Rattle.std.specs.List.{find}
use Rattle.vol_layout.specs.Geometry.{in_zone}
use Rattle.vol_file.specs.Changes.{blocks_of}
use Rattle.vol_judge.specs.Marks.{IsFileZoned}
use Rattle.vol_layout.specs.declared.geometry.Geometry.{Geometry}
use Rattle.vol_judge.specs.declared.finding.Finding.{Finding}
use Rattle.vol_judge.specs.declared.finding.Finding.TheVariants as findings

-- the first address in a list that is not the number of a data block (icheck)
abbrev pub first_outside : Geometry → List ℕ → Option ℕ
first_outside geometry numbers = find (λ k. not (in_zone geometry k)) numbers

-- i is the first i-node with an address that is neither 0 nor the number of a data block, and `number` is the first such address in its block map
-- (rule 5)
pub record IsFirstOutOfZone (geometry : Geometry) (image : List ℕ) (i number : ℕ) : Type 0 where
  pub first : 1 ≤ i
  pub last : i ≤ geometry.last_inode
  pub before : (j : ℕ) → 1 ≤ j → j < i → IsFileZoned geometry image j
  pub outside : first_outside geometry (blocks_of geometry image i) ≡ Some number

-- the first violation of rule 5: the first address outside the data zone, in the first i-node that has one (this project)
abbrev pub IsFirstOutside : Geometry → List ℕ → Finding → Type 0
IsFirstOutside geometry image (findings.OutOfZone i number) = IsFirstOutOfZone geometry image i number
IsFirstOutside geometry image _ = ⊥
