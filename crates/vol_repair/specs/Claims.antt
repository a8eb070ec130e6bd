-- The blocks that files claim, in the order of i-numbers and of block maps.
use Rattle.std.specs.Prelude.{◌≡◌, ◌⊎◌, ℕ, ◌≤◌, ◌==◌, Bool, true, false, List, ◌++◌, slice_index_or}
use Rattle.std.specs.List.{count_by}
use Rattle.vol_layout.specs.Geometry.{in_zone}
use Rattle.vol_layout.specs.declared.geometry.Geometry.{Geometry}
use Rattle.vol_free.specs.Stack.{IsIn}

-- each marked block is among the numbers that were met (this project)
abbrev pub HasMet : List Bool → List ℕ → Type 0
HasMet used met = (b : ℕ) → slice_index_or used b false ≡ true → 1 ≤ count_by (λ k. k == b) met

-- one of the file's own block numbers isn't that of a data block, or is among all numbers more than once (rules 5 and 7, of one file)
pub record IsClash (geometry : Geometry) (all own : List ℕ) : Type 0 where
  pub block : ℕ
  pub among : IsIn block own
  pub wrong : (in_zone geometry block ≡ false) ⊎ (2 ≤ count_by (λ k. k == block) all)

-- these block numbers were met after any others: the marks have been among them, and if there is a clash, one of them clashes (this project)
abbrev pub Claims : Geometry → List ℕ → List Bool → List Bool → Bool → Type 0
Claims geometry own before after clash = (met : List ℕ) → HasMet before met
    → HasMet after (met ++ own) × (clash ≡ true → IsClash geometry (met ++ own) own)
