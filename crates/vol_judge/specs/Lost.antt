-- The first violation of the rule that no block is lost.
use Rattle.std.specs.Prelude.{◌≡◌, ℕ, ◌<◌, true, List}
use Rattle.vol_layout.specs.Geometry.{in_zone}
use Rattle.vol_layout.specs.BlockPointers.{NamesBlock}
use Rattle.vol_free.specs.Stack.{IsIn, IsFree}
use Rattle.vol_layout.specs.declared.geometry.Geometry.{Geometry}
use Rattle.vol_judge.specs.declared.finding.Finding.{Finding}
use Rattle.vol_judge.specs.declared.finding.Finding.TheVariants as findings

-- data block b is neither free nor used by a file (icheck)
pub record IsLost (geometry : Geometry) (image : List ℕ) (b : ℕ) : Type 0 where
  pub zone : in_zone geometry b ≡ true
  pub unlisted : (blocks : List ℕ) → IsFree geometry image blocks → IsIn b blocks → ⊥
  pub unnamed : (i : ℕ) (p : List ℕ) → NamesBlock geometry image i p b → ⊥

-- b is the first lost data block (rule 8)
pub record IsFirstLost (geometry : Geometry) (image : List ℕ) (b : ℕ) : Type 0 where
  pub lost : IsLost geometry image b
  pub before : (k : ℕ) → k < b → IsLost geometry image k → ⊥

-- the first violation of rule 8: the first lost data block (this project)
abbrev pub IsFirstUncovered : Geometry → List ℕ → Finding → Type 0
IsFirstUncovered geometry image (findings.Lost b) = IsFirstLost geometry image b
IsFirstUncovered geometry image _ = ⊥
