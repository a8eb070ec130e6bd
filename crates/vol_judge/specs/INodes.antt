-- The first violations of the rules about i-nodes.
use Rattle.std.specs.Prelude.{◌≡◌, ◌≢◌, ℕ, ◌<◌, ◌≤◌, List}
use Rattle.vol_layout.specs.Edition.{constants}
use Rattle.vol_file.specs.Rules.{kind_at}
use Rattle.vol_judge.specs.Limits.{KeepsBadBlocks, IsSized, IsLinked}
use Rattle.vol_layout.specs.declared.geometry.Geometry.{Geometry}
use Rattle.vol_layout.specs.declared.mode.Kind.TheVariants as kinds
use Rattle.vol_judge.specs.declared.finding.Finding.{Finding}
use Rattle.vol_judge.specs.declared.finding.Finding.TheVariants as findings

-- no i-node before n has an odd mode (rule 3)
abbrev pub AreKnownBelow : Geometry → List ℕ → ℕ → Type 0
AreKnownBelow geometry image n = (i : ℕ) → 1 ≤ i → i < n → kind_at geometry image i ≢ kinds.Odd

-- no i-node has an odd mode (rule 3)
abbrev pub AreKnown : Geometry → List ℕ → Type 0
AreKnown geometry image = (i : ℕ) → 1 ≤ i → i ≤ geometry.last_inode → kind_at geometry image i ≢ kinds.Odd

-- i is the first i-node with an odd mode (rule 3)
pub record IsFirstOdd (geometry : Geometry) (image : List ℕ) (i : ℕ) : Type 0 where
  pub first : 1 ≤ i
  pub last : i ≤ geometry.last_inode
  pub odd : kind_at geometry image i ≡ kinds.Odd
  pub before : AreKnownBelow geometry image i

-- the first violation of rule 3: an odd mode, else the kind of the root, else the kind of i-number 1 (this project)
abbrev pub IsFirstKind : Geometry → List ℕ → Finding → Type 0
IsFirstKind geometry image (findings.OddMode i) = IsFirstOdd geometry image i
IsFirstKind geometry image findings.RootKind =
    AreKnown geometry image × (kind_at geometry image (constants geometry.edition).root ≢ kinds.Directory)
IsFirstKind geometry image findings.BadBlocksKind =
    AreKnown geometry image × (kind_at geometry image (constants geometry.edition).root ≡ kinds.Directory)
    × (KeepsBadBlocks geometry image → ⊥)
IsFirstKind geometry image _ = ⊥

-- the i-nodes before n are within the limits of sizes and link counts (rule 4)
pub record AreLimitedBelow (geometry : Geometry) (image : List ℕ) (n : ℕ) : Type 0 where
  pub sized : (i : ℕ) → 1 ≤ i → i < n → IsSized geometry image i
  pub linked : (i : ℕ) → 1 ≤ i → i < n → IsLinked geometry image i

-- i is an i-number of the volume, and the i-nodes before it are within the limits (rule 4)
pub record IsPastLimited (geometry : Geometry) (image : List ℕ) (i : ℕ) : Type 0 where
  pub first : 1 ≤ i
  pub last : i ≤ geometry.last_inode
  pub before : AreLimitedBelow geometry image i

-- the first violation of rule 4: the first i-node that is too large or has too many links (this project)
abbrev pub IsFirstSize : Geometry → List ℕ → Finding → Type 0
IsFirstSize geometry image (findings.TooLarge i) = IsPastLimited geometry image i × (IsSized geometry image i → ⊥)
IsFirstSize geometry image (findings.TooManyLinks i) =
    IsPastLimited geometry image i × IsSized geometry image i × (IsLinked geometry image i → ⊥)
IsFirstSize geometry image _ = ⊥
