-- The first violation of the rule about link counts.
use Rattle.std.specs.Prelude.{◌≡◌, ℕ, ◌<◌, ◌≤◌, List}
use Rattle.vol_layout.specs.Inode.{inode_of}
use Rattle.vol_judge.specs.EntryCounts.{IsCounted}
use Rattle.vol_judge.specs.Directories.{entry_count}
use Rattle.vol_layout.specs.declared.geometry.Geometry.{Geometry}
use Rattle.vol_judge.specs.declared.finding.Finding.{Finding}
use Rattle.vol_judge.specs.declared.finding.Finding.TheVariants as findings

-- i is the first i-node with a wrong link count: there are `entries` entries for it, and its link count is `links` (rule 12)
pub record IsFirstUncounted (geometry : Geometry) (image : List ℕ) (i entries links : ℕ) : Type 0 where
  pub first : 1 ≤ i
  pub last : i ≤ geometry.last_inode
  pub count : entries ≡ entry_count geometry image i
  pub own : links ≡ (inode_of geometry.edition image i).links
  pub wrong : IsCounted geometry image i (entry_count geometry image i) → ⊥
  pub before : (j : ℕ) → 1 ≤ j → j < i → IsCounted geometry image j (entry_count geometry image j)

-- the first violation of rule 12: the first i-node whose link count is wrong (this project)
abbrev pub IsFirstLink : Geometry → List ℕ → Finding → Type 0
IsFirstLink geometry image (findings.BadLinks i entries links) = IsFirstUncounted geometry image i entries links
IsFirstLink geometry image _ = ⊥
