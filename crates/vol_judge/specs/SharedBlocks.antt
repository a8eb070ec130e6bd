-- The first violation of the rule that no block is used twice.
use Rattle.std.specs.Prelude.{◌≡◌, ◌≢◌, ℕ, ◌-◌, ◌≤◌, ◌==◌, if◌then◌else◌, List, [], ◌∷◌, ◌++◌, slice_index, slice_set, Option, None, Some}
use Rattle.std.specs.List.{flat_map, range_with_len}
use Rattle.vol_layout.specs.BlockPointers.{NamesBlock}
use Rattle.vol_free.specs.Stack.{IsIn, Once, IsFree}
use Rattle.vol_file.specs.Rules.{IsApart}
use Rattle.vol_file.specs.Changes.{blocks_of}
use Rattle.vol_judge.specs.Sound.{IsFreeApart}
use Rattle.vol_layout.specs.declared.geometry.Geometry.{Geometry}
use Rattle.vol_judge.specs.declared.finding.Finding.{Finding}
use Rattle.vol_judge.specs.declared.finding.Finding.TheVariants as findings

-- rule 7: no two addresses in block maps point to the same block, and no free block is used (icheck)
abbrev pub IsUsedOnce : Geometry → List ℕ → Type 0
IsUsedOnce geometry image = IsApart geometry image × IsFreeApart geometry image

-- the first block of a list that is already marked when the blocks are marked one by one (icheck)
unfoldable pub again : List ℕ → List ℕ → Option ℕ
again marks [] = None
again marks (b ∷ blocks) = if slice_index marks b == 0 then again (slice_set marks b 1) blocks else Some b

-- no block of a list is marked (icheck)
abbrev pub AreClear : List ℕ → List ℕ → Type 0
AreClear marks blocks = (k : ℕ) → IsIn k blocks → slice_index marks k ≡ 0

-- b is the first marked block of a list (icheck)
pub record IsFirstMarked (marks blocks : List ℕ) (b : ℕ) : Type 0 where
  pub before : List ℕ
  pub after : List ℕ
  pub is : blocks ≡ before ++ b ∷ after
  pub marked : slice_index marks b ≢ 0
  pub clear : AreClear marks before

-- the blocks that the i-nodes before i use, in the order of i-numbers and then of block maps (icheck)
abbrev pub blocks_before : Geometry → List ℕ → ℕ → List ℕ
blocks_before geometry image i = flat_map (blocks_of geometry image) (range_with_len 1 (i - 1))

-- i-node i uses block b, which it or an earlier i-node already uses, and no block is used twice before that (rule 7)
pub record IsTwiceNamed (geometry : Geometry) (image : List ℕ) (i b : ℕ) : Type 0 where
  pub first : 1 ≤ i
  pub last : i ≤ geometry.last_inode
  pub before : List ℕ
  pub after : List ℕ
  pub blocks : blocks_of geometry image i ≡ before ++ b ∷ after
  pub once : Once (blocks_before geometry image i ++ before)
  pub again : IsIn b (blocks_before geometry image i ++ before)

-- no block is used twice by files, and b is the first block of the free list that a file uses (rule 7)
pub record IsNamedFree (geometry : Geometry) (image : List ℕ) (b : ℕ) : Type 0 where
  pub apart : IsApart geometry image
  pub before : List ℕ
  pub after : List ℕ
  pub free : IsFree geometry image (before ++ b ∷ after)
  pub named : (i : ℕ) × (p : List ℕ) × NamesBlock geometry image i p b
  pub unnamed : (k i : ℕ) (p : List ℕ) → IsIn k before → NamesBlock geometry image i p k → ⊥

-- the first violation of rule 7: the first block that is used twice, in the order of i-numbers and then of block maps; else the first free block that
-- is used (this project)
abbrev pub IsFirstTwice : Geometry → List ℕ → Finding → Type 0
IsFirstTwice geometry image (findings.Twice i b) = IsTwiceNamed geometry image i b
IsFirstTwice geometry image (findings.UsedAndFree b) = IsNamedFree geometry image b
IsFirstTwice geometry image _ = ⊥
