-- The requirements of the rules on one i-node.
use Rattle.std.specs.Prelude.{◌≡◌, ◌≢◌, ℕ, ◌≤◌, ◌⊎◌, List}
use Rattle.vol_layout.specs.Edition.{constants}
use Rattle.vol_layout.specs.Inode.{inode_of}
use Rattle.vol_layout.specs.BlockPointers.{form_at, IsFile}
use Rattle.vol_file.specs.Rules.{size_of, kind_at}
use Rattle.vol_layout.specs.declared.edition.Edition.TheVariants.{V7}
use Rattle.vol_layout.specs.declared.geometry.Geometry.{Geometry}
use Rattle.vol_layout.specs.declared.mode.Kind.TheVariants as kinds
use Rattle.vol_layout.specs.declared.block_map.BlockMap.TheVariants.{Small}

-- in the seventh edition, i-number 1, which is reserved for bad blocks, is free or a regular file (ino.h)
abbrev pub KeepsBadBlocks : Geometry → List ℕ → Type 0
KeepsBadBlocks geometry image =
    geometry.edition ≡ V7 → (kind_at geometry image 1 ≡ kinds.Free) ⊎ (kind_at geometry image 1 ≡ kinds.Regular)

-- the size of i-node i is no greater than its block map allows (manual section 5, file system)
pub record IsSized (geometry : Geometry) (image : List ℕ) (i : ℕ) : Type 0 where
  pub greatest : IsFile geometry image i → size_of geometry image i ≤ (constants geometry.edition).greatest
  pub small : IsFile geometry image i → form_at geometry image i ≡ Small → size_of geometry image i ≤ 4096

-- the link count of i-node i, if it is allocated, isn't above the limit (this project)
abbrev pub IsLinked : Geometry → List ℕ → ℕ → Type 0
IsLinked geometry image i =
    kind_at geometry image i ≢ kinds.Free → (inode_of geometry.edition image i).links ≤ (constants geometry.edition).link_limit
