-- The rules of soundness about i-nodes, files and the free list: 3 to 8.
use Rattle.std.specs.Prelude.{◌≡◌, ◌≢◌, ℕ, ◌≤◌, ◌⊎◌, true, List}
use Rattle.vol_layout.specs.Edition.{constants}
use Rattle.vol_layout.specs.Geometry.{in_zone, Fits}
use Rattle.vol_layout.specs.Inode.{inode_place, inode_of, kind_of, size_at}
use Rattle.vol_layout.specs.BlockPointers.{mode_of, form_at, IsFile, IsPlaceOf, named, NamesBlock}
use Rattle.vol_free.specs.Stack.{IsIn, IsFree}
use Rattle.vol_layout.specs.declared.edition.Edition.TheVariants.{V7}
use Rattle.vol_layout.specs.declared.geometry.Geometry.{Geometry}
use Rattle.vol_layout.specs.declared.mode.Kind.{Kind}
use Rattle.vol_layout.specs.declared.mode.Kind.TheVariants as kinds
use Rattle.vol_layout.specs.declared.block_map.BlockMap.TheVariants.{Small}

-- the size of i-node i (manual section 5, file system)
abbrev pub size_of : Geometry → List ℕ → ℕ → ℕ
size_of geometry image i = size_at geometry.edition image (inode_place geometry.edition i)

-- the kind of i-node i (manual section 5, file system)
abbrev pub kind_at : Geometry → List ℕ → ℕ → Kind
kind_at geometry image i = kind_of geometry.edition (mode_of geometry image i)

-- rule 3: no mode is odd, the root is a directory, and i-number 1 of the seventh edition is free or a regular file (manual section 5; the rules of
-- soundness are this project's)
pub record HasKinds (geometry : Geometry) (image : List ℕ) : Type 0 where
  pub known : (i : ℕ) → 1 ≤ i → i ≤ geometry.last_inode → kind_at geometry image i ≢ kinds.Odd
  pub root : kind_at geometry image (constants geometry.edition).root ≡ kinds.Directory
  pub bad_blocks : geometry.edition ≡ V7 → (kind_at geometry image 1 ≡ kinds.Free) ⊎ (kind_at geometry image 1 ≡ kinds.Regular)

-- rule 4: no file is larger than the greatest size, no small file of the sixth edition is larger than eight blocks, and no link count is above the
-- limit (this project)
pub record HasSizes (geometry : Geometry) (image : List ℕ) : Type 0 where
  pub greatest : (i : ℕ) → IsFile geometry image i → size_of geometry image i ≤ (constants geometry.edition).greatest
  pub small : (i : ℕ) → IsFile geometry image i → form_at geometry image i ≡ Small → size_of geometry image i ≤ 4096
  pub links : (i : ℕ) → 1 ≤ i → i ≤ geometry.last_inode → kind_at geometry image i ≢ kinds.Free
      → (inode_of geometry.edition image i).links ≤ (constants geometry.edition).link_limit

-- rule 5: each block number in the block map of a file is the number of a data block (icheck)
abbrev pub IsZoned : Geometry → List ℕ → Type 0
IsZoned geometry image = (i : ℕ) (p : List ℕ) → IsPlaceOf geometry image i p → named geometry image i p ≢ 0
    → in_zone geometry (named geometry image i p) ≡ true

-- rule 7 for files: no two positions in block maps point to the same block (icheck)
abbrev pub IsApart : Geometry → List ℕ → Type 0
IsApart geometry image = (i j : ℕ) (p q : List ℕ) → IsPlaceOf geometry image i p → IsPlaceOf geometry image j q
    → named geometry image i p ≢ 0 → named geometry image i p ≡ named geometry image j q → (i ≡ j) × (p ≡ q)

-- rule 7 for free blocks: no block of a file is free (icheck)
abbrev pub IsOutside : Geometry → List ℕ → List ℕ → Type 0
IsOutside geometry image blocks = (i : ℕ) (p : List ℕ) → IsPlaceOf geometry image i p → IsIn (named geometry image i p) blocks → ⊥

-- rule 8: each data block is free or belongs to a file (icheck)
abbrev pub IsCovered : Geometry → List ℕ → List ℕ → Type 0
IsCovered geometry image blocks = (k : ℕ) → in_zone geometry k ≡ true
    → IsIn k blocks ⊎ ((i : ℕ) × (p : List ℕ) × NamesBlock geometry image i p k)

-- the geometry fits the image, rules 3 to 7 hold, and the free blocks are `blocks` (this project)
pub record Rules3To7With (geometry : Geometry) (image blocks : List ℕ) : Type 0 where
  pub fits : Fits geometry image
  pub kinds : HasKinds geometry image
  pub sizes : HasSizes geometry image
  pub zoned : IsZoned geometry image
  pub free : IsFree geometry image blocks
  pub apart : IsApart geometry image
  pub outside : IsOutside geometry image blocks

-- the geometry fits the image, and rules 3 to 7 hold (this project)
pub record Rules3To7 (geometry : Geometry) (image : List ℕ) : Type 0 where
  pub blocks : List ℕ
  pub sound : Rules3To7With geometry image blocks
