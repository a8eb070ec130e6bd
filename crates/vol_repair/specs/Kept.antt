-- What is the same in two images of a volume.
use Rattle.std.specs.Prelude.{◌≡◌, ◌≢◌, ℕ, ◌≤◌, true, List}
use Rattle.vol_layout.specs.Edition.{constants}
use Rattle.vol_layout.specs.Geometry.{in_zone}
use Rattle.vol_layout.specs.Inode.{inode_of}
use Rattle.vol_layout.specs.BlockPointers.{form_at}
use Rattle.vol_layout.specs.Body.{body}
use Rattle.vol_layout.specs.declared.geometry.Geometry.{Geometry}
use Rattle.vol_layout.specs.declared.block_map.BlockMap.TheVariants.{Small}
use Rattle.vol_layout.specs.declared.mode.Kind.TheVariants as kinds
use Rattle.vol_free.specs.Stack.{IsIn}
use Rattle.vol_file.specs.Changes.{blocks_of}
use Rattle.vol_file.specs.Rules.{kind_at, size_of}
use Rattle.vol_reports.specs.Icheck.{use_count}

-- file i has the same mode, owner, group, size, addresses, times and bytes in both images; its link count may differ (this project)
pub record KeepsFile (geometry : Geometry) (old new : List ℕ) (i : ℕ) : Type 0 where
  pub node : record (inode_of geometry.edition new i) { links = (inode_of geometry.edition old i).links } ≡ inode_of geometry.edition old i
  pub body : body geometry new i ≡ body geometry old i

-- file i fits: it is a regular file, and not the root's i-node; its size is within the limit; and each block in its block map is a data block to which
-- no other position of any block map points (rules 3, 4, 5 and 7, of one file)
pub record FitsFile (geometry : Geometry) (image : List ℕ) (i : ℕ) : Type 0 where
  pub first : 1 ≤ i
  pub last : i ≤ geometry.last_inode
  pub kind : kind_at geometry image i ≡ kinds.Regular
  pub other : i ≢ (constants geometry.edition).root
  pub greatest : size_of geometry image i ≤ (constants geometry.edition).greatest
  pub small : form_at geometry image i ≡ Small → size_of geometry image i ≤ 4096
  pub zoned : (b : ℕ) → IsIn b (blocks_of geometry image i) → in_zone geometry b ≡ true
  pub alone : (b : ℕ) → IsIn b (blocks_of geometry image i) → use_count geometry image b ≡ 1
