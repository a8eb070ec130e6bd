-- The i-node of a new node.
use Rattle.std.specs.Prelude.{◌≡◌, ◌≢◌, ℕ, ◌+◌, ◌<◌, ◌≤◌, true, false, List, slice_index}
use Rattle.pdp_words.specs.Words.{SameOutside}
use Rattle.vol_layout.specs.Edition.{constants}
use Rattle.vol_layout.specs.Inode.{inode_of, inode_place, kind_of, is_large}
use Rattle.vol_layout.specs.BlockPointers.{mode_of}
use Rattle.vol_layout.specs.BlockMaps.{has_places}
use Rattle.vol_layout.specs.declared.geometry.Geometry.{Geometry}
use Rattle.vol_layout.specs.declared.i_node.Inode.{Inode}
use Rattle.vol_layout.specs.declared.mode.Kind.TheVariants as kinds

-- i-node i, which was free, now belongs to an empty file or to a special file, and no other byte changes (Lions on maknode, ialloc, mknod)
pub record MakesInode (geometry : Geometry) (old new : List ℕ) (i : ℕ) (node : Inode) : Type 0 where
  pub above : (constants geometry.edition).root < i
  pub last : i ≤ geometry.last_inode
  pub same : SameOutside old new (inode_place geometry.edition i) (inode_place geometry.edition i + (constants geometry.edition).inode_bytes)
  pub is : inode_of geometry.edition new i ≡ node
  pub was : mode_of geometry old i ≡ 0
  pub known : kind_of geometry.edition node.mode.bits ≢ kinds.Odd
  pub small : is_large geometry.edition node.mode.bits ≡ false
  pub size : node.size ≡ 0
  pub links : node.links ≤ (constants geometry.edition).link_limit
  pub empty : has_places (kind_of geometry.edition node.mode.bits) ≡ true → (k : ℕ) → slice_index node.addresses k ≡ 0
