-- The sizes of a volume, in the form that the kernel needs.
use Rattle.std.specs.Prelude.{ℕ, ◌-◌, List, length}
use Rattle.fuse_words.specs.declared.reply.Statistics.{Statistics}
use Rattle.vol_layout.specs.declared.geometry.Geometry.{Geometry}
use Rattle.vol_free.specs.FreeWalk.{free_walk}
use Rattle.vol_inspect.specs.Inspect.{free_inode_count}

-- the sizes: the number of data blocks, of free blocks up to the free list's first fault, and of i-nodes (fuse_kstatfs)
unfoldable pub statistics_of : Geometry → List ℕ → Statistics
statistics_of geometry image = record {
  blocks = geometry.zone_end - geometry.zone_start;
  free_blocks = length (free_walk geometry image).met;
  available_blocks = length (free_walk geometry image).met;
  inodes = geometry.last_inode;
  free_inodes = free_inode_count geometry image;
  block_size = 512;
  name_length = 14;
  fragment_size = 512;
}
