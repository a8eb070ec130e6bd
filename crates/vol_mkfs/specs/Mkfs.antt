-- The volume that `mkfs` creates, with only the root. (mkfs of the seventh edition, without its prototype file.)
use Rattle.std.specs.Prelude.{◌≡◌, ◌≢◌, ℕ, ◌+◌, ◌-◌, ◌*◌, ◌%◌, ◌<◌, ◌≤◌, ◌==◌, ◌&&◌, Bool, true, nat_lt, nat_le, List, [], ◌∷◌, length, replicate, slice_index, Ok}
use Rattle.std.specs.List.{range_with_len}
use Rattle.pdp_words.specs.Words.{long}
use Rattle.vol_layout.specs.Edition.{constants}
use Rattle.vol_layout.specs.Geometry.{geometry_read}
use Rattle.vol_layout.specs.Inode.{inode_place, inode_of, new_inode}
use Rattle.vol_layout.specs.Super.{free_head, time_place}
use Rattle.vol_layout.specs.Slot.{padded_name, slot_at}
use Rattle.vol_free.specs.Stack.{IsFree}
use Rattle.vol_layout.specs.declared.edition.Edition.{Edition}
use Rattle.vol_layout.specs.declared.edition.Edition.TheVariants.{V6, V7}
use Rattle.vol_layout.specs.declared.geometry.Geometry.{Geometry}
use Rattle.vol_layout.specs.declared.i_node.Inode.{Inode}

-- true if a volume can have this number of blocks and this number of i-list blocks: rule 2 holds, and the number of blocks fits the sixth edition's
-- word (filsys.h)
abbrev pub is_size : Edition → ℕ → ℕ → Bool
is_size edition blocks list_blocks =
    nat_le 1 list_blocks && (nat_le list_blocks (constants edition).list_block_limit
    && (nat_lt (list_blocks + 2) blocks && nat_le blocks (constants edition).block_limit))

-- the geometry of a volume with this number of blocks and this number of i-list blocks (filsys.h)
abbrev pub volume_of : Edition → ℕ → ℕ → Geometry
volume_of edition blocks list_blocks = record {
  edition = edition;
  zone_start = list_blocks + 2;
  zone_end = blocks;
  last_inode = (constants edition).inodes_per_block * list_blocks;
}

-- the mode of a directory with permissions 0777 (mkfs)
abbrev pub root_mode : Edition → ℕ
root_mode V6 = 0xC1FF
root_mode V7 = 0x41FF

-- the root's i-node: a directory with two links and two slots, stored in one block (mkfs)
abbrev pub root_inode : Edition → ℕ → ℕ → ℕ → ℕ → Inode
root_inode edition block uid gid now =
    record (new_inode edition (record { bits = root_mode edition }) 2 uid gid now) { size = 32; addresses = block ∷ replicate 12 0 }

-- a volume with this geometry can be created (rule 2)
pub record IsMakeable (geometry : Geometry) : Type 0 where
  pub size : is_size geometry.edition geometry.zone_end (geometry.zone_start - 2) ≡ true
  pub start : 3 ≤ geometry.zone_start
  pub inodes : geometry.last_inode ≡ (constants geometry.edition).inodes_per_block * (geometry.zone_start - 2)

-- true if block b is a chain block of the free list: the distance between chain blocks, and from the last one to the volume's end, is the number of
-- entries in an array (free of both editions)
unfoldable pub is_chain : Geometry → ℕ → Bool
is_chain geometry b =
    nat_lt geometry.zone_start b && (nat_lt b geometry.zone_end && ((geometry.zone_end - b) % (constants geometry.edition).free_slots == 0))

-- byte k is not one of the `count` bytes that start at byte `at` (a frame)
abbrev pub IsNoneOf : ℕ → ℕ → ℕ → Type 0
IsNoneOf at count k = at ≤ k → k < at + count → ⊥

-- the number of bytes of the two sizes at the beginning of the super-block: two words in the sixth edition, a word and a long in the seventh
-- (filsys.h)
abbrev pub sizes_bytes : Edition → ℕ
sizes_bytes V6 = 4
sizes_bytes V7 = 6

-- byte k of a new volume is not part of the sizes, the free list's head, the time, the root's i-node, or the root's two slots at byte `slots` (mkfs)
pub record IsUnused (edition : Edition) (slots k : ℕ) : Type 0 where
  pub sizes : IsNoneOf 512 (sizes_bytes edition) k
  pub free : IsNoneOf (free_head edition) 202 k
  pub time : IsNoneOf (time_place edition) 4 k
  pub root : IsNoneOf (inode_place edition (constants edition).root) (constants edition).inode_bytes k
  pub names : IsNoneOf slots 32 k

-- an image is a new volume: it has the given geometry and no bytes past its last block, its time is `now`, the root has its i-node and its two slots,
-- both for the root itself, all other i-nodes are zero, the free blocks are all data blocks except the root's, in ascending order, and all other
-- bytes are zero (mkfs)
pub record IsNewVolume (geometry : Geometry) (uid gid now : ℕ) (image : List ℕ) : Type 0 where
  pub len : length image ≡ 512 * geometry.zone_end
  pub sizes : geometry_read geometry.edition image ≡ Ok geometry
  pub time : long image (time_place geometry.edition) ≡ now
  pub root : inode_of geometry.edition image (constants geometry.edition).root ≡ root_inode geometry.edition geometry.zone_start uid gid now
  pub dot : slot_at image (512 * geometry.zone_start) ≡ record { inode = (constants geometry.edition).root; name = padded_name (46 ∷ []) }
  pub dot_dot : slot_at image (512 * geometry.zone_start + 16)
      ≡ record { inode = (constants geometry.edition).root; name = padded_name (46 ∷ 46 ∷ []) }
  pub others : (i k : ℕ) → 1 ≤ i → i ≤ geometry.last_inode → i ≢ (constants geometry.edition).root
      → k < (constants geometry.edition).inode_bytes → slice_index image (inode_place geometry.edition i + k) ≡ 0
  pub free : IsFree geometry image (range_with_len (geometry.zone_start + 1) (geometry.zone_end - (geometry.zone_start + 1)))
  pub unused : geometry.edition ≡ V7 → slice_index image (inode_place V7 (constants V7).root + 51) ≡ 0
  pub rest : (k : ℕ) → k < 512 * geometry.zone_end → IsUnused geometry.edition (512 * geometry.zone_start) k
      → ((b : ℕ) → is_chain geometry b ≡ true → IsNoneOf (512 * b) 202 k) → slice_index image k ≡ 0
