-- The stages of migrating a volume: the part of its files that is copied to the new one so far.
use Rattle.std.specs.Prelude.{◌≡◌, ◌≢◌, ℕ, ◌+◌, ◌-◌, ◌*◌, ◌/◌, ◌%◌, ◌<◌, ◌≤◌, ◌==◌, ◌⊎◌, true, false, nat_lt, nat_le, if◌then◌else◌, List, ◌∷◌, length, replicate, slice_index}
use Rattle.std.specs.List.{count_by, sum_by, range_with_len}
use Rattle.pdp_words.specs.Words.{long}
use Rattle.vol_layout.specs.Body.{body}
use Rattle.vol_layout.specs.Edition.{constants}
use Rattle.vol_layout.specs.Geometry.{geometry_of}
use Rattle.vol_layout.specs.Inode.{inode_of, inode_place, raised_inode}
use Rattle.vol_layout.specs.BlockMaps.{IsPlace, has_places, places}
use Rattle.vol_layout.specs.Slot.{slot_at}
use Rattle.vol_layout.specs.Super.{free_head, time_place}
use Rattle.vol_layout.specs.declared.edition.Edition.TheVariants.{V6, V7}
use Rattle.vol_layout.specs.declared.geometry.Geometry.{Geometry}
use Rattle.vol_layout.specs.declared.i_node.Inode.{Inode}
use Rattle.vol_layout.specs.declared.mode.Kind.{Kind}
use Rattle.vol_layout.specs.declared.mode.Kind.TheVariants as kinds
use Rattle.vol_layout.specs.declared.block_map.BlockMap.TheVariants.{Deep}
use Rattle.vol_layout.specs.declared.slot.Slot.{Slot}
use Rattle.vol_file.specs.Changes.{whole_blocks}
use Rattle.vol_file.specs.Rules.{Rules3To7With, kind_at, size_of}
use Rattle.vol_file.specs.Shape.{is_named, is_on_ways}
use Rattle.vol_dir.specs.Tree.{Shape, shapes, state}
use Rattle.vol_change.specs.Ready.{Rules1To12}
use Rattle.vol_mkfs.specs.Mkfs.{sizes_bytes, IsMakeable, IsNoneOf}
use Rattle.vol_migrate.specs.Raised.{names_block, stored_blocks, raised_device, raised_slot}
use Rattle.vol_migrate.specs.Refuse.{places_needed}

-- i-node `i` isn't free (manual section 5, file system)
pub record IsUsed (geometry : Geometry) (image : List ℕ) (i : ℕ) : Type 0 where
  pub first : 1 ≤ i
  pub last : i ≤ geometry.last_inode
  pub some : kind_at geometry image i ≢ kinds.Free

-- a sound volume of the sixth edition may be migrated to the seventh: its nodes fit the i-list, and its files fit the data zone (this project)
pub record MayMigrate (old : List ℕ) (from to : Geometry) : Type 0 where
  pub sixth : from.edition ≡ V6
  pub seventh : to.edition ≡ V7
  pub ready : Rules1To12 from old
  pub makeable : IsMakeable to
  pub numbers : (i : ℕ) → IsUsed from old i → i + 1 ≤ to.last_inode
  pub space : places_needed (state from old) ≤ to.zone_end - to.zone_start

-- the number of block-map positions in the seventh edition on the paths of the stored blocks among the first `n` logical blocks of a file (Lions on
-- bmap)
unfoldable pub places_for : Shape → ℕ → ℕ
places_for shape n = count_by (is_on_ways Deep (stored_blocks shape n)) (places Deep)

-- logical block `b` comes after the first `passed` blocks, the last of which is stored, and only holes are between (Lions on bmap)
pub record ComesAfter (shape : Shape) (b passed : ℕ) : Type 0 where
  pub order : passed ≤ b
  pub last : 1 ≤ passed → names_block shape (passed - 1) ≡ true
  pub holes : (c : ℕ) → passed ≤ c → c < b → names_block shape c ≡ false

-- 1 for a block-map position whose first logical block is not before `passed`, else 0 (Lions on bmap)
abbrev pub is_new : ℕ → ℕ → ℕ
is_new passed start = if nat_le passed start then 1 else 0

-- the number of block-map positions that file `i` needs (Lions on bmap)
abbrev pub file_need : Geometry → List ℕ → ℕ → ℕ
file_need from old i = places_for (shapes from old i) (whole_blocks (size_of from old i))

-- the number of block-map positions that the files below i-number `i` need (Lions on bmap)
abbrev pub need_before : Geometry → List ℕ → ℕ → ℕ
need_before from old i = sum_by (file_need from old) (range_with_len 1 (i - 1))

-- the bytes of a slot (manual section 5, directories)
abbrev pub bytes_of_slot : Slot → List ℕ
bytes_of_slot slot = (slot.inode % 256) ∷ (slot.inode / 256) ∷ slot.name

-- byte `x` of a directory's slots, raised (this project)
unfoldable pub raised_byte : List ℕ → ℕ → ℕ
raised_byte bytes x = slice_index (bytes_of_slot (raised_slot (slot_at bytes (16 * (x / 16))))) (x % 16)

-- byte `x` of a file of this kind, converted for the seventh edition (this project)
abbrev pub carried_byte : Kind → List ℕ → ℕ → ℕ
carried_byte kinds.Directory bytes x = raised_byte bytes x
carried_byte kinds.Regular bytes x = slice_index bytes x
carried_byte kinds.Free bytes x = slice_index bytes x
carried_byte kinds.Special bytes x = slice_index bytes x
carried_byte kinds.Odd bytes x = slice_index bytes x

-- the first `n` logical blocks of file `i` are in file `i` + 1 of the new volume, with the same bytes; the others are holes (this project)
pub record HasBlocks (from to : Geometry) (old image : List ℕ) (i n : ℕ) : Type 0 where
  pub done : (x : ℕ) → x < size_of from old i → x / 512 < n
      → slice_index (body to image (i + 1)) x ≡ carried_byte (kind_at from old i) (body from old i) x
  pub rest : (x : ℕ) → x < size_of from old i → n ≤ x / 512 → slice_index (body to image (i + 1)) x ≡ 0
  pub names : (p : List ℕ) → IsPlace Deep p → is_named to image (i + 1) p ≡ is_on_ways Deep (stored_blocks (shapes from old i) n) p

-- i-node `i` + 1 of the new volume is i-node `i` of the old one: a file with its first `n` logical blocks, a special file with the number of its
-- device (this project)
pub record IsCarried (from to : Geometry) (old : List ℕ) (now : ℕ) (image : List ℕ) (i n : ℕ) : Type 0 where
  pub inode : inode_of to.edition image (i + 1)
      ≡ record (raised_inode (inode_of from.edition old i) now) { addresses = (inode_of to.edition image (i + 1)).addresses }
  pub device : kind_at from old i ≡ kinds.Special
      → (inode_of to.edition image (i + 1)).addresses ≡ raised_device (inode_of from.edition old i).addresses
  pub file : has_places (kind_at from old i) ≡ true → HasBlocks from to old image i n

-- the number of logical blocks of i-node `j` that are copied when `n` blocks of i-node `i` are, and all blocks of the i-nodes before it (this
-- project)
abbrev pub progress : Geometry → List ℕ → ℕ → ℕ → ℕ → ℕ
progress from old i n j = if nat_lt j i then whole_blocks (size_of from old j) else if j == i then n else 0

-- the bytes outside the i-list and the data zone: the sizes of the volume, the time, the free list, and zeros (filsys.h)
pub record HasSuper (to : Geometry) (now : ℕ) (image : List ℕ) : Type 0 where
  pub len : length image ≡ 512 * to.zone_end
  pub sizes : geometry_of to.edition image ≡ to
  pub time : long image (time_place to.edition) ≡ now
  pub rest : (k : ℕ) → k < 1024 → IsNoneOf 512 (sizes_bytes to.edition) k → IsNoneOf (free_head to.edition) 202 k
      → IsNoneOf (time_place to.edition) 4 k → slice_index image k ≡ 0

-- i-number `k` of the new volume gets no i-node of the old one (this project)
abbrev pub IsVacant : Geometry → List ℕ → ℕ → Type 0
IsVacant from old k = (i : ℕ) → k ≡ i + 1 → IsUsed from old i → ⊥

-- byte `r` of i-node `k` of the new volume is unused: `k` gets no i-node of the old volume, or the seventh edition doesn't use the byte (ino.h)
abbrev pub IsIdle : Geometry → List ℕ → ℕ → ℕ → Type 0
IsIdle from old k r = IsVacant from old k ⊎ (r ≡ 51)

-- rules 3 to 7 hold for the new volume when `n` blocks of i-node `i` and all blocks of the i-nodes before it are copied, and the number of free
-- blocks is the number of data blocks minus the blocks needed so far (this project)
pub record IsStage (from to : Geometry) (old : List ℕ) (now : ℕ) (image : List ℕ) (i n : ℕ) : Type 0 where
  pub blocks : List ℕ
  pub sound : Rules3To7With to image blocks
  pub room : length blocks + (need_before from old i + places_for (shapes from old i) n) ≡ to.zone_end - to.zone_start
  pub super_block : HasSuper to now image
  pub carried : (j : ℕ) → IsUsed from old j → IsCarried from to old now image j (progress from old i n j)
  pub zeros : (k r : ℕ) → 1 ≤ k → k ≤ to.last_inode → IsIdle from old k r → r < (constants to.edition).inode_bytes
      → slice_index image (inode_place to.edition k + r) ≡ 0

-- the volume is at this stage, for some time `now` (this project)
pub record HasStage (from to : Geometry) (old image : List ℕ) (i n : ℕ) : Type 0 where
  pub now : ℕ
  pub stage : IsStage from to old now image i n

-- a step copies some more blocks (this project)
abbrev pub CarriesTo : Geometry → Geometry → List ℕ → List ℕ → ℕ → ℕ → List ℕ → ℕ → ℕ → Type 0
CarriesTo from to old image i n new j m = (now : ℕ) → IsStage from to old now image i n → IsStage from to old now new j m

-- the addresses of a new i-node of this kind, before any block is copied: those of a special file, or zeros (this project)
abbrev pub first_addresses : Kind → Inode → List ℕ
first_addresses kinds.Special node = raised_device node.addresses
first_addresses _ node = replicate 13 0

-- an i-node of this kind as it is in the new volume, before any block is copied (this project)
abbrev pub first_inode : Kind → Inode → ℕ → Inode
first_inode kind node now = record (raised_inode node now) { addresses = first_addresses kind node }

-- the i-list of the new volume has the i-nodes below `i` of the old one, and zeros elsewhere (this project)
pub record HasInodesBelow (from to : Geometry) (old : List ℕ) (now : ℕ) (image : List ℕ) (i : ℕ) : Type 0 where
  pub done : (j : ℕ) → j < i → IsUsed from old j → inode_of to.edition image (j + 1)
      ≡ first_inode (kind_at from old j) (inode_of from.edition old j) now
  pub rest : (k r : ℕ) → 1 ≤ k → k ≤ to.last_inode → (i + 1 ≤ k) ⊎ IsIdle from old k r → r < (constants to.edition).inode_bytes
      → slice_index image (inode_place to.edition k + r) ≡ 0

-- the i-list of the new volume has all i-nodes of the old one (this project)
abbrev pub HasInodes : Geometry → Geometry → List ℕ → ℕ → List ℕ → Type 0
HasInodes from to old now image = HasInodesBelow from to old now image (from.last_inode + 1)
