-- A new volume that isn't in memory: the value of each of its bytes. (mkfs and free of both editions.)
use Rattle.std.specs.Prelude.{◌≡◌, ℕ, ◌+◌, ◌-◌, ◌*◌, ◌/◌, ◌%◌, ◌<◌, ◌≤◌, ◌==◌, ◌&&◌, nat_lt, if◌then◌else◌, List, [], ◌∷◌, length, map, slice_index, Option}
use Rattle.std.specs.List.{range_with_len}
use Rattle.std.specs.Io.KnownBytes.{Appends}
use Rattle.pdp_words.specs.Devices.{AppendsFront}
use Rattle.pdp_words.specs.Words.{word, long}
use Rattle.vol_layout.specs.Edition.{constants}
use Rattle.vol_layout.specs.Geometry.{first_data_block, block_count}
use Rattle.vol_layout.specs.Inode.{inode_place, inode_of}
use Rattle.vol_layout.specs.Super.{free_head, time_place}
use Rattle.vol_layout.specs.Slot.{padded_name, slot_at}
use Rattle.vol_judge.specs.Sound.{IsSound}
use Rattle.vol_mkfs.specs.Mkfs.{volume_of, root_inode, is_chain, IsMakeable, IsUnused, IsNewVolume}
use Rattle.vol_layout.specs.declared.edition.Edition.{Edition}
use Rattle.vol_layout.specs.declared.edition.Edition.TheVariants.{V6, V7}
use Rattle.vol_layout.specs.declared.geometry.Geometry.{Geometry}
use Rattle.vol_mkfs.specs.declared.blank.NewVolume.{NewVolume}

-- a new volume as contracts see it: its geometry, the root's user and group, and the time of its creation (this project)
pub record Blank : Type 0 where
  pub geometry : Geometry
  pub uid : ℕ
  pub gid : ℕ
  pub now : ℕ

-- the volume with the given parameters (this project)
abbrev pub blank_of : NewVolume → Blank
blank_of volume = record {
  geometry = volume_of volume.edition volume.blocks volume.list_blocks;
  uid = volume.uid;
  gid = volume.gid;
  now = volume.now;
}

-- the bytes are those of the new volume, and keep all twelve rules (mkfs)
pub record IsMade (blank : Blank) (bytes : List ℕ) : Type 0 where
  pub new : IsNewVolume blank.geometry blank.uid blank.gid blank.now bytes
  pub sound : IsSound blank.geometry.edition bytes

-- the bytes of the new volume are appended to the known bytes (std::io::Write)
pub record WritesVolume (blank : Blank) (old new : Option (List ℕ)) : Type 0 where
  pub bytes : List ℕ
  pub made : IsMade blank bytes
  pub written : Appends old new bytes

-- the first `count` bytes of the new volume are appended to the known bytes (std::io::Write)
pub record WritesFront (blank : Blank) (old new : Option (List ℕ)) (count : ℕ) : Type 0 where
  pub bytes : List ℕ
  pub made : IsMade blank bytes
  pub written : AppendsFront old new bytes count

-- entry j of a free-list array whose entry 0 is the chain block `top`, or 0 if that is the volume's end: entries below the count are the blocks
-- before `top`, in descending order; entries past the count are left over from the array before this one (free of both editions)
unfoldable pub listed : Geometry → ℕ → ℕ → ℕ → ℕ
listed geometry top count j =
    if nat_lt 0 j && nat_lt j count then top - j else if top == geometry.zone_end then 0
    else if j == 0 then top else top + (constants geometry.edition).free_slots - j

-- word w of an array of numbers; each number is a word in the sixth edition, and a long, with the high word first, in the seventh (filsys.h, fblk.h)
unfoldable pub array_word : Edition → (ℕ → ℕ) → ℕ → ℕ
array_word V6 numbers w = numbers w
array_word V7 numbers w = if w % 2 == 0 then numbers (w / 2) / 65536 else numbers (w / 2) % 65536

-- word w of a count followed by a free-list array (filsys.h, fblk.h)
unfoldable pub head_word : Geometry → ℕ → ℕ → ℕ → ℕ
head_word geometry top count w =
    if w == 0 then count else array_word geometry.edition (listed geometry top count) (w - 1)

-- byte r of a count followed by a free-list array (PDP-11)
unfoldable pub head_byte : Geometry → ℕ → ℕ → ℕ → ℕ
head_byte geometry top count r =
    if r % 2 == 0 then head_word geometry top count (r / 2) % 256 else head_word geometry top count (r / 2) / 256

-- a count followed by a free-list array begins at byte `at` (filsys.h, fblk.h)
pub record HasHead (geometry : Geometry) (image : List ℕ) (at top count : ℕ) : Type 0 where
  pub bytes : (r : ℕ) → r < 202 → slice_index image (at + r) ≡ head_byte geometry top count r

-- the first chain block, or the volume's end if there is none (free of both editions)
unfoldable pub first_chain : Geometry → ℕ
first_chain geometry =
    geometry.zone_start + (geometry.zone_end - geometry.zone_start - 1) % (constants geometry.edition).free_slots + 1

-- byte r of block b; `first` has blocks 0, 1 and 2, followed by the root's block (mkfs)
unfoldable pub block_byte : Geometry → List ℕ → ℕ → ℕ → ℕ
block_byte geometry first b r =
    if nat_lt b 3 then slice_index first (512 * b + r) else if b == geometry.zone_start then slice_index first (1536 + r)
    else if is_chain geometry b && nat_lt r 202
    then head_byte geometry (b + (constants geometry.edition).free_slots) (constants geometry.edition).free_slots r else 0

-- byte k of the volume (mkfs)
unfoldable pub volume_byte : Geometry → List ℕ → ℕ → ℕ
volume_byte geometry first k = block_byte geometry first (k / 512) (k % 512)

-- all bytes of the volume (mkfs)
unfoldable pub volume_bytes : Geometry → List ℕ → List ℕ
volume_bytes geometry first = map (volume_byte geometry first) (range_with_len 0 (512 * geometry.zone_end))

-- blocks 0, 1 and 2 of a new volume, followed by the root's block: the super-block has the sizes, the time and the free list, the root has its i-node
-- and its two slots, and all other bytes are zero (mkfs)
pub record IsBlankFirst (geometry : Geometry) (uid gid now : ℕ) (first : List ℕ) : Type 0 where
  pub len : length first ≡ 2048
  pub start : first_data_block geometry.edition first ≡ geometry.zone_start
  pub end : block_count geometry.edition first ≡ geometry.zone_end
  pub time : long first (time_place geometry.edition) ≡ now
  pub root : inode_of geometry.edition first (constants geometry.edition).root ≡ root_inode geometry.edition geometry.zone_start uid gid now
  pub dot : slot_at first 1536 ≡ record { inode = (constants geometry.edition).root; name = padded_name (46 ∷ []) }
  pub dot_dot : slot_at first 1552 ≡ record { inode = (constants geometry.edition).root; name = padded_name (46 ∷ 46 ∷ []) }
  pub before : (k : ℕ) → 1024 ≤ k → k < inode_place geometry.edition (constants geometry.edition).root → slice_index first k ≡ 0
  pub behind : (k : ℕ) → inode_place geometry.edition (constants geometry.edition).root + (constants geometry.edition).inode_bytes ≤ k
      → k < 1536 → slice_index first k ≡ 0
  pub unused : geometry.edition ≡ V7 → slice_index first (inode_place V7 (constants V7).root + 51) ≡ 0
  pub rest : (k : ℕ) → IsUnused geometry.edition 1536 k → slice_index first k ≡ 0
  pub none : geometry.zone_end ≡ geometry.zone_start + 1 → word first (free_head geometry.edition) ≡ 0
  pub head : geometry.zone_start + 1 < geometry.zone_end
      → HasHead geometry first (free_head geometry.edition) (first_chain geometry) (first_chain geometry - geometry.zone_start)

-- the new volume with these first blocks: the time is read from the super-block, and the user and group from the root's i-node (this project)
abbrev pub blank_in : Geometry → List ℕ → Blank
blank_in geometry first =
    let root = inode_of geometry.edition first (constants geometry.edition).root in
    record { geometry = geometry; uid = root.uid; gid = root.gid; now = long first (time_place geometry.edition) }

-- the invariant of every new volume: its sizes are in range, and its first blocks are those of a new volume (this project)
pub record IsBlank (geometry : Geometry) (first : List ℕ) : Type 0 where
  pub makeable : IsMakeable geometry
  pub stands : IsBlankFirst geometry (blank_in geometry first).uid (blank_in geometry first).gid (blank_in geometry first).now first
