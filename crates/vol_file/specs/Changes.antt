-- The effects of a write and of a truncation.
use Rattle.std.specs.Prelude.{◌≡◌, ◌≢◌, ℕ, ◌+◌, ◌-◌, ◌*◌, ◌/◌, ◌<◌, ◌≤◌, ◌==◌, ◌&&◌, ◌||◌, Bool, true, false, not, max, nat_lt, nat_le, if◌then◌else◌, List, [], ◌∷◌, ◌++◌, length, map, filter, take, drop, replicate, slice_index}
use Rattle.std.specs.List.{range_with_len}
use Rattle.vol_layout.specs.Edition.{constants}
use Rattle.vol_layout.specs.Inode.{inode_place, with_large}
use Rattle.vol_layout.specs.Super.{free_head}
use Rattle.vol_layout.specs.BlockMaps.{IsPlace, places}
use Rattle.vol_layout.specs.BlockPointers.{mode_of, form_at, IsFile, IsPlaceOf, named, NamesBlock}
use Rattle.vol_layout.specs.Body.{body_byte, body}
use Rattle.vol_file.specs.Shape.{is_named, touched, is_on_ways, grows_large, filled}
use Rattle.vol_file.specs.Need.{need, places_taken}
use Rattle.vol_file.specs.Rules.{size_of, Rules3To7With, IsCovered}
use Rattle.vol_free.specs.Stack.{IsIn}
use Rattle.vol_layout.specs.declared.block_map.BlockMap.{BlockMap}
use Rattle.vol_layout.specs.declared.edition.Edition.{Edition}
use Rattle.vol_layout.specs.declared.edition.Edition.TheVariants.{V6, V7}
use Rattle.vol_layout.specs.declared.geometry.Geometry.{Geometry}

-- true if byte r of an i-node isn't part of its size or addresses nor, in the sixth edition, of its mode (ino.h)
abbrev pub is_kept_byte : Edition → ℕ → Bool
is_kept_byte V6 r = (nat_le 2 r && nat_lt r 5) || (nat_le 24 r && nat_lt r 32)
is_kept_byte V7 r = nat_lt r 8 || (nat_le 51 r && nat_lt r 64)

-- the bytes that a change of file i leaves unchanged: block 0, block 1 outside the free list, the other i-nodes, i-node i except its mode, size and
-- addresses, the blocks of all other files, and the bytes past the volume (a frame)
pub record StaysElsewhere (geometry : Geometry) (old new : List ℕ) (i : ℕ) : Type 0 where
  pub len : length new ≡ length old
  pub before : (k : ℕ) → k < free_head geometry.edition → slice_index new k ≡ slice_index old k
  pub super_block : (k : ℕ) → free_head geometry.edition + 202 ≤ k → k < 1024 → slice_index new k ≡ slice_index old k
  pub lower_inodes : (k : ℕ) → 1024 ≤ k → k < inode_place geometry.edition i → slice_index new k ≡ slice_index old k
  pub higher_inodes : (k : ℕ) → inode_place geometry.edition i + (constants geometry.edition).inode_bytes ≤ k → k < 512 * geometry.zone_start
      → slice_index new k ≡ slice_index old k
  pub inode : (r : ℕ) → is_kept_byte geometry.edition r ≡ true
      → slice_index new (inode_place geometry.edition i + r) ≡ slice_index old (inode_place geometry.edition i + r)
  pub blocks : (j : ℕ) (p : List ℕ) (k r : ℕ) → j ≢ i → NamesBlock geometry old j p k → r < 512
      → slice_index new (512 * k + r) ≡ slice_index old (512 * k + r)
  pub behind : (k : ℕ) → 512 * geometry.zone_end ≤ k → slice_index new k ≡ slice_index old k

-- a change of file i affects no other file: the block maps and the bodies of the other files stay the same (a frame)
pub record ChangesFileAlone (geometry : Geometry) (old new : List ℕ) (i : ℕ) : Type 0 where
  pub elsewhere : StaysElsewhere geometry old new i
  pub places : (j : ℕ) (p : List ℕ) → j ≢ i → IsPlaceOf geometry old j p → named geometry new j p ≡ named geometry old j p
  pub bodies : (j : ℕ) → j ≢ i → IsFile geometry old j → body geometry new j ≡ body geometry old j

-- all bytes of these blocks are unchanged (a frame)
abbrev pub KeepsBlocks : List ℕ → List ℕ → List ℕ → Type 0
KeepsBlocks old new blocks = (k r : ℕ) → IsIn k blocks → r < 512 → slice_index new (512 * k + r) ≡ slice_index old (512 * k + r)

-- the bytes after `text` is written over them at an offset, with zeros between their end and the offset (Lions on writei; the zeros are this
-- project's)
abbrev pub spliced : List ℕ → ℕ → List ℕ → List ℕ
spliced bytes offset text = (take offset bytes ++ replicate (offset - length bytes) 0) ++ (text ++ drop (offset + length text) bytes)

-- the mode of a file after a write that touches these logical blocks (Lions on bmap)
abbrev pub mode_after : Geometry → List ℕ → ℕ → List ℕ → ℕ
mode_after geometry image i blocks =
    if grows_large (form_at geometry image i) blocks then with_large (mode_of geometry image i) true else mode_of geometry image i

-- the position in the block map after a write that touches these logical blocks: if a small file becomes large, `[k]` becomes entry k of the block to
-- which `[0]` points (Lions on bmap)
abbrev pub place_after : BlockMap → List ℕ → List ℕ → List ℕ
place_after form blocks p = if grows_large form blocks then p ++ (0 ∷ []) else p

-- the effect of a write of at least one byte at an offset of file i, where `blocks` were free: it takes as many of them as it needs, from the front,
-- one for each position in the block map that lacked a block, in order; the other free blocks stay free and unchanged; positions that pointed to a
-- block still point to it, and the bytes stored past the size stay (Lions on writei and bmap)
pub record Writes (geometry : Geometry) (old new : List ℕ) (i offset : ℕ) (text blocks : List ℕ) : Type 0 where
  pub taken : List ℕ
  pub rest : List ℕ
  pub free : blocks ≡ taken ++ rest
  pub count : length taken ≡ need geometry old i offset (length text)
  pub sound : Rules3To7With geometry new rest
  pub covered : IsCovered geometry old blocks → IsCovered geometry new rest
  pub alone : ChangesFileAlone geometry old new i
  pub mode : mode_of geometry new i ≡ mode_after geometry old i (touched offset (length text))
  pub size : size_of geometry new i ≡ max (size_of geometry old i) (offset + length text)
  pub body : body geometry new i ≡ spliced (body geometry old i) offset text
  pub names : (p : List ℕ) → IsPlace (form_at geometry new i) p
      → is_named geometry new i p ≡ filled (form_at geometry old i) (is_named geometry old i) (touched offset (length text)) p
  pub kept : (p : List ℕ) → IsPlaceOf geometry old i p → named geometry old i p ≢ 0
      → named geometry new i (place_after (form_at geometry old i) (touched offset (length text)) p) ≡ named geometry old i p
  pub past : (n : ℕ) → max (size_of geometry old i) (offset + length text) ≤ n → body_byte geometry new i n ≡ body_byte geometry old i n
  pub order : taken ≡ map (named geometry new i) (places_taken (form_at geometry old i) (is_named geometry old i) (touched offset (length text)))
  pub unused : KeepsBlocks old new rest

-- the blocks of a file, in the order of the positions in the block map that point to them (Lions on itrunc)
unfoldable pub blocks_of : Geometry → List ℕ → ℕ → List ℕ
blocks_of geometry image i = filter (λ k. not (k == 0)) (map (named geometry image i) (places (form_at geometry image i)))

-- the number of logical blocks that hold the first `size` bytes of a file (this project)
abbrev pub whole_blocks : ℕ → ℕ
whole_blocks size = (size + 511) / 512

-- true if a position in the block map is on the path of one of the logical blocks that hold the first `size` bytes (this project)
abbrev pub is_kept : BlockMap → ℕ → List ℕ → Bool
is_kept form size p = is_on_ways form (range_with_len 0 (whole_blocks size)) p

-- the blocks of a file that are not needed for its first `size` bytes, in the order of the positions in the block map that point to them (Lions on
-- itrunc; the size is this project's)
unfoldable pub blocks_past : Geometry → List ℕ → ℕ → ℕ → List ℕ
blocks_past geometry image i size =
    filter (λ k. not (k == 0)) (map (named geometry image i)
    (filter (λ p. not (is_kept (form_at geometry image i) size p)) (places (form_at geometry image i))))

-- the mode of a file after it is truncated; in the sixth edition the large flag is cleared if the file becomes empty (Lions on itrunc)
abbrev pub truncated_mode : Edition → ℕ → ℕ → ℕ
truncated_mode V6 size mode = if size == 0 then with_large mode false else mode
truncated_mode V7 size mode = mode

-- the effect of a truncation of file i to its first `left` bytes, where `blocks` were free: positions in the block map on the paths of the logical
-- blocks that hold these bytes stay, and all other positions are cleared; the blocks to which those pointed are put before the free ones in the order
-- of the positions, since they are freed from the last position to the first; the bytes of the kept blocks, even past the size, and of the free
-- blocks are unchanged (Lions on itrunc; the size is this project's)
pub record Truncates (geometry : Geometry) (old new : List ℕ) (i left : ℕ) (blocks : List ℕ) : Type 0 where
  pub sound : Rules3To7With geometry new (blocks_past geometry old i left ++ blocks)
  pub covered : IsCovered geometry old blocks → IsCovered geometry new (blocks_past geometry old i left ++ blocks)
  pub alone : ChangesFileAlone geometry old new i
  pub mode : mode_of geometry new i ≡ truncated_mode geometry.edition left (mode_of geometry old i)
  pub size : size_of geometry new i ≡ left
  pub body : body geometry new i ≡ take left (body geometry old i)
  pub names : (p : List ℕ) → IsPlaceOf geometry new i p
      → named geometry new i p ≡ (if is_kept (form_at geometry old i) left p then named geometry old i p else 0)
  pub bytes : (n : ℕ) → n / 512 < whole_blocks left → body_byte geometry new i n ≡ body_byte geometry old i n
  pub unused : KeepsBlocks old new blocks
