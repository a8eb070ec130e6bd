-- The front of a volume: the boot block, the super-block and the first block of the i-list.
use Rattle.std.specs.Prelude.{ℕ, ◌+◌, ◌-◌, ◌*◌, Bool, true, false, ◌&&◌, ◌||◌, ◌==◌, nat_le, nat_lt, max, if◌then◌else◌, List, [], ◌∷◌, length, slice_range, Option, None, Some}
use Rattle.std.specs.Option.{option_or}
use Rattle.pdp_words.specs.Words.{word}
use Rattle.vol_layout.specs.Edition.{constants, number}
use Rattle.vol_layout.specs.Geometry.{block_count, geometry_of, in_zone, is_bounded}
use Rattle.vol_layout.specs.Inode.{inode_place, kind_of}
use Rattle.vol_layout.specs.Super.{free_head}
use Rattle.vol_layout.specs.declared.edition.Edition.{Edition}
use Rattle.vol_layout.specs.declared.edition.Edition.TheVariants.{V6, V7}
use Rattle.vol_layout.specs.declared.mode.Kind.{Kind}
use Rattle.vol_layout.specs.declared.mode.Kind.TheVariants as kinds
use Rattle.vol_identify.specs.declared.front.FoundVolume.{FoundVolume}

-- the three blocks from block k on (this project)
unfoldable pub front_at : List ℕ → ℕ → List ℕ
front_at image k = slice_range image (512 * k) (512 * k + 1536)

-- each pair of bytes is exchanged (dd of the seventh edition, conv=swab)
unfoldable pub swab : List ℕ → List ℕ
swab [] = []
swab (a ∷ []) = a ∷ []
swab (a ∷ b ∷ rest) = b ∷ a ∷ swab rest

-- the kind is that of a directory (manual section 5, file system)
abbrev pub is_directory : Kind → Bool
is_directory kinds.Directory = true
is_directory _ = false

-- the root's i-node is that of a directory (manual section 5, file system)
unfoldable pub has_root : Edition → List ℕ → Bool
has_root edition front = is_directory (kind_of edition (word front (inode_place edition (constants edition).root)))

-- number `next`, the last of `count` in the array of the free list, is that of a data block, or 0 at the end of the list (filsys.h)
abbrev pub is_next_free : Edition → List ℕ → ℕ → ℕ → Bool
is_next_free edition front count next = ((count == 1) && (next == 0)) || in_zone (geometry_of edition front) next

-- the array of the free list is empty, or its count is at most its size and its last number can be the next to be taken (filsys.h)
unfoldable pub has_free_head : Edition → List ℕ → Bool
has_free_head edition front =
    if word front (free_head edition) == 0 then true
    else nat_le (word front (free_head edition)) (constants edition).free_slots
    && is_next_free edition front (word front (free_head edition))
    (number edition front (free_head edition + 2) (word front (free_head edition) - 1))

-- a volume seems to begin with this front: its sizes, the head of its free list and its root are those of one (this project)
unfoldable pub begins : Edition → List ℕ → Bool
begins edition front = is_bounded edition front && (has_free_head edition front && has_root edition front)

-- a volume may begin with this front: rule 2 holds, and the head of the free list or the root is that of one (this project)
unfoldable pub may_begin : Edition → List ℕ → Bool
may_begin edition front = is_bounded edition front && (has_free_head edition front || has_root edition front)

-- the image seems to be a whole volume: rules 1 and 2 hold, and the head of the free list or the root is that of one (this project)
unfoldable pub is_volume : Edition → List ℕ → Bool
is_volume edition image =
    nat_le (512 * block_count edition image) (length image) && may_begin edition image

-- the volume that a super-block describes (filsys.h)
abbrev pub volume_of : Edition → List ℕ → FoundVolume
volume_of edition front = record { edition = edition; blocks = block_count edition front }

-- the volume that begins with this front, the sixth edition tried first (this project)
unfoldable pub begun : List ℕ → Option FoundVolume
begun front =
    if begins V6 front then Some (volume_of V6 front) else if begins V7 front then Some (volume_of V7 front) else None

-- the volume of this edition that begins with this front, if a test says that one does, and if it has at most `room` blocks (this project)
abbrev pub within : (Edition → List ℕ → Bool) → Edition → List ℕ → ℕ → Option FoundVolume
within test edition front room =
    if test edition front && nat_le (block_count edition front) room then Some (volume_of edition front) else None

-- the volume of either edition, the sixth tried first (this project)
abbrev pub within_either : (Edition → List ℕ → Bool) → List ℕ → ℕ → Option FoundVolume
within_either test front room = option_or (within test V6 front room) (within test V7 front room)

-- the number of blocks of the volume of this edition that may begin with this front; 0 if none may (this project)
unfoldable pub blocks_if : Edition → List ℕ → ℕ
blocks_if edition front = if may_begin edition front then block_count edition front else 0

-- the number of blocks of a volume; 0 if there is none (this project)
abbrev pub blocks_of : Option FoundVolume → ℕ
blocks_of None = 0
blocks_of (Some volume) = volume.blocks

-- the number of blocks that must be there for the volume which may begin an image to be whole, as it is or with each pair of bytes exchanged; 0 if
-- none may (this project)
unfoldable pub blocks_wanted : List ℕ → ℕ
blocks_wanted image =
    if nat_lt (length image) 1536 then 0
    else max (max (blocks_if V6 image) (blocks_if V7 image)) (blocks_of (begun (swab (front_at image 0))))
