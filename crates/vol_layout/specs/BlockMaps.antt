-- The positions in a block map, each of which can point to a block. A position is a list of indexes, the last index first, which is the reverse of
-- the manual's order: `k ∷ []` is address k of the i-node, and `j ∷ p` is entry j of the block to which position p points.
use Rattle.std.specs.Prelude.{Bool, true, false, ℕ, zero, suc, ◌-◌, ◌/◌, ◌%◌, ◌<◌, ◌≤◌, ◌==◌, nat_lt, if◌then◌else◌, List, [], ◌∷◌, slice_index, Option, None, Some}
use Rattle.std.specs.Option.{option_map_or}
use Rattle.std.specs.List.{flat_map, range_with_len}
use Rattle.vol_layout.specs.Edition.{constants}
use Rattle.vol_layout.specs.Inode.{is_large, kind_of}
use Rattle.vol_layout.specs.declared.edition.Edition.{Edition}
use Rattle.vol_layout.specs.declared.edition.Edition.TheVariants.{V6, V7}
use Rattle.vol_layout.specs.declared.mode.Kind.{Kind}
use Rattle.vol_layout.specs.declared.mode.Kind.TheVariants as kinds
use Rattle.vol_layout.specs.declared.block_map.BlockMap.{BlockMap}
use Rattle.vol_layout.specs.declared.block_map.BlockPath.{BlockPath}
use Rattle.vol_layout.specs.declared.block_map.BlockMap.TheVariants.{Small, Large, Deep, Bare}

-- true if i-nodes of a kind have a block map: regular files and directories do (manual section 5, file system)
abbrev pub has_places : Kind → Bool
has_places kinds.Regular = true
has_places kinds.Directory = true
has_places kinds.Free = false
has_places kinds.Special = false
has_places kinds.Odd = false

-- the block map of a regular file or directory: small or large in the sixth edition, deep in the seventh (manual section 5, file system)
abbrev pub file_form : Edition → ℕ → BlockMap
file_form V6 mode = if is_large V6 mode then Large else Small
file_form V7 mode = Deep

-- the block map of an i-node with this mode; bare if it is neither a regular file nor a directory (manual section 5, file system)
abbrev pub form_of : Edition → ℕ → BlockMap
form_of edition mode = if has_places (kind_of edition mode) then file_form edition mode else Bare

-- the number of addresses that an i-node with this block map uses (manual section 5; ino.h)
abbrev pub first_count : BlockMap → ℕ
first_count Small = 8
first_count Large = 8
first_count Deep = 13
first_count Bare = 0

-- the number of block numbers in an indirect block, in the edition of the block map (Lions on bmap; param.h)
abbrev pub pointer_count : BlockMap → ℕ
pointer_count Small = (constants V6).pointers
pointer_count Large = (constants V6).pointers
pointer_count Deep = (constants V7).pointers
pointer_count Bare = 0

-- the number of levels of indirect blocks between an address and the data (Lions on bmap; ino.h)
abbrev pub levels : BlockMap → ℕ → ℕ
levels Small k = 0
levels Large k = if k == 7 then 2 else 1
levels Deep k = k - 9
levels Bare k = 0

-- the number of levels of blocks below the block to which a position in the block map points, 0 if that is a data block (Lions on bmap)
abbrev pub levels_below : BlockMap → List ℕ → ℕ
levels_below form [] = 0
levels_below form (k ∷ []) = levels form k
levels_below form (j ∷ (a ∷ p)) = levels_below form (a ∷ p) - 1

-- a list of indexes is a position in the block map: an address of the i-node, or an entry of an indirect block (Lions on bmap; ino.h)
abbrev pub IsPlace : BlockMap → List ℕ → Type 0
IsPlace form [] = ⊥
IsPlace form (k ∷ []) = k < first_count form
IsPlace form (j ∷ (a ∷ p)) = (j < pointer_count form) × (1 ≤ levels_below form (a ∷ p)) × IsPlace form (a ∷ p)

-- the number of logical blocks that a file with this block map can have (Lions on bmap; ino.h; the sixth edition's limit is this project's)
abbrev pub block_limit : BlockMap → ℕ
block_limit Small = 8
block_limit Large = 32768
block_limit Deep = 2113674
block_limit Bare = 0

-- the position in the block map that points to logical block b (Lions on bmap; the seventh edition's ino.h)
unfoldable pub last_place : BlockMap → ℕ → Option (List ℕ)
last_place Small b = if nat_lt b 8 then Some (b ∷ []) else None
last_place Large b =
    if nat_lt b 1792 then Some ((b % 256) ∷ (b / 256) ∷ [])
    else if nat_lt b 32768 then Some ((b % 256) ∷ (b / 256 - 7) ∷ 7 ∷ []) else None
last_place Deep b =
    if nat_lt b 10 then Some (b ∷ [])
    else if nat_lt b 138 then Some ((b - 10) ∷ 10 ∷ [])
    else if nat_lt b 16522 then Some (((b - 138) % 128) ∷ ((b - 138) / 128) ∷ 11 ∷ [])
    else if nat_lt b 2113674
    then Some (((b - 16522) % 128) ∷ ((b - 16522) / 128 % 128) ∷ ((b - 16522) / 16384) ∷ 12 ∷ []) else None
last_place Bare b = None

-- the position in the block map reached from address k of the i-node by following the first n of some entries (Lions on bmap)
abbrev pub place_to : ℕ → List ℕ → ℕ → List ℕ
place_to k entries zero = k ∷ []
place_to k entries (suc n) = slice_index entries n ∷ place_to k entries n

-- the position in the block map at which a block path ends (Lions on bmap)
abbrev pub end_of : BlockPath → List ℕ
end_of way = place_to way.address way.entries way.depth

-- the positions in the block map on the path from the i-node to a position, including that position, the lowest first (Lions on bmap)
abbrev pub fronts : List ℕ → List (List ℕ)
fronts [] = []
fronts (j ∷ p) = (j ∷ p) ∷ fronts p

-- the positions in the block map on the path from the i-node to logical block b, the lowest first; none if b has no path (Lions on bmap)
abbrev pub way : BlockMap → ℕ → List (List ℕ)
way form b = option_map_or fronts (last_place form b) []

-- a position in the block map followed by the positions at most d levels below it, in depth-first order of their indexes (Lions on itrunc)
abbrev pub places_from : ℕ → List ℕ → ℕ → List (List ℕ)
places_from n p zero = p ∷ []
places_from n p (suc d) = p ∷ flat_map (λ j. places_from n (j ∷ p) d) (range_with_len 0 n)

-- all positions in a block map, each once, in depth-first order of their indexes (Lions on itrunc)
unfoldable pub places : BlockMap → List (List ℕ)
places form = flat_map (λ k. places_from (pointer_count form) (k ∷ []) (levels form k)) (range_with_len 0 (first_count form))
