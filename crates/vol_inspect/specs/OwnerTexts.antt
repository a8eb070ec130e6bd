-- The lines of the owners of a block.
use Rattle.std.specs.Prelude.{ℕ, ◌==◌, if◌then◌else◌, List, [], ◌∷◌, ◌++◌, codes, decimal, drop}
use Rattle.std.specs.List.{flat_map}
use Rattle.std.specs.Option.{option_map_or}
use Rattle.vol_layout.specs.BlockMaps.{last_place}
use Rattle.vol_layout.specs.declared.block_map.BlockMap.{BlockMap}
use Rattle.vol_inspect.specs.Texts.{link_where}
use Rattle.vol_inspect.specs.declared.owners.Owner.{Owner}
use Rattle.vol_inspect.specs.declared.owners.Owner.TheVariants as owners

-- the pointers to a position in the block map, the last index first, starting at the i-node: an address, and an entry of each indirect block (Lions
-- on bmap; ino.h)
unfoldable pub pointers_text : List ℕ → List ℕ
pointers_text [] = []
pointers_text (k ∷ []) = codes ", addr[" ++ (decimal k ++ codes "]")
pointers_text (j ∷ (a ∷ p)) = pointers_text (a ∷ p) ++ (codes "[" ++ (decimal j ++ codes "]"))

-- the pointers to a block, by the path to the first logical block at or below it (Lions on bmap)
abbrev pub way_text : BlockMap → ℕ → ℕ → List ℕ
way_text form level logical = option_map_or (λ p. pointers_text (drop level p)) (last_place form logical) []

-- the word for a block with this number of levels of blocks below it (manual section 5, file system)
abbrev pub level_text : ℕ → List ℕ
level_text level =
    if level == 0 then codes "data" else if level == 1 then codes "indirect block" else if level == 2 then codes "doubly indirect block"
    else codes "triply indirect block"

-- the first logical block; for an indirect block, the first below it (this project)
abbrev pub logical_text : ℕ → ℕ → List ℕ
logical_text level logical = if level == 0 then codes ", logical " ++ decimal logical else codes ", from logical " ++ decimal logical

-- the position of a free block in the free list: an index, and the block that contains the array (filsys.h, fblk.h)
abbrev pub listed_text : ℕ → ℕ → List ℕ
listed_text link index = codes "free, listed in " ++ (link_where link ++ (codes " free[" ++ (decimal index ++ codes "]")))

-- the i-nodes of a block of the i-list (this project)
abbrev pub inodes_text : ℕ → ℕ → List ℕ
inodes_text first last = codes "i-list, i-nodes " ++ (decimal first ++ (codes " to " ++ decimal last))

-- a block of an i-node, by the levels of blocks below it and the first logical block at or below it (this project)
abbrev pub node_text : ℕ → BlockMap → ℕ → ℕ → List ℕ
node_text ino form level logical =
    level_text level ++ (codes " of i-node " ++ (decimal ino ++ (logical_text level logical ++ way_text form level logical)))

-- an owner (this project)
abbrev pub owner_text : Owner → List ℕ
owner_text owners.Outside = codes "outside the volume"
owner_text owners.Boot = codes "boot block"
owner_text owners.SuperBlock = codes "super-block"
owner_text (owners.IList first last) = inodes_text first last
owner_text (owners.Free link index) = listed_text link index
owner_text (owners.Node ino form e) = node_text ino form e.level e.logical
owner_text owners.Lost = codes "lost"

-- the line of an owner of block `b` (this project)
abbrev pub owner_line : ℕ → Owner → List ℕ
owner_line b owner = codes "block " ++ (decimal b ++ (codes ": " ++ (owner_text owner ++ codes "\n")))

-- the lines of the owners of block `b` (this project)
unfoldable pub owners_text : ℕ → List Owner → List ℕ
owners_text b found = flat_map (owner_line b) found
