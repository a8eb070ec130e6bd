-- The owners of a block.
use Rattle.std.specs.Prelude.{◌≡◌, ℕ, ◌+◌, ◌-◌, ◌*◌, ◌==◌, ◌≤◌, nat_lt, nat_le, Bool, true, false, if◌then◌else◌, List, [], ◌∷◌, ◌++◌, length, slice_index_or, Option, None, Some, Result, Ok, Err, IsOk}
use Rattle.std.specs.Global.{Vec}
use Rattle.std.specs.Option.{option_to_list}
use Rattle.std.specs.List.{find, flat_map, range_with_len}
use Rattle.vol_layout.specs.Edition.{constants}
use Rattle.vol_layout.specs.Geometry.{geometry_read, in_zone}
use Rattle.vol_layout.specs.BlockPointers.{form_at}
use Rattle.vol_layout.specs.declared.block_map.BlockMap.{BlockMap}
use Rattle.vol_layout.specs.declared.edition.Edition.{Edition}
use Rattle.vol_layout.specs.declared.geometry.Geometry.{Geometry}
use Rattle.vol_free.specs.FreeWalk.{free_walk}
use Rattle.vol_free.specs.Walk.{left_after}
use Rattle.vol_inspect.specs.Extents.{holdings, holdings_from}
use Rattle.vol_inspect.specs.declared.extent.Extent.{Extent}
use Rattle.vol_inspect.specs.declared.fault.InspectFault.{InspectFault}
use Rattle.vol_inspect.specs.declared.fault.InspectFault.TheVariants.{Unsound, NoEntry, NoMemory}
use Rattle.vol_inspect.specs.declared.owners.Owner.{Owner}
use Rattle.vol_inspect.specs.declared.owners.Owner.TheVariants as owners

-- true if an extent is this block (this project)
abbrev pub is_block : ℕ → Extent → Bool
is_block b e = e.block == b

-- the first position in the block map of i-node `i` that points to block `b`, as one block with the levels below it and the first logical block at or
-- below it (Lions on bmap)
unfoldable pub naming : Geometry → List ℕ → ℕ → ℕ → Option Extent
naming g image b i = find (is_block b) (holdings g image i)

-- the i-node, if its block map has the block (icheck)
abbrev pub owner_by : ℕ → BlockMap → Option Extent → List Owner
owner_by i form None = []
owner_by i form (Some e) = owners.Node i form e ∷ []

-- the i-nodes whose block maps have block `b`, in ascending order, each with the first position that points to it (icheck)
unfoldable pub node_owners : Geometry → List ℕ → ℕ → List Owner
node_owners g image b = flat_map (λ i. owner_by i (form_at g image i) (naming g image b i)) (range_with_len 1 g.last_inode)

-- the block that contains the current array of a walk that passed these blocks, the last first; block 1 is the super-block (filsys.h, fblk.h)
unfoldable pub holder : Geometry → List ℕ → List ℕ → ℕ
holder g image [] = 1
holder g image (m ∷ met) = if left_after g image met == 1 then m else holder g image met

-- the position of block `b` in the free list: the block that contains the array, and the index in it, given the blocks that a walk passed, the last
-- first (filsys.h, fblk.h)
unfoldable pub listed_in : Geometry → List ℕ → ℕ → List ℕ → Option Owner
listed_in g image b [] = None
listed_in g image b (m ∷ met) = if m == b then Some (owners.Free (holder g image met) (left_after g image met - 1)) else listed_in g image b met

-- the owners of a data block: `Lost` if there are none (icheck)
abbrev pub or_lost : List Owner → List Owner
or_lost [] = owners.Lost ∷ []
or_lost (owner ∷ more) = owner ∷ more

-- the i-nodes in block `b` of the i-list (manual section 5, file system)
abbrev pub list_owner : Geometry → ℕ → Owner
list_owner g b =
    owners.IList ((constants g.edition).inodes_per_block * (b - 2) + 1) ((constants g.edition).inodes_per_block * (b - 1))

-- the owners of block `b` (manual section 5, file system; icheck)
unfoldable pub owners_of : Geometry → List ℕ → ℕ → List Owner
owners_of g image b =
    if nat_le g.zone_end b then owners.Outside ∷ []
    else if b == 0 then owners.Boot ∷ []
    else if b == 1 then owners.SuperBlock ∷ []
    else if nat_lt b g.zone_start then list_owner g b ∷ []
    else or_lost (option_to_list (listed_in g image b (free_walk g image).met) ++ node_owners g image b)

-- the owners of a block, or the reason why they aren't known (this project)
abbrev pub InspectsBlock : Edition → List ℕ → ℕ → Result (Vec Owner) InspectFault → Type 0
InspectsBlock edition image b (Ok found) = (g : Geometry) × (geometry_read edition image ≡ Ok g) × (found.items ≡ owners_of g image b)
InspectsBlock edition image b (Err (Unsound fault)) = geometry_read edition image ≡ Err fault
InspectsBlock edition image b (Err NoMemory) = IsOk (geometry_read edition image)
InspectsBlock edition image b (Err NoEntry) = ⊥

-- no marked block leads to block `b`; each block has four marks, one for each number of levels below it (this project)
pub record AreDead (g : Geometry) (image : List ℕ) (b : ℕ) (dead : List Bool) : Type 0 where
  pub len : length dead ≡ 4 * g.zone_end
  pub none : (m d logical : ℕ) → in_zone g m ≡ true → d ≤ 3 → slice_index_or dead (4 * m + d) false ≡ true
      → find (is_block b) (holdings_from g image d logical m) ≡ None
