-- The blocks of an i-node, joined to extents.
use Rattle.std.specs.Prelude.{◌≡◌, ℕ, zero, suc, ◌+◌, ◌*◌, ◌^◌, ◌==◌, ◌&&◌, Bool, true, false, not, if◌then◌else◌, List, [], ◌∷◌, ◌++◌, Option, None, Some}
use Rattle.std.specs.List.{flat_map, range_with_len}
use Rattle.vol_layout.specs.Edition.{constants}
use Rattle.vol_layout.specs.Geometry.{in_zone}
use Rattle.vol_layout.specs.Inode.{inode_place, address_at}
use Rattle.vol_layout.specs.BlockMaps.{first_count, levels}
use Rattle.vol_layout.specs.BlockPointers.{form_at, pointer_in}
use Rattle.vol_layout.specs.declared.geometry.Geometry.{Geometry}
use Rattle.vol_file.specs.Clears.{first_at}
use Rattle.vol_inspect.specs.declared.extent.Extent.{Extent}
use Rattle.vol_inspect.specs.declared.extents.Gathering.{Gathering}

-- one block, with the number of levels of blocks below it, and the first logical block at or below it (Lions on bmap)
abbrev pub single : Geometry → ℕ → ℕ → ℕ → Extent
single g level logical b = record { level = level; logical = logical; block = b; count = 1; inside = in_zone g b }

-- true if two truth values are the same (this project)
abbrev pub same_bool : Bool → Bool → Bool
same_bool true b = b
same_bool false b = not b

-- true if a single data block continues an extent of data (this project)
abbrev pub joins : Extent → Extent → Bool
joins e next =
    (e.level == 0) && ((next.level == 0) && (same_bool e.inside next.inside
    && ((e.logical + e.count == next.logical) && (e.block + e.count == next.block))))

-- an extent with one more block (this project)
abbrev pub extended : Extent → Extent
extended e = record e { count = e.count + 1 }

-- single blocks joined to extents, the first of them to the extent before it (this project)
abbrev pub gathered : Option Extent → List Extent → List Extent
gathered None [] = []
gathered (Some e) [] = e ∷ []
gathered None (next ∷ later) = gathered (Some next) later
gathered (Some e) (next ∷ later) = if joins e next then gathered (Some (extended e)) later else e ∷ gathered (Some next) later

-- the extents after more single blocks are joined to those found so far (this project)
abbrev pub gathering_with : Gathering → List Extent → List Extent
gathering_with s later = s.done.items ++ gathered s.last later

-- single blocks were joined to the extents found so far, for any blocks that follow (this project)
abbrev pub Collects : Gathering → Gathering → List Extent → Type 0
Collects old new found = (later : List Extent) → gathering_with new later ≡ gathering_with old (found ++ later)

-- number `b` and the numbers below it in `d` levels, in the order of the block map, without those that are 0 (Lions on bmap)
unfoldable pub holdings_from : Geometry → List ℕ → ℕ → ℕ → ℕ → List Extent
holdings_from g image zero logical b = if b == 0 then [] else single g 0 logical b ∷ []
holdings_from g image (suc d) logical b = if b == 0 then [] else
    single g (suc d) logical b
    ∷ flat_map (λ j. holdings_from g image d (logical + j * (constants g.edition).pointers ^ d) (pointer_in g image b j))
    (range_with_len 0 (constants g.edition).pointers)

-- the blocks below address `k` of i-node `i` (Lions on bmap; ino.h)
abbrev pub address_holdings : Geometry → List ℕ → ℕ → ℕ → List Extent
address_holdings g image i k =
    holdings_from g image (levels (form_at g image i) k) (first_at (form_at g image i) k) (address_at g.edition image (inode_place g.edition i) k)

-- the blocks of i-node `i`, one by one, in the order of its block map (Lions on bmap; ino.h)
unfoldable pub holdings : Geometry → List ℕ → ℕ → List Extent
holdings g image i = flat_map (address_holdings g image i) (range_with_len 0 (first_count (form_at g image i)))

-- the extents of i-node `i` (this project)
unfoldable pub extents_of : Geometry → List ℕ → ℕ → List Extent
extents_of g image i = gathered None (holdings g image i)
