-- The blocks to show in a picture: all, or those of one i-node.
use Rattle.std.specs.Prelude.{◌≡◌, ℕ, ◌+◌, ◌*◌, ◌≤◌, min, nat_lt, Bool, true, ◌&&◌, if◌then◌else◌, List, Option, None, Some, map, slice_index}
use Rattle.std.specs.List.{range_with_len}
use Rattle.vol_layout.specs.Geometry.{in_zone}
use Rattle.vol_layout.specs.declared.geometry.Geometry.{Geometry}
use Rattle.vol_inspect.specs.PlaceCounts.{node_count}
use Rattle.vol_inspect.specs.Uses.{named_in, use_of}
use Rattle.vol_inspect.specs.declared.uses.Use.{Use}

-- true if a position in the block map of i-node `i` points to block `b`, a data block of the volume (Lions on bmap)
abbrev pub has_block : Geometry → List ℕ → ℕ → ℕ → Bool
has_block g image i b =
    in_zone g b && nat_lt 0 (node_count g image i b 0 + node_count g image i b 1 + node_count g image i b 2 + node_count g image i b 3)

-- the use of a block if i-node `i` has it (this project)
abbrev pub node_use : Geometry → List ℕ → ℕ → ℕ → Option Use
node_use g image i b = if has_block g image i b then Some (use_of g image b) else None

-- the blocks of a volume, of which those of i-node `i` are shown (this project)
abbrev pub node_uses : Geometry → List ℕ → ℕ → List (Option Use)
node_uses g image i = map (node_use g image i) (range_with_len 0 g.zone_end)

-- the blocks of a volume, all shown (this project)
abbrev pub shown_uses : Geometry → List ℕ → List (Option Use)
shown_uses g image = map (λ u. Some u) (map (use_of g image) (range_with_len 0 g.zone_end))

-- true if block `b` is a data block and was counted (this project)
abbrev pub is_counted : Geometry → List ℕ → ℕ → Bool
is_counted g counts b = in_zone g b && nat_lt 0 (named_in counts (4 * b))

-- the counts are those of the block-map positions of i-node `i`, up to two (icheck)
abbrev pub CountsOne : Geometry → List ℕ → ℕ → List ℕ → Type 0
CountsOne g image i counts = (c e : ℕ) → in_zone g c ≡ true → e ≤ 3 → slice_index counts (4 * c + e) ≡ min 2 (node_count g image i c e)

-- a use, if it is to be shown (this project)
abbrev pub shown_if : Bool → Use → Option Use
shown_if shown u = if shown then Some u else None
