-- The block report.
use Rattle.std.specs.Prelude.{ℕ, ◌+◌, ◌==◌, ◌&&◌, Bool, true, false, not, min, nat_lt, if◌then◌else◌, List, [], ◌∷◌, ◌++◌, length, filter, Option, None, Some}
use Rattle.std.specs.List.{count_by, sum_by, flat_map, range_with_len}
use Rattle.vol_layout.specs.Geometry.{in_zone}
use Rattle.vol_layout.specs.declared.geometry.Geometry.{Geometry}
use Rattle.vol_layout.specs.declared.mode.Kind.{Kind}
use Rattle.vol_layout.specs.declared.mode.Kind.TheVariants as kinds
use Rattle.vol_file.specs.Rules.{kind_at}
use Rattle.vol_file.specs.Changes.{blocks_of}
use Rattle.vol_reports.specs.Words.{zone_len}
use Rattle.vol_free.specs.FreeWalk.{free_walk}
use Rattle.vol_free.specs.declared.free_walk.FreeFault.{FreeFault}
use Rattle.vol_reports.specs.declared.line.Line.{Line}
use Rattle.vol_reports.specs.declared.line.Line.TheVariants as lines
use Rattle.vol_reports.specs.declared.line.Total.TheVariants as totals

-- 1 for true, 0 for false (this project)
abbrev pub one_if : Bool → ℕ
one_if b = if b then 1 else 0

-- the number of block-map positions that point to block `b` (icheck)
unfoldable pub use_count : Geometry → List ℕ → ℕ → ℕ
use_count g image b = sum_by (λ i. count_by (λ k. k == b) (blocks_of g image i)) (range_with_len 1 g.last_inode)

-- the number of times that the walk over the free list passes block `b` (icheck)
unfoldable pub met_count : Geometry → List ℕ → ℕ → ℕ
met_count g image b = count_by (λ k. k == b) (free_walk g image).met

-- the numbers in the block map of i-node `i` that are outside the data blocks (icheck)
unfoldable pub bad_numbers : Geometry → List ℕ → ℕ → List ℕ
bad_numbers g image i = filter (λ k. not (in_zone g k)) (blocks_of g image i)

-- the least of some numbers, or 2^64 - 1 if there are none (this project)
unfoldable pub least_of : List ℕ → ℕ
least_of [] = 18446744073709551615
least_of (k ∷ ks) = min k (least_of ks)

-- true if two kinds are the same (this project)
abbrev pub is_kind : Kind → Kind → Bool
is_kind kinds.Free kinds.Free = true
is_kind kinds.Regular kinds.Regular = true
is_kind kinds.Directory kinds.Directory = true
is_kind kinds.Special kinds.Special = true
is_kind kinds.Odd kinds.Odd = true
is_kind _ _ = false

-- the number of i-nodes of a kind (icheck)
unfoldable pub kind_count : Geometry → List ℕ → Kind → ℕ
kind_count g image kind = count_by (λ i. is_kind kind (kind_at g image i)) (range_with_len 1 g.last_inode)

-- the line of an i-node with this count of numbers outside the data blocks, or none if the count is 0 (icheck)
abbrev pub bad_line_of : ℕ → ℕ → ℕ → List Line
bad_line_of i count least = if count == 0 then [] else lines.Bad i count least ∷ []

-- the line of a block with this count of block-map positions, which the walk over the free list did or didn't pass; no line if that is at most one
-- use in all (icheck)
abbrev pub dup_line_of : ℕ → ℕ → Bool → List Line
dup_line_of b places free = if nat_lt 1 (places + one_if free) then lines.Dup b places free ∷ [] else []

-- true if a block with this count of block-map positions, which the walk over the free list did or didn't pass, is neither used nor free (icheck)
abbrev pub is_lost_of : ℕ → Bool → Bool
is_lost_of places free = (places == 0) && not free

-- the line of a block, if it is lost (icheck)
abbrev pub lost_line_of : ℕ → Bool → List Line
lost_line_of b lost = if lost then lines.Lost b ∷ [] else []

-- the line of the fault that ended the walk over the free list (icheck)
abbrev pub free_list_line : Option (FreeFault × ℕ) → List Line
free_list_line None = []
free_list_line (Some fault) = lines.FreeList fault.0 fault.1 ∷ []

-- true if the walk over the free list passes block `b` (icheck)
abbrev pub is_met : Geometry → List ℕ → ℕ → Bool
is_met g image b = not (met_count g image b == 0)

-- true if a block-map position points to block `b` (icheck)
abbrev pub is_used : Geometry → List ℕ → ℕ → Bool
is_used g image b = not (use_count g image b == 0)

-- true if block `b` is neither used nor free (icheck)
abbrev pub is_lost : Geometry → List ℕ → ℕ → Bool
is_lost g image b = is_lost_of (use_count g image b) (is_met g image b)

-- the line of i-node `i`, if its block map has numbers outside the data blocks (icheck)
abbrev pub bad_line : Geometry → List ℕ → ℕ → List Line
bad_line g image i = bad_line_of i (length (bad_numbers g image i)) (least_of (bad_numbers g image i))

-- the line of block `b`, if it is claimed more than once (icheck)
abbrev pub dup_line : Geometry → List ℕ → ℕ → List Line
dup_line g image b = dup_line_of b (use_count g image b) (is_met g image b)

-- the line of block `b`, if it is lost (icheck)
abbrev pub lost_line : Geometry → List ℕ → ℕ → List Line
lost_line g image b = lost_line_of b (is_lost g image b)

-- the number of data blocks that pass a test (this project)
abbrev pub zone_count : Geometry → (ℕ → Bool) → ℕ
zone_count g test = count_by test (range_with_len g.zone_start (zone_len g))

-- the totals: i-nodes of each kind; data blocks that are used, free, or neither (icheck)
unfoldable pub total_lines : Geometry → List ℕ → List Line
total_lines g image =
    lines.Total totals.Files (kind_count g image kinds.Regular)
    ∷ lines.Total totals.Directories (kind_count g image kinds.Directory)
    ∷ lines.Total totals.Special (kind_count g image kinds.Special)
    ∷ lines.Total totals.Odd (kind_count g image kinds.Odd)
    ∷ lines.Total totals.Used (zone_count g (is_used g image))
    ∷ lines.Total totals.Free (zone_count g (is_met g image))
    ∷ lines.Total totals.Missing (zone_count g (is_lost g image))
    ∷ []

-- the lines of the i-nodes with bad block addresses, in ascending order (icheck)
unfoldable pub bad_lines : Geometry → List ℕ → List Line
bad_lines g image = flat_map (bad_line g image) (range_with_len 1 g.last_inode)

-- the lines of the blocks that are claimed more than once, in ascending order (icheck)
unfoldable pub dup_lines : Geometry → List ℕ → List Line
dup_lines g image = flat_map (dup_line g image) (range_with_len g.zone_start (zone_len g))

-- the lines of the blocks that are lost, in ascending order (icheck)
unfoldable pub lost_lines : Geometry → List ℕ → List Line
lost_lines g image = flat_map (lost_line g image) (range_with_len g.zone_start (zone_len g))

-- the block report of an image with a geometry (icheck)
abbrev pub block_lines : Geometry → List ℕ → List Line
block_lines g image =
    bad_lines g image ++ (dup_lines g image ++ (lost_lines g image ++ (free_list_line (free_walk g image).fault ++ total_lines g image)))
