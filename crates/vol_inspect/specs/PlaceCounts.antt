-- The number of block-map positions that point to each block, counted up to two.
use Rattle.std.specs.Prelude.{◌≡◌, ℕ, zero, suc, ◌+◌, ◌*◌, ◌≤◌, ◌==◌, ◌&&◌, Bool, true, min, if◌then◌else◌, List, length, slice_index}
use Rattle.std.specs.List.{count_by, sum_by, range_with_len}
use Rattle.vol_layout.specs.Edition.{constants}
use Rattle.vol_layout.specs.Geometry.{in_zone}
use Rattle.vol_layout.specs.BlockMaps.{levels_below, places}
use Rattle.vol_layout.specs.BlockPointers.{form_at, named, pointer_in}
use Rattle.vol_layout.specs.declared.geometry.Geometry.{Geometry}
use Rattle.vol_layout.specs.declared.mode.Kind.{Kind}
use Rattle.vol_file.specs.Rules.{kind_at}
use Rattle.vol_reports.specs.Icheck.{one_if, is_kind}

-- the number of positions that point to block `c` with `e` levels of blocks below it, counting the position with number `b`, which has `d` levels
-- below it, and the positions below (icheck; Lions on bmap)
unfoldable pub found_at : Geometry → List ℕ → ℕ → ℕ → ℕ → ℕ → ℕ
found_at g image zero b c e = one_if ((b == c) && (e == 0))
found_at g image (suc d) b c e =
    one_if ((b == c) && (e == suc d)) + sum_by (λ j. found_at g image d (pointer_in g image b j) c e) (range_with_len 0 (constants g.edition).pointers)

-- true if position `p` of i-node `i` points to block `c` with `e` levels of blocks below it (Lions on bmap)
abbrev pub names_at : Geometry → List ℕ → ℕ → ℕ → ℕ → List ℕ → Bool
names_at g image i c e p = (named g image i p == c) && (e == levels_below (form_at g image i) p)

-- the number of block-map positions of i-node `i` that point to block `c` with `e` levels of blocks below it (icheck)
unfoldable pub node_count : Geometry → List ℕ → ℕ → ℕ → ℕ → ℕ
node_count g image i c e = count_by (names_at g image i c e) (places (form_at g image i))

-- the number of block-map positions of i-node `i` that point to block `c` with `e` levels of blocks below it, if the i-node is of the wanted kind,
-- else 0 (icheck)
abbrev pub wanted_count : Geometry → List ℕ → Kind → ℕ → ℕ → ℕ → ℕ
wanted_count g image kind i c e = if is_kind kind (kind_at g image i) then node_count g image i c e else 0

-- the number of block-map positions of i-nodes of a kind that point to block `c` with `e` levels of blocks below it (icheck)
unfoldable pub naming_count : Geometry → List ℕ → Kind → ℕ → ℕ → ℕ
naming_count g image kind c e =
    sum_by (λ i. wanted_count g image kind i c e) (range_with_len 1 g.last_inode)

-- for each level, the count of a block's positions grew by the given number, up to two in all (this project)
abbrev pub Counts : Geometry → (ℕ → ℕ → ℕ) → List ℕ → List ℕ → Type 0
Counts g more old new = (c e : ℕ) → in_zone g c ≡ true → e ≤ 3 → slice_index new (4 * c + e) ≡ min 2 (slice_index old (4 * c + e) + more c e)

-- the position with number `b` was counted, and the positions below it (this project)
abbrev pub CountsFrom : Geometry → List ℕ → ℕ → ℕ → List ℕ → List ℕ → Type 0
CountsFrom g image d b old new = Counts g (found_at g image d b) old new

-- the block-map positions of i-node `i` were counted (this project)
abbrev pub CountsNode : Geometry → List ℕ → ℕ → List ℕ → List ℕ → Type 0
CountsNode g image i old new = Counts g (node_count g image i) old new

-- the block-map positions of i-node `i` were counted, if it is of this kind (this project)
abbrev pub CountsWanted : Geometry → List ℕ → Kind → ℕ → List ℕ → List ℕ → Type 0
CountsWanted g image kind i old new = Counts g (wanted_count g image kind i) old new

-- the counts are those of the block-map positions of the i-nodes of a kind, up to two (icheck)
abbrev pub CountsKind : Geometry → List ℕ → Kind → List ℕ → Type 0
CountsKind g image kind counts = (c e : ℕ) → in_zone g c ≡ true → e ≤ 3 → slice_index counts (4 * c + e) ≡ min 2 (naming_count g image kind c e)

-- all counts are 0 (this project)
abbrev pub IsClear : List ℕ → Type 0
IsClear counts = (k : ℕ) → slice_index counts k ≡ 0

-- no count is above two, and each block below a block with up to `d` levels below it was counted at least as often as that block (this project)
pub record IsTally (g : Geometry) (image : List ℕ) (d : ℕ) (counts : List ℕ) : Type 0 where
  pub len : length counts ≡ 4 * g.zone_end
  pub low : (c e : ℕ) → in_zone g c ≡ true → e ≤ 3 → slice_index counts (4 * c + e) ≤ 2
  pub closed : (b k c e : ℕ) → k ≤ d → in_zone g b ≡ true → in_zone g c ≡ true → e ≤ 3 → 1 ≤ found_at g image k b c e
      → slice_index counts (4 * b + k) ≤ slice_index counts (4 * c + e)
