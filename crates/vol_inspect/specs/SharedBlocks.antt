-- The blocks that belong to files more than once.
use Rattle.std.specs.Prelude.{ℕ, ◌+◌, ◌-◌, ◌*◌, Bool, nat_lt, List, filter}
use Rattle.std.specs.List.{range_with_len}
use Rattle.vol_layout.specs.declared.geometry.Geometry.{Geometry}
use Rattle.vol_reports.specs.Icheck.{use_count}
use Rattle.vol_inspect.specs.Uses.{named_in}

-- true if the counts for directories and for regular files say that at least two block-map positions point to block `b` (icheck)
abbrev pub is_counted_twice : List ℕ → List ℕ → ℕ → Bool
is_counted_twice directories files b = nat_lt 1 (named_in directories (4 * b) + named_in files (4 * b))

-- true if two block-map positions point to block `b` (icheck)
abbrev pub is_shared : Geometry → List ℕ → ℕ → Bool
is_shared g image b = nat_lt 1 (use_count g image b)

-- the data blocks to which two block-map positions of files point (icheck)
unfoldable pub shared_blocks : Geometry → List ℕ → List ℕ
shared_blocks g image = filter (is_shared g image) (range_with_len g.zone_start (g.zone_end - g.zone_start))
