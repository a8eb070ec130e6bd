-- The use of each block of a volume.
use Rattle.std.specs.Prelude.{ℕ, ◌+◌, ◌*◌, ◌==◌, nat_lt, Bool, true, false, if◌then◌else◌, List, slice_index, slice_index_or}
use Rattle.vol_layout.specs.declared.geometry.Geometry.{Geometry}
use Rattle.vol_layout.specs.declared.mode.Kind.TheVariants as kinds
use Rattle.vol_reports.specs.Icheck.{one_if, use_count, is_met, is_lost_of}
use Rattle.vol_inspect.specs.PlaceCounts.{naming_count}
use Rattle.vol_inspect.specs.FreeListStatus.{listed_of}
use Rattle.vol_inspect.specs.declared.free_list.Listed.{Listed}
use Rattle.vol_inspect.specs.declared.free_list.Listed.TheVariants.{Absent, Plain, Linking}
use Rattle.vol_inspect.specs.declared.uses.Use.{Use}
use Rattle.vol_inspect.specs.declared.uses.Use.TheVariants as uses

-- true if a block is in the free list (icheck)
abbrev pub is_listed : Listed → Bool
is_listed Absent = false
is_listed Plain = true
is_listed Linking = true

-- the use of a block of the free list (filsys.h, fblk.h)
abbrev pub free_use : Listed → Use
free_use Linking = uses.Chain
free_use Plain = uses.Free
free_use Absent = uses.Free

-- the use of a data block, from the number of block-map positions that point to it, its status in the free list, and the numbers of positions in
-- directories and in regular files that point to it as data (icheck)
abbrev pub data_use : ℕ → Bool → Listed → ℕ → ℕ → Use
data_use named met listed directories files =
    if nat_lt 1 (named + one_if met) then uses.Twice else if is_lost_of named met then uses.Lost else if met then free_use listed
    else if directories == 1 then uses.Directory else if files == 1 then uses.File else uses.Pointer

-- the number of block-map positions that point to a block: the sum of its counts at the levels 0 to 3 (this project)
abbrev pub named_in : List ℕ → ℕ → ℕ
named_in counts at = slice_index counts at + slice_index counts (at + 1) + slice_index counts (at + 2) + slice_index counts (at + 3)

-- the use of block `b`, from the counts (this project)
abbrev pub use_in : Geometry → List ℕ → List ℕ → List Listed → ℕ → Use
use_in g directories files listed b =
    if b == 0 then uses.Boot else if b == 1 then uses.SuperBlock else if nat_lt b g.zone_start then uses.IList
    else data_use (named_in directories (4 * b) + named_in files (4 * b)) (is_listed (slice_index_or listed b Absent)) (slice_index_or listed b Absent)
    (slice_index directories (4 * b)) (slice_index files (4 * b))

-- the use of block `b`: blocks 0 and 1 and the i-list come before the data zone; a data block that the block report has neither in a dup line nor as
-- lost is free if the walk over the free list passed it, and otherwise has the use of the only block-map position that points to it (manual section
-- 5, file system; icheck)
unfoldable pub use_of : Geometry → List ℕ → ℕ → Use
use_of g image b =
    if b == 0 then uses.Boot else if b == 1 then uses.SuperBlock else if nat_lt b g.zone_start then uses.IList
    else data_use (use_count g image b) (is_met g image b) (listed_of g image b)
    (naming_count g image kinds.Directory b 0) (naming_count g image kinds.Regular b 0)
