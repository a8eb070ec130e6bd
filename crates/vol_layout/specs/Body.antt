-- The body of a file.
use Rattle.std.specs.Prelude.{ℕ, ◌+◌, ◌*◌, ◌/◌, ◌%◌, min, if◌then◌else◌, List, map, slice_index}
use Rattle.std.specs.List.{range_with_len}
use Rattle.vol_layout.specs.Edition.{constants}
use Rattle.vol_layout.specs.Geometry.{in_zone}
use Rattle.vol_layout.specs.Inode.{inode_place, size_at}
use Rattle.vol_layout.specs.BlockPointers.{form_at, stored}
use Rattle.vol_layout.specs.declared.geometry.Geometry.{Geometry}

-- byte r of block k, or 0 if k isn't a data block (manual section 5, file system)
unfoldable pub zone_byte : Geometry → List ℕ → ℕ → ℕ → ℕ
zone_byte geometry image k r = if in_zone geometry k then slice_index image (512 * k + r) else 0

-- byte n of file i, read from the data block of logical block n / 512; a hole reads as zeros (Lions on bmap)
unfoldable pub body_byte : Geometry → List ℕ → ℕ → ℕ → ℕ
body_byte geometry image i n = zone_byte geometry image (stored geometry image i (form_at geometry image i) (n / 512)) (n % 512)

-- the length of file i's body: its size, but at most the greatest size of the edition (manual section 5, file system; the cut is this project's)
abbrev pub body_size : Geometry → List ℕ → ℕ → ℕ
body_size geometry image i = min (size_at geometry.edition image (inode_place geometry.edition i)) (constants geometry.edition).greatest

-- the body of file i (manual section 5, file system)
unfoldable pub body : Geometry → List ℕ → ℕ → List ℕ
body geometry image i = map (body_byte geometry image i) (range_with_len 0 (body_size geometry image i))
