-- The images that a sweep fits, and its seats and pieces.
use Rattle.std.specs.Prelude.{◌≡◌, ◌≢◌, ℕ, ◌+◌, ◌*◌, ◌<◌, List, length, slice_index, Result, Ok, Err}
use Rattle.vol_layout.specs.declared.edition.Edition.{Edition}
use Rattle.vol_layout.specs.declared.geometry.GeometryFault.{GeometryFault}
use Rattle.vol_layout.specs.Geometry.{geometry_read}
use Rattle.vol_layout.specs.declared.geometry.Geometry.{Geometry}
use Rattle.vol_reports.specs.Counted.{HasLinkCounts}
use Rattle.count_table.specs.Tallies.{table_shape}
use Rattle.vol_check.specs.declared.checker.Checker.{Checker}
use Rattle.vol_check.specs.declared.checker.Checker.TheVariants.{Blocks, Entries, Names}
use Rattle.vol_check.specs.declared.seats.CheckSeat.{CheckSeat}
use Rattle.vol_check.specs.declared.sweeps.Sweep.{Sweep}
use Rattle.vol_check.specs.Shapes.{Layout}
use Rattle.vol_check.specs.Parts.{HasStarts, parts_before}
use Rattle.vol_check.specs.Seats.{IsSeatOf, IsOf}

-- the byte at which the data zone of an image with this layout begins, or the image's end if it has no geometry (filsys.h)
abbrev pub head_end : Result Geometry GeometryFault → ℕ → ℕ
head_end (Ok g) len = 512 * g.zone_start
head_end (Err fault) len = len

-- two images have the same length, and the same bytes before the data zone, or all the same bytes if they have no geometry (this project)
pub record HasSameHead (edition : Edition) (old new : List ℕ) : Type 0 where
  pub len : length new ≡ length old
  pub head : (k : ℕ) → k < head_end (geometry_read edition old) (length old) → slice_index new k ≡ slice_index old k

-- an image has the layout, and, if the sweep needs them, the directory sizes and link counts, of the image that the sweep was made for (this project)
pub record IsFor (sweep : Sweep) (image : List ℕ) : Type 0 where
  pub read : geometry_read sweep.edition image ≡ sweep.layout
  pub starts : (g : Geometry) → sweep.layout ≡ Ok g → sweep.checker ≢ Blocks → HasStarts g image sweep.starts.items
  pub links : (g : Geometry) → sweep.layout ≡ Ok g → sweep.checker ≡ Entries → HasLinkCounts g image sweep.links.items

-- a seat belongs to a sweep (this project)
abbrev pub IsSeatIn : Sweep → CheckSeat → Type 0
IsSeatIn sweep = IsSeatOf sweep.tally

-- the marks and entries of a sweep's seat are those of the pieces that it drew, in this image (icheck, dcheck, ncheck)
abbrev pub HasSwept : Sweep → List ℕ → CheckSeat → Type 0
HasSwept sweep image = IsOf sweep.checker sweep.layout image

-- the number of seats of a sweep (this project)
abbrev pub seat_count : Sweep → ℕ
seat_count sweep = (table_shape sweep.tally).seats

-- the number of pieces of a sweep (this project)
abbrev pub pieces_of : Sweep → ℕ
pieces_of sweep = (table_shape sweep.tally).pieces

-- the number of pieces of an image for a checker: for blocks, the free list and each i-number; for the others, the parts of each i-number; 0 without
-- geometry (this project)
abbrev pub pieces_in : Checker → Layout → List ℕ → ℕ
pieces_in Blocks (Ok g) image = g.last_inode + 1
pieces_in Entries (Ok g) image = parts_before g image g.last_inode
pieces_in Names (Ok g) image = parts_before g image g.last_inode
pieces_in checker (Err fault) image = 0
