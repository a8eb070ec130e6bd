-- The status of blocks in the free list.
use Rattle.std.specs.Prelude.{ℕ, ◌==◌, if◌then◌else◌, List, [], ◌∷◌}
use Rattle.vol_layout.specs.declared.geometry.Geometry.{Geometry}
use Rattle.vol_free.specs.FreeWalk.{free_walk}
use Rattle.vol_free.specs.Walk.{left_after}
use Rattle.vol_inspect.specs.declared.free_list.Listed.{Listed}
use Rattle.vol_inspect.specs.declared.free_list.Listed.TheVariants.{Absent, Plain, Linking}

-- a block has the status of a chain block if it is the last number left in an array (filsys.h, fblk.h)
abbrev pub listed_at : ℕ → Listed
listed_at left = if left == 1 then Linking else Plain

-- the status of block `b`, given the blocks that a walk over the free list passed, the last first (filsys.h, fblk.h)
unfoldable pub listed_in : Geometry → List ℕ → List ℕ → ℕ → Listed
listed_in g image [] b = Absent
listed_in g image (m ∷ met) b = if m == b then listed_at (left_after g image met) else listed_in g image met b

-- the status of block `b` in the free list, up to its first fault (icheck; filsys.h)
abbrev pub listed_of : Geometry → List ℕ → ℕ → Listed
listed_of g image b = listed_in g image (free_walk g image).met b
