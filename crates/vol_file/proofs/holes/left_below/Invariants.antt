use Rattle.std.proofs.Common.{◌≡◌, ◌-◌, ◌^◌, ◌≤◌}
use Rattle.vol_layout.specs.Edition.{constants}
use Rattle.vol_layout.specs.BlockMaps.{place_to}
use Rattle.vol_file.specs.Holes.{blocks_left}
use Rattle.vol_file.proofs.holes.left_below.Given as goal

-- Invariant: `left` is the number of logical blocks left below the block at depth `d` of the path down to `level`.
abbrev pub invariant-loop-level : goal.invariant-loop-level
invariant-loop-level l = record {
  left : l.left ≡ blocks_left (constants l.geometry.edition).pointers (l.level - l.d) (place_to l.way.address l.way.entries l.level);
  some : 1 ≤ l.left;
  few : l.left ≤ 256 ^ (l.level - l.d);
}
