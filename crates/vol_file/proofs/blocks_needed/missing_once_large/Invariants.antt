use Rattle.std.proofs.Common.{◌≡◌, ◌+◌, ◌≤◌}
use Rattle.vol_layout.specs.BlockMaps.{place_to}
use Rattle.vol_file.specs.Shape.{is_named, moved_down}
use Rattle.vol_file.specs.MissingBlocks.{missing_to}
use Rattle.vol_file.proofs.blocks_needed.missing_once_large.Given as goal

-- Invariant: the path down to the block reached by the first `d` entries has been counted.
abbrev pub invariant-loop-d : goal.invariant-loop-d
invariant-loop-d l = record {
  exact : l.missing ≡ missing_to (moved_down (is_named l.geometry l.image l.i)) l.whole (place_to l.way.address l.way.entries l.d);
  few : l.missing ≤ l.d + 1;
}
