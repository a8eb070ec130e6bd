use Rattle.std.proofs.Common.{◌≡◌, ◌+◌, ◌≤◌}
use Rattle.vol_layout.specs.BlockPointers.{named}
use Rattle.vol_layout.specs.BlockMaps.{place_to}
use Rattle.vol_file.specs.Shape.{is_named}
use Rattle.vol_file.specs.MissingBlocks.{missing_to}
use Rattle.vol_file.proofs.blocks_needed.missing_on_way.Given as goal

-- Invariant: `block` is the block reached by the first `d` entries, and the path down to it has been counted.
abbrev pub invariant-loop-d : goal.invariant-loop-d
invariant-loop-d l = record {
  block : l.block ≡ named l.geometry l.image l.i (place_to l.way.address l.way.entries l.d);
  exact : l.missing ≡ missing_to (is_named l.geometry l.image l.i) l.whole (place_to l.way.address l.way.entries l.d);
  few : l.missing ≤ l.d + 1;
}
