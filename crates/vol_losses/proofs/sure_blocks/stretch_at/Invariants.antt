use Rattle.std.proofs.Common.{◌≡◌, false}
use Rattle.vol_layout.specs.BlockPointers.{named}
use Rattle.vol_layout.specs.BlockMaps.{place_to}
use Rattle.vol_file.proofs.Subtrees.{tail_of}
use Rattle.vol_losses.specs.Losses.{is_lost_on}
use Rattle.vol_losses.proofs.sure_blocks.stretch_at.Given as goal

-- Invariant: `block` is the block reached by the first `d` entries, and no block above it is lost.
abbrev pub invariant-loop-d : goal.invariant-loop-d
invariant-loop-d l = record {
  reached : l.block ≡ named l.geometry l.image l.i (place_to l.way.address l.way.entries l.d);
  above : is_lost_on l.geometry l.image l.lost l.i (tail_of (place_to l.way.address l.way.entries l.d)) ≡ false;
}
