use Rattle.std.proofs.Common.{◌-◌, ◌≤◌}
use Rattle.vol_layout.specs.Geometry.{Fits}
use Rattle.vol_repair.proofs.edits.entries.mend_directory.Given as goal

-- Invariant: the image has all blocks of the volume.
abbrev pub invariant-loop-s : goal.invariant-loop-s
invariant-loop-s l = record {
  low : l.from ≤ 67637568;
  fits : Fits l.geometry l.image;
}

-- The slot number increases with each step.
abbrev pub decreases-loop-s : goal.decreases-loop-s
decreases-loop-s l = 67637569 - l.from
