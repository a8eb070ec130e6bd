use Rattle.vol_layout.specs.Geometry.{Fits}
use Rattle.vol_repair.proofs.edits.orphans.lost_directory.Given as goal

-- Invariant: the image has all blocks of the volume.
abbrev pub invariant-loop-name : goal.invariant-loop-name
invariant-loop-name l = Fits l.geometry l.image
