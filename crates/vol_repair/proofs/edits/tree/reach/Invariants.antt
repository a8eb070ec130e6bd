use Rattle.vol_layout.specs.Geometry.{Fits}
use Rattle.vol_repair.proofs.edits.tree.reach.Given as goal

-- Invariant: the image has all blocks of the volume.
abbrev pub invariant-loop-at : goal.invariant-loop-at
invariant-loop-at l = Fits l.geometry l.image
