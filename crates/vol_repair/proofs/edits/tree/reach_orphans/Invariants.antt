use Rattle.vol_layout.specs.Geometry.{Fits}
use Rattle.vol_repair.proofs.edits.tree.reach_orphans.Given as goal

-- Invariant: the image has all blocks of the volume.
abbrev pub invariant-loop-before : goal.invariant-loop-before
invariant-loop-before l = Fits l.geometry l.image

abbrev pub invariant-loop-before-2 : goal.invariant-loop-before-2
invariant-loop-before-2 l = Fits l.geometry l.image
