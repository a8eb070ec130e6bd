use Rattle.vol_layout.specs.Geometry.{Fits}
use Rattle.vol_repair.proofs.edits.nodes.mend_nodes.Given as goal

-- Invariant: the image has all blocks of the volume.
abbrev pub invariant-loop-before : goal.invariant-loop-before
invariant-loop-before l = Fits l.geometry l.image
