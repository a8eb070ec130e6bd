use Rattle.vol_layout.specs.Geometry.{Fits}
use Rattle.vol_repair.proofs.edits.blocks.mend_blocks.Given as goal

-- Invariant: the image has all blocks of the volume.
abbrev pub invariant-loop-clash : goal.invariant-loop-clash
invariant-loop-clash l = Fits l.geometry l.image
