use Rattle.vol_layout.specs.Geometry.{Fits}
use Rattle.vol_repair.proofs.edits.orphans.name_orphans.Given as goal

-- Invariant: the image has all blocks of the volume.
abbrev pub invariant-loop-orphan : goal.invariant-loop-orphan
invariant-loop-orphan l = Fits l.geometry l.image
