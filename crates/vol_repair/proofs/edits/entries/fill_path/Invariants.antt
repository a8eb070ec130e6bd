use Rattle.vol_layout.specs.Geometry.{Fits}
use Rattle.vol_repair.proofs.edits.entries.fill_path.Given as goal

-- Invariant: the image has all blocks of the volume.
abbrev pub invariant-loop-level : goal.invariant-loop-level
invariant-loop-level l = Fits l.geometry l.image
