use Rattle.std.proofs.Common.{map, take}
use Rattle.unixvol.specs.Below.{AreStarted}
use Rattle.unixvol.proofs.Identified.{path_of}
use Rattle.unixvol.proofs.identify_below.start.Given as goal

-- Invariant: this is what the words so far name.
abbrev pub invariant-images : goal.invariant-images
invariant-images g l = AreStarted g.R.ImageFiles.stood (take l.image-index (map path_of l.images)) l.stack.items
