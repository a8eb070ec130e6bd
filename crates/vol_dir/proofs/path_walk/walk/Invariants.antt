use Rattle.std.proofs.Common.{◌≡◌, length}
use Rattle.vol_file.specs.Rules.{Rules3To7}
use Rattle.vol_dir.specs.Tree.{tree}
use Rattle.vol_dir.specs.Entries.{HasEntries, IsInUse}
use Rattle.vol_dir.specs.Walk.{components, walk_from, walk}
use Rattle.vol_dir.proofs.path_walk.walk.Given as goal

-- Invariant: the walk from the current i-node along the rest of the path is the whole walk.
abbrev pub invariant-loop-name : goal.invariant-loop-name
invariant-loop-name l = record {
  whole : walk_from (tree l.geometry l.image) l.cred l.i (components l.rest) ≡ walk (tree l.geometry l.image) l.cred l.path;
  used : Rules3To7 l.geometry l.image → HasEntries l.geometry l.image → IsInUse l.geometry l.image l.i;
}

abbrev pub decreases-loop-name : goal.decreases-loop-name
decreases-loop-name l = length l.rest
