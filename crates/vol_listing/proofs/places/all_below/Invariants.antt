use Rattle.std.proofs.Common.{◌++◌, ◌^◌, ◌-◌, List, length}
use Rattle.std.specs.Prelude.{reverse}
use Rattle.vol_dir.specs.Tree.{tree}
use Rattle.vol_listing.specs.Places.{Descends, AllBelow}
use Rattle.vol_listing.specs.declared.places.ListedNode.{ListedNode}
use Rattle.vol_listing.proofs.places.all_below.Given as goal

-- Invariant: the directories so far, followed by those that descending into the pending ones finds, are all directories.
abbrev pub invariant-places : goal.invariant-places
invariant-places l =
    (rest : List ListedNode) → Descends (tree l.geometry l.image) (reverse l.pending.items) rest
    → AllBelow (tree l.geometry l.image) l.start (l.places.items ++ rest)

abbrev pub decreases-places : goal.decreases-places
decreases-places l = 2 ^ 64 - length l.places.items
