use Rattle.std.proofs.Common.{◌≡◌, ◌++◌, length}
use Rattle.std.specs.Prelude.{reverse}
use Rattle.vol_dir.specs.Tree.{tree}
use Rattle.vol_listing.specs.Places.{below}
use Rattle.vol_listing.proofs.places.push_below.Given as goal

-- Invariant: the subdirectories that are not pushed yet, followed by the pending directories from the top of the stack, are all subdirectories,
-- followed by those that were pending before.
abbrev pub invariant-directories : goal.invariant-directories
invariant-directories l =
    l.below.items ++ reverse l.pending.items ≡ below (tree l.geometry l.image) l.fn.place ++ reverse l.initial.pending.items

abbrev pub decreases-directories : goal.decreases-directories
decreases-directories l = length l.below.items
