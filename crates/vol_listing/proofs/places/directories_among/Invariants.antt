use Rattle.std.proofs.Common.{◌≡◌, take}
use Rattle.std.specs.List.{flat_map}
use Rattle.vol_dir.specs.Tree.{tree}
use Rattle.vol_listing.specs.Places.{directory_below}
use Rattle.vol_listing.proofs.places.directories_among.Given as goal

-- Invariant: the directories among the names so far have been added.
abbrev pub invariant-names : goal.invariant-names
invariant-names l = l.places.items ≡ flat_map (directory_below (tree l.geometry l.image) l.path) (take l.name-index l.names)
