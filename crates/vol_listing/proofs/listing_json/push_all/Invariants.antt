use Rattle.std.proofs.Common.{◌≡◌, ◌++◌, map, take}
use Rattle.std.specs.List.{flat_map}
use Rattle.serde_json.specs.View.{view}
use Rattle.vol_dir.specs.Tree.{tree}
use Rattle.vol_listing.specs.ListingJson.{entries_data}
use Rattle.vol_listing.proofs.listing_json.push_all.Given as goal

-- Invariant: the objects of the directories so far have been added.
abbrev pub invariant-places : goal.invariant-places
invariant-places l =
    map view l.values.items ≡ map view l.initial.values.items ++ flat_map (entries_data (tree l.geometry l.image)) (take l.place-index l.places)
