use Rattle.std.proofs.Common.{◌≡◌, ◌++◌, map, take}
use Rattle.serde_json.specs.View.{view}
use Rattle.vol_dir.specs.Tree.{tree}
use Rattle.vol_listing.specs.ListingJson.{entry_data}
use Rattle.vol_listing.proofs.listing_json.push_names.Given as goal

-- Invariant: the objects of the names so far have been added.
abbrev pub invariant-names : goal.invariant-names
invariant-names l =
    map view l.values.items ≡ map view l.initial.values.items ++ map (entry_data (tree l.geometry l.image) l.path) (take l.name-index l.names)
