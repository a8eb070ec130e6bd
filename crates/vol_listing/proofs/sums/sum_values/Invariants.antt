use Rattle.std.proofs.Common.{map, take}
use Rattle.serde_json.specs.View.{view}
use Rattle.vol_listing.specs.KnownSums.{AreKnownData}
use Rattle.vol_listing.proofs.sums.sum_values.Given as goal

-- Invariant: the objects of the entries so far have been added.
abbrev pub invariant-founds : goal.invariant-founds
invariant-founds l = AreKnownData l.geometry l.image l.lost l.top (take l.found-index l.founds) (map view l.values.items)
