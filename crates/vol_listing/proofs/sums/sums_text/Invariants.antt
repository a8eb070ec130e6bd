use Rattle.std.proofs.Common.{◌≡◌, take}
use Rattle.std.specs.List.{flat_map}
use Rattle.vol_listing.specs.KnownSums.{known_line}
use Rattle.vol_listing.proofs.sums.sums_text.Given as goal

-- Invariant: the lines of the entries so far have been added.
abbrev pub invariant-founds : goal.invariant-founds
invariant-founds l = l.text.items ≡ flat_map (known_line l.geometry l.image l.lost) (take l.found-index l.founds)
