use Rattle.std.proofs.Common.{◌≡◌, map, take}
use Rattle.serde_json.specs.View.{view}
use Rattle.vol_listing.specs.Sums.{span_data}
use Rattle.vol_listing.proofs.known_sums.span_values.Given as goal

-- Invariant: the spans so far have been added.
abbrev pub invariant-loop-span : goal.invariant-loop-span
invariant-loop-span l = record { values : map view l.values.items ≡ map span_data (take l.span-index l.spans) }
