use Rattle.std.proofs.Common.{◌≡◌, map, take}
use Rattle.std.specs.List.{flat_map}
use Rattle.serde_json.specs.View.{view}
use Rattle.vol_compare.specs.Json.{told_data}
use Rattle.vol_compare.specs.Merge.{pairing_of}
use Rattle.vol_compare.proofs.json.pair_values.Given as goal

-- Invariant: the values of the pairs so far have been added.
abbrev pub invariant-loop-pair : goal.invariant-loop-pair
invariant-loop-pair l =
    map view l.values.items
    ≡ flat_map (told_data l.times l.old.geometry.now.edition l.new.geometry.now.edition) (map (pairing_of l.times l.old l.new) (take l.pair-index l.pairs))
