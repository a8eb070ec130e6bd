use Rattle.std.proofs.Common.{◌≡◌, map, take}
use Rattle.std.specs.List.{flat_map}
use Rattle.std.specs.Prelude.{option_map}
use Rattle.serde_json.specs.View.{view}
use Rattle.command_reads.specs.Find.{found_data}
use Rattle.command_reads.proofs.find.found_values.Given as goal

-- Invariant: the objects of the entries so far have been added.
abbrev pub invariant-founds : goal.invariant-founds
invariant-founds l = map view l.values.items ≡ flat_map (found_data (option_map (λ word. word.now) l.pattern) l.top) (take l.found-index l.founds)
