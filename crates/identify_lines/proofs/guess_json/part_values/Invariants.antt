use Rattle.std.proofs.Common.{◌≡◌, map, take}
use Rattle.serde_json.specs.View.{view}
use Rattle.identify_lines.specs.GuessJson.{part_data}
use Rattle.identify_lines.proofs.guess_json.part_values.Given as goal

-- Invariant: the values of the parts so far have been added.
abbrev pub invariant-parts : goal.invariant-parts
invariant-parts l = map view l.values.items ≡ map (part_data l.path) (take l.part-index l.parts)
