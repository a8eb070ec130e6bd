use Rattle.std.proofs.Common.{◌≡◌, ◌++◌, take}
use Rattle.std.specs.List.{flat_map}
use Rattle.std.specs.String.{string_bytes}
use Rattle.vol_inspect.specs.Svg.{part_text}
use Rattle.vol_inspect.proofs.svg_picture.push_parts.Given as goal

-- Invariant: the numbers so far have been added.
abbrev pub invariant-loop-kind : goal.invariant-loop-kind
invariant-loop-kind l = string_bytes l.text ≡ string_bytes l.initial.text ++ flat_map (part_text l.blocks) (take l.kind-index l.kinds)
