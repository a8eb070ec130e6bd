use Rattle.std.proofs.Common.{◌≡◌, ◌++◌, take}
use Rattle.std.specs.List.{flat_map}
use Rattle.std.specs.String.{string_bytes}
use Rattle.vol_inspect.specs.Pictures.{legend_line}
use Rattle.vol_inspect.proofs.drawing.push_legend_lines.Given as goal

-- Invariant: the lines so far have been added.
abbrev pub invariant-loop-one : goal.invariant-loop-one
invariant-loop-one l =
    string_bytes l.text ≡ string_bytes l.initial.text ++ flat_map (legend_line l.coloured l.blocks l.cells) (take l.one-index l.kinds)
