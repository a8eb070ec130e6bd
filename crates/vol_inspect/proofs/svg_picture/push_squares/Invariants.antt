use Rattle.std.proofs.Common.{◌≡◌, ◌*◌, ◌/◌, ◌%◌, ◌++◌, get_or, map}
use Rattle.std.specs.List.{flat_map, range_with_len}
use Rattle.std.specs.String.{string_bytes}
use Rattle.vol_inspect.specs.Cells.{piece}
use Rattle.vol_inspect.specs.Svg.{titled_text}
use Rattle.vol_inspect.specs.declared.cell_groups.Cell.TheVariants as cells
use Rattle.vol_inspect.proofs.svg_picture.push_squares.Given as goal

-- Invariant: the squares so far have been added.
abbrev pub invariant-loop-k : goal.invariant-loop-k
invariant-loop-k l = string_bytes l.text ≡ string_bytes l.initial.text
    ++ flat_map (λ k. titled_text (map string_bytes l.titles) (piece l.each l.blocks k) (k * l.each) (get_or l.cells k cells.Blank) (10 * (k % l.width)) (10 * (k / l.width)))
    (range_with_len 0 l.k)
