use Rattle.std.proofs.Common.{◌≡◌, ◌++◌, get_or}
use Rattle.std.specs.List.{flat_map, range_with_len}
use Rattle.std.specs.String.{string_bytes}
use Rattle.vol_inspect.specs.Pictures.{row_cell}
use Rattle.vol_inspect.specs.declared.cell_groups.Cell.TheVariants as cells
use Rattle.vol_inspect.proofs.drawing.push_rows.Given as goal

-- Invariant: the cells so far have been added.
abbrev pub invariant-loop-k : goal.invariant-loop-k
invariant-loop-k l = string_bytes l.text ≡ string_bytes l.initial.text
    ++ flat_map (λ k. row_cell l.coloured l.width l.each (get_or l.cells k cells.Blank) k) (range_with_len 0 l.k)
