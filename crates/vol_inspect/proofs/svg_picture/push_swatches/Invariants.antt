use Rattle.std.proofs.Common.{◌≡◌, ◌+◌, ◌*◌, ◌++◌, get_or}
use Rattle.std.specs.List.{flat_map, range_with_len}
use Rattle.std.specs.String.{string_bytes}
use Rattle.vol_inspect.specs.Svg.{entry_text}
use Rattle.vol_inspect.specs.declared.cell_groups.Cell.TheVariants as cells
use Rattle.vol_inspect.proofs.svg_picture.push_swatches.Given as goal

-- Invariant: the lines so far have been added.
abbrev pub invariant-loop-k : goal.invariant-loop-k
invariant-loop-k l = string_bytes l.text ≡ string_bytes l.initial.text
    ++ flat_map (λ k. entry_text l.blocks l.cells (get_or l.kinds k cells.Blank) (l.top + 14 * k)) (range_with_len 0 l.k)
