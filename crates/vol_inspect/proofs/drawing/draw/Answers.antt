use Rattle.std.proofs.Common.{List, ap, arith, length}
use Rattle.vol_inspect.specs.declared.cell_groups.Cell.{Cell}
use Rattle.vol_inspect.proofs.drawing.draw.Goals as goal

pub draw_cells-requires-clause-places : goal.draw_cells-requires-clause-places
draw_cells-requires-clause-places c = λ k low.
    let same = ap (λ (xs : List Cell). length xs) c.deref.ensures.value in
    c.in_ok-cells.ensures.places k (omega (arith, low, same))
