use Rattle.std.proofs.Common.{List, ap, arith, length}
use Rattle.vol_inspect.specs.declared.cell_groups.Cell.{Cell}
use Rattle.vol_inspect.proofs.svg_picture.svg.Goals as goal

pub draw_squares-requires-clause-few : goal.draw_squares-requires-clause-few
draw_squares-requires-clause-few c =
    omega (arith, ap (λ (xs : List Cell). length xs) c.deref.ensures.value, c.in_ok-cells.ensures.few, c.requires.few)

pub draw_squares-requires-clause-places : goal.draw_squares-requires-clause-places
draw_squares-requires-clause-places c = λ k low.
    let same = ap (λ (xs : List Cell). length xs) c.deref.ensures.value in
    c.in_ok-cells.ensures.places k (omega (arith, low, same))
