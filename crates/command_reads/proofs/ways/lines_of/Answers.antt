use Rattle.std.proofs.Common.{Some, refl, subst, sym}
use Rattle.command_reads.specs.Ways.{IsWayLine}
use Rattle.command_reads.proofs.ways.lines_of.Goals as goal

pub returns : goal.returns
returns c =
    let lines = c.in_ok-told.told.lines.items in
    subst (IsWayLine c.args.geometry.now c.args.image.now c.args.lost.now (Some lines)) (sym c.in-Some.is) (lines, c.in_ok-told.told.is_short, refl, c.in_ok-told.ensures)
