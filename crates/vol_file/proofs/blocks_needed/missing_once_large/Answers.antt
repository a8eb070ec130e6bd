use Rattle.std.proofs.Common.{arith}
use Rattle.vol_file.specs.Shape.{is_named, moved_down}
use Rattle.vol_file.proofs.MissingLaws.{missing_to_more, moved_more}
use Rattle.vol_file.proofs.blocks_needed.missing_once_large.Goals as goal

pub loop-d-preserved : goal.loop-d-preserved
loop-d-preserved c =
    let names = is_named c.args.geometry.now c.args.image.now c.args.i in
    let way = c.in-Some.way in
    let named = moved_more names way.address way.entries c.loop-d.d in
    let count = missing_to_more (moved_down names) c.args.whole way.address way.entries c.loop-d.d in
    record { exact = grind (arith, named, count); few = grind arith }
