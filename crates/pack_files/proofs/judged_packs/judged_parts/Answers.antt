use Rattle.std.proofs.Common.{arith}
use Rattle.pack_files.proofs.JudgedPacks.{judged_more}
use Rattle.pack_files.proofs.judged_packs.judged_parts.Goals as goal

pub parts-preserved : goal.parts-preserved
parts-preserved g c =
    judged_more g.R.File.Read.remaining c.args.parts.now c.parts.part-index _ c.parts.judged.items _ c.in_ok-one.one (omega arith) c.parts.invariant
    c.in-Ok.ensures.items c.in_ok-one.ensures.part c.in_ok-one.ensures.judged
