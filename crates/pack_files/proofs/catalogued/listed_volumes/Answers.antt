use Rattle.std.proofs.Common.{arith}
use Rattle.pack_files.proofs.ListedVolumes.{listed_more}
use Rattle.pack_files.proofs.catalogued.listed_volumes.Goals as goal

pub parts-preserved : goal.parts-preserved
parts-preserved g c =
    let more = c.in_ok-push_listed.ensures in
    listed_more g.R.File.Read.remaining c.args.parts.now c.parts.part-index _ c.parts.listed.items c.push_listed.new.listed.items more.0 (omega arith) c.parts.invariant
    more.1 more.2
