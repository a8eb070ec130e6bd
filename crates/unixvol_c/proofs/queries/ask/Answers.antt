use Rattle.vol_volume.specs.Volume.{reads_as}
use Rattle.unixvol_c.proofs.Replied.{replies_alike}
use Rattle.unixvol_c.proofs.queries.ask.Goals as goal

pub returns-in-Ok-clause-alike : goal.returns-in-Ok-clause-alike
returns-in-Ok-clause-alike c =
    let volume = c.volume.result.now in
    replies_alike (reads_as volume.edition volume.image).tree c.args.query.now c.in-Ok.reply c.in-Ok.ensures
