use Rattle.std.proofs.Common.{rules}
use Rattle.vol_volume.specs.Volume.{reads_as}
use Rattle.command_changes.specs.Put.{put_calls}
use Rattle.command_changes.proofs.put.put.Goals as goal

pub returns-in_err-volume-clause-fault : goal.returns-in_err-volume-clause-fault
returns-in_err-volume-clause-fault c =
    search (rules, c.in_err-volume.ensures.fault (put_calls (reads_as c.args.edition c.args.image.items).tree c.args.now c.args.path.now c.args.file.bytes.items c.args.file.kept c.args.owner))
