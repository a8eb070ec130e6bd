use Rattle.vol_dir.proofs.WalkLaws.{found_in_use}
use Rattle.vol_volume.proofs.checked_calls.asked.entry_of.Goals as goal

pub returns-in-Ok-clause-used : goal.returns-in-Ok-clause-used
returns-in-Ok-clause-used c =
    found_in_use c.args.geometry.now c.args.image.now c.args.dir c.args.name.now c.in-Ok.entry.inode c.requires.stands.entries c.requires.directory
    c.in-Ok.ensures.number
