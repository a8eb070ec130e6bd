use Rattle.vol_archive.specs.Export.{is_directory}
use Rattle.vol_rescue.proofs.KnownEntries.{false_and, none_from}
use Rattle.vol_rescue.proofs.outcomes.is_known_entry.Goals as goal

pub returns-in-None : goal.returns-in-None
returns-in-None c =
    let geometry = c.args.geometry.now in
    let image = c.args.image.now in
    let none = none_from geometry image c.args.d c.args.s c.in-None.ensures in
    rw none (false_and (is_directory geometry image c.args.d))
