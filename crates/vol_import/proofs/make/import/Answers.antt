use Rattle.vol_import.proofs.MadeMembers.{archive_had}
use Rattle.vol_import.proofs.SortRuns.{plain_made, plain_reason}
use Rattle.vol_import.proofs.make.import.Goals as goal

pub returns-in-Ok-clause-made : goal.returns-in-Ok-clause-made
returns-in-Ok-clause-made c =
    plain_made c.args.edition c.args.image.items c.args.archive.items c.args.base.now c.in-Ok.imported.bytes.items c.args.now c.in-Ok.ensures.made

pub returns-in-Ok-clause-members : goal.returns-in-Ok-clause-members
returns-in-Ok-clause-members c =
    archive_had c.args.edition c.args.image.items c.args.archive.items c.args.base.now c.in-Ok.imported.bytes.items c.args.now (returns-in-Ok-clause-made c)

pub returns-in-Err-clause-fault : goal.returns-in-Err-clause-fault
returns-in-Err-clause-fault c =
    plain_reason c.args.edition c.args.image.items c.args.archive.items c.args.base.now c.args.now c.in-Err.fault c.in-Err.ensures.fault
