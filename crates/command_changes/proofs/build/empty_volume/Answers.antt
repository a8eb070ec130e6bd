use Rattle.std.proofs.Common.{refl}
use Rattle.command_changes.proofs.UnbuiltVolumes.{not_made}
use Rattle.command_changes.proofs.build.empty_volume.Goals as goal

pub returns-in-Err-clause-fault : goal.returns-in-Err-clause-fault
returns-in-Err-clause-fault c = not_made c.args.volume c.args.owner _ _ _ refl c.in-Err.ensures.bounds c.in-Err.ensures.bad_id c.unmade.ensures
