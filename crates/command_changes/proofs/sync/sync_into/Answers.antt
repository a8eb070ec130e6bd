use Rattle.command_changes.proofs.Imported.{unimported}
use Rattle.command_changes.proofs.SyncedTrees.{kept_made, kept_reason}
use Rattle.command_changes.proofs.sync.sync_into.Goals as goal

pub returns-in-Ok-clause-made : goal.returns-in-Ok-clause-made
returns-in-Ok-clause-made c = kept_made _ _ _ _ _ c.in-Ok.ensures.synced

pub returns-in-Err-clause-fault : goal.returns-in-Err-clause-fault
returns-in-Err-clause-fault c = unimported _ _ _ _ _ (kept_reason _ _ c.args.syncing c.args.members.items _ c.in-Err.ensures.fault) c.fault_of.ensures
