use Rattle.std.proofs.Common.{refl}
use Rattle.command_changes.proofs.SyncedTrees.{image_synced, unsynced}
use Rattle.command_changes.proofs.sync.sync_image.Goals as goal

pub returns-in-Ok-clause-synced : goal.returns-in-Ok-clause-synced
returns-in-Ok-clause-synced c =
    image_synced _ _ c.args.syncing c.args.extra c.args.members.items c.in-Ok.synced _ c.in-Ok.ensures.synced c.unmount.ensures.bytes refl refl

pub returns-in-Err-clause-fault : goal.returns-in-Err-clause-fault
returns-in-Err-clause-fault c = unsynced _ _ c.args.syncing c.args.extra c.args.members.items _ _ c.in-Err.ensures.fault c.fault_of.ensures
