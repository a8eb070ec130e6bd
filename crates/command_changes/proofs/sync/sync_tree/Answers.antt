use Rattle.command_changes.proofs.TracedCalls.{import_among}
use Rattle.command_changes.proofs.sync.sync_tree.Goals as goal

pub returns : goal.returns
returns c = import_among _ _ _ _ _ _ c.sync_into-made.ensures.made c.sync_into-made.ensures.fault (c.traced.ensures.made, c.traced.ensures.memory, c.traced.ensures.fault)
