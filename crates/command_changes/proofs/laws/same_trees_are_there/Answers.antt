use Rattle.command_changes.proofs.SyncLaws.{same_there}
use Rattle.command_changes.proofs.laws.same_trees_are_there.Goals as goal

pub returns : goal.returns
returns c = same_there
