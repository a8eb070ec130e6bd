use Rattle.command_changes.proofs.BuiltVolumes.{has_listed}
use Rattle.command_changes.proofs.laws.volumes_have_their_lists.Goals as goal

pub returns : goal.returns
returns c = has_listed c.lists_are_read_back.ensures
