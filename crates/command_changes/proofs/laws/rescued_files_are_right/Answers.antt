use Rattle.command_changes.proofs.RepairLaws.{rescued_files}
use Rattle.command_changes.proofs.laws.rescued_files_are_right.Goals as goal

pub returns : goal.returns
returns c = rescued_files c.repaired_files_are_right.ensures
