use Rattle.command_changes.proofs.RepairLaws.{repairs_copied, rescues_copied}
use Rattle.command_changes.proofs.laws.repairs_are_copies.Goals as goal

pub returns-clause-repaired : goal.returns-clause-repaired
returns-clause-repaired c = repairs_copied

pub returns-clause-rescued : goal.returns-clause-rescued
returns-clause-rescued c = rescues_copied
